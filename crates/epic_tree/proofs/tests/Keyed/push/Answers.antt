use Rattle.std.proofs.Common.{ℕ, ◌%◌}
use Rattle.std.specs.Ordering.{nat_cmp}
use Rattle.std.proofs.lemmas.Cmp.{nat_cmp_total}
use Rattle.epic_tree.proofs.Indexing.{tagged_cut, tagged_kept, tagged_push}
use Rattle.epic_tree.proofs.tests.Keyed.push.Goals as goal

pub add-requires-clause-cut : goal.add-requires-clause-cut
add-requires-clause-cut c =
    let kept = tagged_kept nat_cmp (λ (k : ℕ). k % 10) 0 _ _ c.reserve.new.self c.self.invariant c.in_ok-reserve.ensures.places c.in_ok-reserve.ensures.tags in
    rw (c.as_slice.ensures.value, c.in_ok-reserve-2.ensures.items) (tagged_cut nat_cmp (λ (k : ℕ). k % 10) 0 _ _ kept c.args.key)

pub invariant_of-self-2 : goal.invariant_of-self-2
invariant_of-self-2 c =
    let kept = tagged_kept nat_cmp (λ (k : ℕ). k % 10) 0 _ _ c.reserve.new.self c.self.invariant c.in_ok-reserve.ensures.places c.in_ok-reserve.ensures.tags in
    let placed = rw (c.as_slice.ensures.value, c.in_ok-reserve-2.ensures.items) at c.add.ensures.places in
    rw (c.push_reserved.ensures.items, c.in_ok-reserve-2.ensures.items)
    (tagged_push nat_cmp (λ (k : ℕ). k % 10) 0 _ _ c.add.new.self c.args.key nat_cmp_total kept placed c.add.ensures.tags)
