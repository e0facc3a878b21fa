use Rattle.std.proofs.Common.{◌+◌, ◌&&◌, ◌==◌, ◌∙◌, ap, rules}
use Rattle.std.specs.Map.{lookup}
use Rattle.std.specs.Prelude.{cond, unwrap_or, Some}
use Rattle.epic_window.proofs.SlotLaws.{one_more, same_slot}
use Rattle.epic_window.specs.Counts.{in_slot, is_slot}
use Rattle.epic_window.proofs.slots.add.Goals as goal

pub returns-in-Some-clause-counts : goal.returns-in-Some-clause-counts
unfolding in_slot
returns-in-Some-clause-counts c a b =
    let before = c.args.slots.now.entries in
    one_more
    (c.args.asn.0 == a.0 && c.args.bucket == b)
    (lookup (is_slot a b) (c.get_mut.follows.lender (c.in-Some.count.now + 1)).entries)
    (lookup (is_slot a b) before)
    c.in-Some.count.now
    (((c.get_mut.follows.holds (c.in-Some.count.now + 1)).3 (search rules)).0 (record { asn = a; bucket = b }))
    (λ e. ap (λ o. unwrap_or o 0) c.in-Some.ensures.value ∙ same_slot before c.args.asn a c.args.bucket b e)

pub returns-in-Ok-clause-counts : goal.returns-in-Ok-clause-counts
unfolding in_slot
returns-in-Ok-clause-counts c a b =
    let before = c.args.slots.now.entries in
    let here = c.args.asn.0 == a.0 && c.args.bucket == b in
    one_more
    here
    (lookup (is_slot a b) c.insert.new.self.entries)
    (lookup (is_slot a b) before)
    0
    (c.in-Ok.ensures.updates.0 (record { asn = a; bucket = b })
    ∙ ap (λ m. cond here (Some 1) (lookup (is_slot a b) m.entries)) c.get_mut.follows.holds-at-none)
    (λ e. ap (λ o. unwrap_or o 0) c.in-None.ensures.value ∙ same_slot before c.args.asn a c.args.bucket b e)
