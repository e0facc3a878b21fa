use Rattle.std.proofs.Common.{ℕ, ◌%◌, ap, ◌∙◌}
use Rattle.std.specs.Ordering.{nat_cmp}
use Rattle.epic_tree.proofs.Indexing.{tagged_cut, tagged_find, same_number}
use Rattle.epic_tree.proofs.tests.Keyed.find.Goals as goal

pub find-requires-clause-cut : goal.find-requires-clause-cut
find-requires-clause-cut c =
    rw c.as_slice.ensures.value (tagged_cut nat_cmp (λ (k : ℕ). k % 10) 0 _ _ c.self.invariant c.args.key)

pub returns : goal.returns
returns c =
    rw (← c.self.view_is)
    (rw c.as_slice.ensures.value at c.find.ensures
    ∙ tagged_find nat_cmp (λ (k : ℕ). k % 10) 0 _ _ (λ y z e. ap (λ (k : ℕ). k % 10) (same_number y z e)) c.self.invariant c.args.key)
