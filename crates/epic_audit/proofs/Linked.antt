-- The first issue of a name that goes on from a hop settles whether some issue of that name does.
use Rattle.std.proofs.Common.{◌≡◌, ℕ, suc, ◌<◌, Bool, true, false, List, length, get_or, Option, Some, None, refl, sym, ap, ◌∙◌}
use Rattle.std.specs.Prelude.{◌&&◌, position, option_map, slice_get}
use Rattle.std.specs.List.{list_any}
use Rattle.std.specs.Option.{option_map_or}
use Rattle.std.proofs.lemmas.List.{get_or_default}
use Rattle.std.proofs.lemmas.List.Folds.{list_any_at}
use Rattle.std.proofs.lemmas.List.Quantifiers.{position-Some}
use Rattle.std.proofs.lemmas.Option.{same_Some, slice_get_read}
use Rattle.epic_num.specs.Chains.{Issue, issue_at, name_of}
use Rattle.epic_num.specs.Same.{same_name}
use Rattle.epic_num.specs.declared.hop.HopName.{HopName}
use Rattle.epic_num.proofs.ChainLaws.{issue_at-suc}
use Rattle.epic_ledger.specs.Queries.{issue_of}
use Rattle.epic_audit.specs.Searches.{is_linked}
use Rattle.epic_audit.specs.Verdicts.{is_named, is_child}

both_true : (a b : Bool) → a ≡ true → b ≡ true → (a && b) ≡ true
both_true a b e f = (λ i. e i && f i)

child_there : (issues : List Issue) (y z : HopName) (p : ℕ) (i : Issue) → p < length issues → i ≡ get_or issues p i → same_name i.name y ≡ true → is_named z (name_of issues i.parent) ≡ true → list_any (is_child issues y z) issues ≡ true
unfolding is_child
child_there issues y z p i low is named linked =
    list_any_at (is_child issues y z) issues p i low (ap (is_child issues y z) (sym is) ∙ both_true _ _ named linked)

linked_at : (issues : List Issue) (y z : HopName) (number p : ℕ) → position (λ i. same_name i.name y) issues ≡ Some p → number ≡ suc p → true ≡ is_linked issues number z → list_any (is_child issues y z) issues ≡ true
unfolding is_linked
linked_at issues y z number p is same linked =
    let none : Issue = record { name = y; parent = 0 } in
    let first = position-Some (λ i. same_name i.name y) issues p none is in
    let i : Issue = get_or issues p none in
    let there : i ≡ get_or issues p i = get_or_default issues p none i first.0 in
    let read : slice_get issues p ≡ Some i = slice_get_read issues (length issues) p i refl first.0 there in
    let found : issue_at issues number ≡ Some i = ap (issue_at issues) same ∙ issue_at-suc issues p ∙ read in
    child_there issues y z p i first.0 there first.1 (sym (linked ∙ ap (λ (o : Option Issue). option_map_or (λ j. is_named z (name_of issues j.parent)) o false) found))

linked_by : (issues : List Issue) (y z : HopName) (number : ℕ) (o : Option ℕ) → position (λ i. same_name i.name y) issues ≡ o → Some number ≡ option_map suc o → true ≡ is_linked issues number z → list_any (is_child issues y z) issues ≡ true
linked_by issues y z number None is e linked = absurd (cc)
linked_by issues y z number (Some p) is e linked = linked_at issues y z number p is (same_Some number (suc p) e) linked

pub linked_first : (issues : List Issue) (y z : HopName) (number : ℕ) → Some number ≡ issue_of issues y → true ≡ is_linked issues number z → true ≡ list_any (is_child issues y z) issues
unfolding issue_of
linked_first issues y z number e linked = sym (linked_by issues y z number (position (λ i. same_name i.name y) issues) refl e linked)
