-- The hops at which a chain breaks are of the network.
use Rattle.std.proofs.Common.{◌≡◌, ◌≢◌, ℕ, zero, suc, ◌-◌, Bool, true, false, ◌&&◌, List, [], ◌∷◌, Option, Some, None, refl, sym, ap, subst, ◌∙◌}
use Rattle.std.specs.Prelude.{◌==◌, nat_lt, option_map, option_and_then, unwrap_or, slice_get, find, IsTrue, if◌then◌else◌}
use Rattle.std.specs.List.{All, list_any}
use Rattle.std.specs.Option.{option_map_or}
use Rattle.std.proofs.lemmas.Bool.{and_parts}
use Rattle.std.proofs.lemmas.List.Elements.{All-head, All-tail}
use Rattle.std.proofs.lemmas.Option.{same_Some}
use Rattle.epic_num.specs.Chains.{Issue, issue_at, name_of, no_name}
use Rattle.epic_num.specs.Same.{same_name}
use Rattle.epic_num.specs.declared.hop.HopName.{HopName}
use Rattle.epic_num.proofs.SameLaws.{same_name-Decides}
use Rattle.epic_layout.specs.Contents.{Contents}
use Rattle.epic_layout.specs.Route.{place, is_first}
use Rattle.epic_topo.specs.Network.{Network, has}
use Rattle.epic_ledger.specs.Facts.{Facts, Pass, pass_name}
use Rattle.epic_ledger.specs.Queries.{chain_pass, issue_of, is_on_path}
use Rattle.epic_audit.specs.Clauses.{higher, lower}
use Rattle.epic_audit.specs.Verdicts.{broken, broken_between, broken_chain, is_child, parent_name}
use Rattle.epic_judging.specs.Given.{one_link}
use Rattle.epic_judging.specs.HopTests.{collided_in_chain}
use Rattle.epic_num.specs.declared.verdict.Collision.{Collision}
use Rattle.epic_judge.specs.Known.{AreKnown}

-- an element is one of all
all_there : {X : Type 0} (P : X → Type 0) (xs : List X) (n : ℕ) (x : X) → All P xs → slice_get xs n ≡ Some x → P x
all_there P [] n x h e = absurd (cc)
all_there P (y ∷ ys) zero x h e = subst P (same_Some y x e) (All-head P y ys h)
all_there P (y ∷ ys) (suc n) x h e = all_there P ys n x (All-tail P y ys h) e

pub all_found : {X : Type 0} (P : X → Type 0) (q : X → Bool) (xs : List X) (x : X) → All P xs → find q xs ≡ Some x → P x
all_found P q [] x h e = absurd (cc)
all_found {X} P q (y ∷ ys) x h e = by (q y) (all_found P q ys x (All-tail P y ys h)) e
  where
    by : (b : Bool) → (find q ys ≡ Some x → P x) → (if b then Some y else find q ys) ≡ Some x → P x
    by true rest k = subst P (same_Some y x k) (All-head P y ys h)
    by false rest k = rest k

-- of the AS of a name
abbrev pub IsOf : Network → HopName → Type 0
IsOf t x = IsTrue (has t x.asn)

pub issue_known : (t : Network) (issues : List Issue) (number : ℕ) (x : HopName) → All (λ i. IsOf t i.name) issues → name_of issues number ≡ Some x → IsOf t x
unfolding name_of issue_at
issue_known t issues number x h e = by (number == 0) e
  where
    at : (o : Option Issue) → slice_get issues (number - 1) ≡ o → option_map (λ i. i.name) o ≡ Some x → IsOf t x
    at None there k = absurd (cc)
    at (Some i) there k = subst (IsOf t) (same_Some i.name x k) (all_there (λ j. IsOf t j.name) issues (number - 1) i h there)

    by : (b : Bool) → option_map (λ i. i.name) (if b then None else slice_get issues (number - 1)) ≡ Some x → IsOf t x
    by true k = absurd (cc)
    by false k = at (slice_get issues (number - 1)) refl k

-- the parent of an issue is no one, or known
parent_known : (t : Network) (issues : List Issue) (number : ℕ) → All (λ i. IsOf t i.name) issues → (parent_name issues number).asn.0 ≢ 0 → IsOf t (parent_name issues number)
unfolding parent_name
parent_known t issues number h some = by (issue_at issues number) some
  where
    named : (o : Option HopName) (n : ℕ) → name_of issues n ≡ o → (unwrap_or o no_name).asn.0 ≢ 0 → IsOf t (unwrap_or o no_name)
    named None n e k = absurd (k refl)
    named (Some x) n e k = issue_known t issues n x h e

    by : (o : Option Issue) → (unwrap_or (option_and_then (λ i. name_of issues i.parent) o) no_name).asn.0 ≢ 0 → IsOf t (unwrap_or (option_and_then (λ i. name_of issues i.parent) o) no_name)
    by None k = absurd (k refl)
    by (Some i) k = named (name_of issues i.parent) i.parent refl k

lower_known : (t : Network) (w x : HopName) → IsOf t w → IsOf t x → IsOf t (lower w x)
unfolding lower
lower_known t w x a b = by (nat_lt w.body.pos x.body.pos)
  where
    by : (c : Bool) → IsOf t (if c then w else x)
    by true = a
    by false = b

pass_of_known : (t : Network) (w : Pass) → IsTrue (has t w.asn) → IsOf t (pass_name w)
unfolding pass_name
pass_of_known t w h = h

abbrev BothKnown : Network → HopName × HopName → Type 0
BothKnown t pair = IsOf t pair.0 × (pair.1.asn.0 ≢ 0 → IsOf t pair.1)

broken_known : (t : Network) (issues : List Issue) (y z : HopName) (pair : HopName × HopName) → All (λ i. IsOf t i.name) issues → IsOf t z → broken_between issues y z ≡ Some pair → BothKnown t pair
unfolding broken_between
broken_known t issues y z pair h known e = by (issue_of issues y) (list_any (is_child issues y z) issues) e
  where
    by : (o : Option ℕ) (b : Bool) → broken issues z o b ≡ Some pair → BothKnown t pair
    by None b k = absurd (cc)
    by (Some n) true k = absurd (cc)
    by (Some n) false k = subst (BothKnown t) (same_Some (z, parent_name issues n) pair k) (known, parent_known t issues n h)

chain_known : (t : Network) (f : Facts) (x : HopName) (p : Contents) (j : ℕ) (pair : HopName × HopName) → AreKnown t f → IsOf t x → broken_chain f x p j ≡ Some pair → BothKnown t pair
unfolding broken_chain chain_pass
chain_known t f x p j pair known is e = by (is_first (place p.route.segments j)) (find (is_on_path p.route (j - 1)) f.passes) refl e
  where
    by : (b : Bool) (o : Option Pass) → find (is_on_path p.route (j - 1)) f.passes ≡ o
        → (if b then None else option_and_then (λ w. broken_between f.issues (higher (pass_name w) x) (lower (pass_name w) x)) o) ≡ Some pair → BothKnown t pair
    by true o there k = absurd (cc)
    by false None there k = absurd (cc)
    by false (Some w) there k =
        let passed = pass_of_known t w (all_found (λ v. IsTrue (has t v.asn)) (is_on_path p.route (j - 1)) f.passes w known.passed there) in
        broken_known t f.issues (higher (pass_name w) x) (lower (pass_name w) x) pair known.issued (lower_known t (pass_name w) x passed is) k

-- two hops that a line names, at which the chain of hop j breaks
pub breaks_known : (t : Network) (f : Facts) (x : HopName) (p : Contents) (j : ℕ) (c : Collision) → AreKnown t f → IsOf t x → c.right.asn.0 ≢ 0
    → collided_in_chain t f x p j c ≡ true → IsOf t c.left × IsOf t c.right
unfolding collided_in_chain
breaks_known t f x p j c known is some e = by (broken_chain f x p j) refl ((and_parts _ _ e).0)
  where
    by : (o : Option (HopName × HopName)) → broken_chain f x p j ≡ o → option_map_or (λ pair. same_name c.left pair.0 && same_name c.right pair.1) o false ≡ true
        → IsOf t c.left × IsOf t c.right
    by None there k = absurd (cc)
    by (Some pair) there k =
        let both = chain_known t f x p j pair known is there in
        let parts = and_parts (same_name c.left pair.0) (same_name c.right pair.1) k in
        let left : c.left ≡ pair.0 = (same_name-Decides c.left pair.0).0 parts.0 in
        let right : c.right ≡ pair.1 = (same_name-Decides c.right pair.1).0 parts.1 in
        (subst (IsOf t) (sym left) both.0, subst (IsOf t) (sym right) (both.1 (subst (λ (y : HopName). y.asn.0 ≢ 0) right some)))

-- so there is no such collision where one of them is not
pub unknown_left : (t : Network) (f : Facts) (x : HopName) (p : Contents) (j : ℕ) (c : Collision) → AreKnown t f → IsOf t x → c.right.asn.0 ≢ 0
    → has t c.left.asn ≡ false → false ≡ collided_in_chain t f x p j c
unknown_left t f x p j c known is some e = by (collided_in_chain t f x p j c) refl
  where
    by : (b : Bool) → collided_in_chain t f x p j c ≡ b → false ≡ b
    by false k = refl
    by true k = let there = (breaks_known t f x p j c known is some k).0 in absurd (cc)

pub unknown_right : (t : Network) (f : Facts) (x : HopName) (p : Contents) (j : ℕ) (c : Collision) → AreKnown t f → IsOf t x → c.right.asn.0 ≢ 0
    → has t c.right.asn ≡ false → false ≡ collided_in_chain t f x p j c
unknown_right t f x p j c known is some e = by (collided_in_chain t f x p j c) refl
  where
    by : (b : Bool) → collided_in_chain t f x p j c ≡ b → false ≡ b
    by false k = refl
    by true k = let there = (breaks_known t f x p j c known is some k).1 in absurd (cc)
