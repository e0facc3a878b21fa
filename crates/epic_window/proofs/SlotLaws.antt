-- Slots: one more entry in one, and the entries of several in a row.
use Rattle.std.proofs.Common.{◌≡◌, ℕ, ◌+◌, add-one, refl, ◌∙◌, ap, List, Bool, true, false, ◌&&◌, ◌==◌, arith}
use Rattle.std.proofs.lemmas.Bool.{and_parts, eqb-true}
use Rattle.std.specs.Prelude.{unwrap_or, Option, Some, cond}
use Rattle.std.specs.Map.{lookup}
use Rattle.epic_num.specs.declared.name.AsId.{AsId}
use Rattle.epic_window.specs.Counts.{in_slot, in_slots}
use Rattle.epic_window.specs.declared.slots.Slot.{Slot}

pub in_slots-none : (slots : List (Slot × ℕ)) (asn : AsId) (b : ℕ) → in_slots slots asn b 0 ≡ 0
unfolding in_slots
in_slots-none slots asn b = refl

pub in_slots-more : (slots : List (Slot × ℕ)) (asn : AsId) (b n : ℕ) → in_slots slots asn b (n + 1) ≡ in_slots slots asn b n + in_slot slots asn (b + n)
unfolding in_slots
in_slots-more slots asn b n = rw add-one refl

-- two names of one slot
pub same_slot : (slots : List (Slot × ℕ)) (asn a : AsId) (c b : ℕ) → (asn.0 == a.0 && c == b) ≡ true → in_slot slots asn c ≡ in_slot slots a b
unfolding in_slot
same_slot slots asn a c b e =
    let parts : ((asn.0 == a.0) ≡ true) × ((c == b) ≡ true) = and_parts (asn.0 == a.0) (c == b) e in
    ap (λ n. unwrap_or (lookup (λ (s : Slot). n == s.asn.0 && c == s.bucket) slots) 0) (eqb-true asn.0 a.0 parts.0)
    ∙ ap (λ n. unwrap_or (lookup (λ (s : Slot). a.0 == s.asn.0 && n == s.bucket) slots) 0) (eqb-true c b parts.1)

-- one more in a slot, where `count` were
pub one_more : (here : Bool) (new old : Option ℕ) (count : ℕ) → new ≡ cond here (Some (count + 1)) old → (here ≡ true → count ≡ unwrap_or old 0) → unwrap_or new 0 ≡ unwrap_or old 0 + cond here 1 0
one_more true new old count e f = rw e (omega (arith, f refl))
one_more false new old count e f = rw e (omega arith)
