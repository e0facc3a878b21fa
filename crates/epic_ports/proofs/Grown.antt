-- What follows of bytes that were added to a file in pieces.
use Rattle.std.proofs.Common.{◌≡◌, ◌<◌, ℕ, List, [], ◌∷◌, ◌++◌, length, Option, Some, None, refl, sym, ◌∙◌, ap, subst, append_assoc, append-nil, arith}
use Rattle.epic_ports.specs.Files.{Files, KeepsFiles, Grows, GrowsBefore, Replaces, bytes_or_none}

-- nothing was added where nothing changed
pub Grows-none : (u : Option Files) (name : List ℕ) → Grows u u name []
Grows-none None name = tt
Grows-none (Some f) name = refl

-- a piece and then another, of which neither is empty
both : (f g h : Files) (name a b : List ℕ)
    → Replaces (Some f) (Some g) name (bytes_or_none (f name) ++ a)
    → Replaces (Some g) (Some h) name (bytes_or_none (g name) ++ b)
    → Replaces (Some f) (Some h) name (bytes_or_none (f name) ++ (a ++ b))
both f g h name a b (is, stays) (then_is, then_stays) = (
  then_is
      ∙ ap (λ held. Some (bytes_or_none held ++ b)) is
      ∙ ap Some (append_assoc (bytes_or_none (f name)) a b),
  λ q other. then_stays q other ∙ stays q other,
)

some_twice : (f g h : Files) (name a b : List ℕ)
    → Grows (Some f) (Some g) name a
    → Grows (Some g) (Some h) name b
    → Grows (Some f) (Some h) name (a ++ b)
some_twice f g h name [] b same next = let P : Files → Type 0 = λ k. Grows (Some k) (Some h) name b in subst P same next
some_twice f g h name (x ∷ a) [] first same =
    let P : Files → Type 0 = λ k. Grows (Some f) (Some k) name (x ∷ (a ++ [])) in
    let Q : List ℕ → Type 0 = λ bytes. Grows (Some f) (Some g) name (x ∷ bytes) in
    subst P (sym same) (subst Q (sym (append-nil a)) first)
some_twice f g h name (x ∷ a) (y ∷ b) first next = both f g h name (x ∷ a) (y ∷ b) first next

no_files : (f : Files) (name a : List ℕ) → Grows (Some f) None name a → ⊥
no_files f name [] grows = grows
no_files f name (x ∷ a) grows = grows

nothing_told : (w : Option Files) (name a : List ℕ) → Grows None w name a
nothing_told w name [] = tt
nothing_told w name (x ∷ a) = tt

-- a piece and then another is both together
pub Grows-trans : (u v w : Option Files) (name a b : List ℕ)
    → Grows u v name a
    → Grows v w name b
    → Grows u w name (a ++ b)
Grows-trans None v w name a b first next = nothing_told w name (a ++ b)
Grows-trans (Some f) None w name a b first next = absurd (no_files f name a first)
Grows-trans (Some f) (Some g) None name a b first next = absurd (no_files g name b next)
Grows-trans (Some f) (Some g) (Some h) name a b first next = some_twice f g h name a b first next

-- some bytes were added, of those that are left none, and there are some
pub GrowsBefore-here : (u v w : Option Files) (name front rest bytes : List ℕ)
    → bytes ≡ front ++ rest
    → 0 < length rest
    → Grows u v name front
    → KeepsFiles v w
    → GrowsBefore u w name bytes
GrowsBefore-here u v w name front [] bytes is some first keeps = absurd (omega arith)
GrowsBefore-here u v w name front (byte ∷ back) bytes is some first keeps = record {
  front = front;
  byte = byte;
  back = back;
  order = is;
  added = let P = Grows u w name in subst P (append-nil front) (Grows-trans u v w name front [] first keeps);
}
