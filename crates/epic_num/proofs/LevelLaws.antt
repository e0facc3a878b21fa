-- What a first byte says is what it was made of, and what holds of each.
use Rattle.std.proofs.Common.{◌≡◌, ◌⊎◌, inl, inr, ℕ, Bool, true, false, refl, sym, subst}
use Rattle.std.specs.Prelude.{◌||◌, ◌==◌}
use Rattle.std.proofs.lemmas.Bool.{eqb-true}
use Rattle.epic_num.specs.declared.hop.Level.{Level}
use Rattle.epic_num.specs.declared.hop.Level.TheVariants.{L0, L1, L2, L3}
use Rattle.epic_num.specs.Levels.{level_number, first_byte, is_first_byte, is_tagged, is_updated, level_of, version_of}

pub level_of-first_byte_1 : (level : Level) → level_of (first_byte 1 level) ≡ level
unfolding level_of first_byte level_number
level_of-first_byte_1 L0 = refl
level_of-first_byte_1 L1 = refl
level_of-first_byte_1 L2 = refl
level_of-first_byte_1 L3 = refl

pub level_of-first_byte_2 : (level : Level) → level_of (first_byte 2 level) ≡ level
unfolding level_of first_byte level_number
level_of-first_byte_2 L0 = refl
level_of-first_byte_2 L1 = refl
level_of-first_byte_2 L2 = refl
level_of-first_byte_2 L3 = refl

pub version_of-first_byte_1 : (level : Level) → version_of (first_byte 1 level) ≡ 1
unfolding version_of first_byte level_number
version_of-first_byte_1 L0 = refl
version_of-first_byte_1 L1 = refl
version_of-first_byte_1 L2 = refl
version_of-first_byte_1 L3 = refl

pub version_of-first_byte_2 : (level : Level) → version_of (first_byte 2 level) ≡ 2
unfolding version_of first_byte level_number
version_of-first_byte_2 L0 = refl
version_of-first_byte_2 L1 = refl
version_of-first_byte_2 L2 = refl
version_of-first_byte_2 L3 = refl

-- what holds of the first bytes that packets have
pub at_first : (P : ℕ → Type 0) → P 0xE0 → P 0xE1 → P 0xE2 → P 0xE3 → P 0xF2 → P 0xF3 → (first : ℕ) → is_first_byte first ≡ true → P first
unfolding is_first_byte
at_first P a b c d e f first known =
    either (first == 0xE0) _ (λ h. subst P (sym (eqb-true first 0xE0 h)) a)
    (either (first == 0xE1) _ (λ h. subst P (sym (eqb-true first 0xE1 h)) b)
    (either (first == 0xE2) _ (λ h. subst P (sym (eqb-true first 0xE2 h)) c)
    (either (first == 0xE3) _ (λ h. subst P (sym (eqb-true first 0xE3 h)) d)
    (either (first == 0xF2) _ (λ h. subst P (sym (eqb-true first 0xF2 h)) e)
    (either (first == 0xF3) false (λ h. subst P (sym (eqb-true first 0xF3 h)) f) (λ h. absurd (cc)))))))
    known
  where
    either : (x y : Bool) → (x ≡ true → P first) → (y ≡ true → P first) → (x || y) ≡ true → P first
    either true y g h k = g refl
    either false y g h k = h k

-- without a destination field it is of level 0 or 1
pub untagged : (first : ℕ) → is_first_byte first ≡ true → is_tagged first ≡ false → (level_of first ≡ L0) ⊎ (level_of first ≡ L1)
unfolding is_tagged level_of
untagged =
    at_first (λ f. is_tagged f ≡ false → (level_of f ≡ L0) ⊎ (level_of f ≡ L1))
    (λ h. inl refl) (λ h. inr refl) (λ h. absurd (cc)) (λ h. absurd (cc)) (λ h. absurd (cc)) (λ h. absurd (cc))

-- at level 3 it has one
pub updated_tagged : (first : ℕ) → is_first_byte first ≡ true → is_updated first ≡ true → is_tagged first ≡ true
unfolding is_tagged is_updated level_of level_number
updated_tagged =
    at_first (λ f. is_updated f ≡ true → is_tagged f ≡ true)
    (λ h. absurd (cc)) (λ h. absurd (cc)) (λ h. refl) (λ h. refl) (λ h. refl) (λ h. refl)
