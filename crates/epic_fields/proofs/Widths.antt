-- How long fields and updates are.
use Rattle.std.proofs.Common.{◌≡◌, ℕ, ◌+◌, ◌<◌, ◌≤◌, Bool, true, false, sym, subst, List, length, take, drop, refl, ap, ◌∙◌, arith, length-drop, length-take-le}
use Rattle.std.specs.Prelude.{nat_lt, ◌==◌, ◌||◌, if◌then◌else◌}
use Rattle.std.proofs.lemmas.Bool.{cond_both, eqb-true}
use Rattle.epic_cmac.proofs.CmacFacts.{length-cmac}
use Rattle.epic_num.specs.declared.hop.HopName.{HopName}
use Rattle.epic_num.specs.declared.hop.Level.{Level}
use Rattle.epic_num.specs.declared.hop.Level.TheVariants.{L0, L1, L2, L3}
use Rattle.epic_num.specs.Levels.{is_first_byte, level_of, level_number, width_of}
use Rattle.epic_num.specs.Messages.{field1_message}
use Rattle.epic_layout.specs.Contents.{Contents}
use Rattle.epic_topo.specs.Network.{Network}
use Rattle.epic_fields.specs.Formulas.{authenticator, field0, field1, field23, field_part, update_part, dest_tag}
use Rattle.epic_fields.specs.PacketTags.{tag_over, field_by, field_over, update_over, update_of, dest_field_of}
use Rattle.epic_fields.specs.Tags.{sigma}

width_small : (first : ℕ) → width_of first ≤ 6
unfolding width_of
width_small first = cond_both (nat_lt first 0xF0) 3 6 (λ n. n ≤ 6) (λ e. omega arith) (λ e. omega arith)

length-update_part : (first : ℕ) (tag : List ℕ) → length tag ≡ 16 → length (update_part first tag) ≡ width_of first
unfolding update_part
length-update_part first tag e =
    let small = width_small first in
    length-take-le (width_of first) (drop (width_of first) tag) (omega (arith, length-drop (width_of first) tag))

pub length-update_of : (t : Network) (x : HopName) (p : Contents) (j : ℕ) → length (update_of t x p j) ≡ width_of p.first
unfolding update_of update_over tag_over field23
length-update_of t x p j = length-update_part p.first _ (length-cmac _ _)

-- ---- fields

length-field_part : (first : ℕ) (tag : List ℕ) → length tag ≡ 16 → length (field_part first tag) ≡ width_of first
unfolding field_part
length-field_part first tag e = (let small = width_small first in length-take-le (width_of first) tag (omega (arith, e)))

-- fields of levels 0 and 1 have three bytes
narrow : (level : Level) (first : ℕ) → level_of first ≡ level → is_first_byte first ≡ true → (level_number level ≤ 1 → width_of first ≡ 3)
unfolding is_first_byte level_of level_number width_of
narrow level first is exists =
    either (first == 0xE0) _ (at 0xE0 (λ e few. refl))
    (either (first == 0xE1) _ (at 0xE1 (λ e few. refl))
    (either (first == 0xE2) _ (at 0xE2 (λ e few. refl))
    (either (first == 0xE3) _ (at 0xE3 (λ e few. refl))
    (either (first == 0xF2) _ (at 0xF2 (λ e few. absurd (let two : 2 ≤ level_number level = subst (λ l. 2 ≤ level_number l) e (omega arith) in omega (arith, two, few))))
    (either (first == 0xF3) false (at 0xF3 (λ e few. absurd (let three : 2 ≤ level_number level = subst (λ l. 2 ≤ level_number l) e (omega arith) in omega (arith, three, few)))) (λ e _ _. absurd (cc)))))))
    exists is
  where
    either : (a b : Bool) → (a ≡ true → level_of first ≡ level → level_number level ≤ 1 → width_of first ≡ 3) → (b ≡ true → level_of first ≡ level → level_number level ≤ 1 → width_of first ≡ 3)
        → (a || b) ≡ true → level_of first ≡ level → level_number level ≤ 1 → width_of first ≡ 3
    either true b f g e = f refl
    either false b f g e = g e

    at : (m : ℕ) → (level_of m ≡ level → level_number level ≤ 1 → width_of m ≡ 3) → (first == m) ≡ true → level_of first ≡ level → level_number level ≤ 1 → width_of first ≡ 3
    at m f e = subst (λ (k : ℕ). level_of k ≡ level → level_number level ≤ 1 → width_of k ≡ 3) (sym (eqb-true first m e)) f

by_level : (level : Level) (shared s : List ℕ) (p : Contents) (j : ℕ) → is_first_byte p.first ≡ true → level_of p.first ≡ level → length s ≡ 16
    → length (field_by level shared s p j) ≡ width_of p.first
unfolding field_by field0 field1 tag_over field23 level_number
by_level L0 shared s p j exists is long = length-take-le 3 s (omega (arith, long)) ∙ sym (narrow L0 p.first is exists (omega arith))
by_level L1 shared s p j exists is long =
    length-take-le 3 _ (omega (arith, length-cmac s (field1_message p.ts p.src j))) ∙ sym (narrow L1 p.first is exists (omega arith))
by_level L2 shared s p j exists is long = length-field_part p.first _ (length-cmac _ _)
by_level L3 shared s p j exists is long = length-field_part p.first _ (length-cmac _ _)

pub length-field_over : (shared s : List ℕ) (p : Contents) (j : ℕ) → is_first_byte p.first ≡ true → length s ≡ 16 → length (field_over shared s p j) ≡ width_of p.first
unfolding field_over
length-field_over shared s p j exists long = by_level (level_of p.first) shared s p j exists refl long

pub length-sigma : (t : Network) (x : HopName) → length (sigma t x) ≡ 16
unfolding sigma authenticator
length-sigma t x = length-cmac _ _

pub length-dest_field : (t : Network) (p : Contents) (us : List (List ℕ)) → length (dest_field_of t p us) ≡ 16
unfolding dest_field_of dest_tag
length-dest_field t p us = length-cmac _ _
