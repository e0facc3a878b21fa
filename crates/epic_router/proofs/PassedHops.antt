-- A packet past one hop and past two, with the updates that the hops' router made of it.
use Rattle.std.proofs.Common.{◌≡◌, ℕ, ◌+◌, ◌<◌, ◌≤◌, ◌⊎◌, Bool, true, false, List, [], ◌∷◌, length, Ok, None, refl, ap, sym, subst, ◌∙◌, ⊎_elim, arith}
use Rattle.std.proofs.lemmas.Bool.{cond-true, cond-false, cond_both, cases_Bool}
use Rattle.epic_num.specs.declared.hop.Field.{Field}
use Rattle.epic_num.specs.declared.name.AsId.{AsId}
use Rattle.epic_num.specs.Levels.{is_first_byte, is_updated, width_of}
use Rattle.epic_num.specs.Tables.{unless}
use Rattle.epic_layout.specs.declared.shape.Shape.{Shape}
use Rattle.epic_layout.specs.Contents.{Contents, header_len, hop_count, shape, advanced, as_field, field_bytes, with_field}
use Rattle.epic_layout.specs.Layout.{checked, fault, parse}
use Rattle.epic_layout.specs.Spelling.{spelling}
use Rattle.epic_layout.proofs.Soundness.{checked_value}
use Rattle.epic_topo.specs.Network.{Network}
use Rattle.epic_fields.specs.HopChecks.{hop_name}
use Rattle.epic_fields.specs.PacketTags.{update_of}
use Rattle.epic_fields.proofs.FieldBytes.{field_read}
use Rattle.epic_router.specs.Leaving.{updated, hop_on, hops_on}
use Rattle.epic_router.specs.Passing.{HasWidth, IsUpdate, passed, updated_by}
use Rattle.epic_router.proofs.After.{on_alike, on_current, update_alike}

-- ---- what stays: the sizes, and which hop of how many is the current one

shape_updated : (u : List ℕ) (p : Contents) → shape (updated_by u p) ≡ shape p
unfolding updated_by with_field shape header_len
shape_updated u p = cond_both (is_updated p.first) (with_field p p.current u) p (λ q. shape q ≡ shape p) (λ _. refl) (λ _. refl)

shape_passed : (u : List ℕ) (p : Contents) → shape (passed u p) ≡ shape p
unfolding passed advanced updated_by with_field shape header_len
shape_passed u p = cond_both (is_updated p.first) (with_field p p.current u) p (λ q. shape (advanced q 1) ≡ shape p) (λ _. refl) (λ _. refl)

checked_kept : (b c : List ℕ) (sizes : Shape) (q : Contents) → Ok sizes ≡ checked b → fault is_first_byte c ≡ None → parse c ≡ q → shape q ≡ shape (parse b) → Ok sizes ≡ checked c
checked_kept b c sizes q e ok is same =
    ap Ok (checked_value b sizes (shape (parse b)) e ∙ sym same ∙ sym (ap shape is)) ∙ sym (ap (λ f. unless f (shape (parse c))) ok)

pub updated_checked : (b c : List ℕ) (sizes : Shape) (u : List ℕ) → Ok sizes ≡ checked b → fault is_first_byte c ≡ None → parse c ≡ updated_by u (parse b) → Ok sizes ≡ checked c
updated_checked b c sizes u e ok is = checked_kept b c sizes (updated_by u (parse b)) e ok is (shape_updated u (parse b))

pub passed_checked : (b c : List ℕ) (sizes : Shape) (u : List ℕ) → Ok sizes ≡ checked b → fault is_first_byte c ≡ None → parse c ≡ passed u (parse b) → Ok sizes ≡ checked c
passed_checked b c sizes u e ok is = checked_kept b c sizes (passed u (parse b)) e ok is (shape_passed u (parse b))

pub updated_there : (u : List ℕ) (p q : Contents) → q ≡ updated_by u p → p.current < hop_count p → q.current + 1 ≤ hop_count q
unfolding updated_by with_field
updated_there u p q is h =
    subst (λ (r : Contents). r.current + 1 ≤ hop_count r) (sym is)
    (cond_both (is_updated p.first) (with_field p p.current u) p (λ r. r.current + 1 ≤ hop_count r) (λ _. omega (arith, h)) (λ _. omega (arith, h)))

pub passed_there : (u : List ℕ) (p q : Contents) → q ≡ passed u p → p.current + 1 < hop_count p → q.current < hop_count q
unfolding passed advanced updated_by with_field
passed_there u p q is h =
    subst (λ (r : Contents). r.current < hop_count r) (sym is)
    (cond_both (is_updated p.first) (with_field p p.current u) p (λ r. (advanced r 1).current < hop_count (advanced r 1)) (λ _. omega (arith, h)) (λ _. omega (arith, h)))

passed_first : (u : List ℕ) (p : Contents) → (passed u p).first ≡ p.first
unfolding passed advanced updated_by with_field
passed_first u p = cond_both (is_updated p.first) (with_field p p.current u) p (λ q. (advanced q 1).first ≡ p.first) (λ _. refl) (λ _. refl)

pub passed_width : (u : List ℕ) (p q : Contents) (f : Field) → q ≡ passed u p → HasWidth p f → HasWidth q f
passed_width u p q f is h e =
    let first : q.first ≡ p.first = ap (λ (r : Contents). r.first) is ∙ passed_first u p in
    h (ap is_updated (sym first) ∙ e) ∙ ap width_of (sym first)

-- ---- under the keys of a topology

passed_on : (t : Network) (a : AsId) (g : ℕ) (p : Contents) (f : Field) → IsUpdate t a g p p.current f → passed (field_bytes f) p ≡ hop_on t a g p
unfolding passed updated_by hop_on updated
passed_on t a g p f right =
    let u = update_of t (hop_name a g p p.current) p p.current in
    let v = field_bytes f in
    ap (λ q. advanced q 1)
    (⊎_elim
    (λ e. cond-true (is_updated p.first) (with_field p p.current v) p e
    ∙ ap (with_field p p.current) (field_read f u (right e))
    ∙ sym (cond-true (is_updated p.first) (with_field p p.current u) p e))
    (λ e. cond-false (is_updated p.first) (with_field p p.current v) p e ∙ sym (cond-false (is_updated p.first) (with_field p p.current u) p e))
    (cases_Bool (is_updated p.first)))

-- the next hop's update is the same past this hop
next_update : (t : Network) (a : AsId) (g h : ℕ) (p : Contents) (f : Field) → IsUpdate t a h p (p.current + 1) f → IsUpdate t a h (hop_on t a g p) (hop_on t a g p).current f
next_update t a g h p f right e =
    let q = hop_on t a g p in
    let alike = on_alike t a g p in
    right (ap is_updated (sym alike.first) ∙ e)
    ∙ ap as_field
    (sym (update_alike t a h p q (p.current + 1) alike)
    ∙ ap (λ j. update_of t (hop_name a h q j) q j) (sym (on_current t a g p)))

pub one_on : (t : Network) (a : AsId) (g : ℕ) (b c : List ℕ) (f : Field)
    → parse c ≡ passed (field_bytes f) (parse b) → c ≡ spelling (parse c) → IsUpdate t a g (parse b) (parse b).current f
    → c ≡ spelling (hops_on t a (g ∷ []) (parse b))
one_on t a g b c f is spelled right = spelled ∙ ap spelling (is ∙ passed_on t a g (parse b) f right)

pub two_on : (t : Network) (a : AsId) (g h : ℕ) (b m c : List ℕ) (f s : Field)
    → parse m ≡ passed (field_bytes f) (parse b) → parse c ≡ passed (field_bytes s) (parse m) → c ≡ spelling (parse c)
    → IsUpdate t a g (parse b) (parse b).current f → IsUpdate t a h (parse b) ((parse b).current + 1) s
    → c ≡ spelling (hops_on t a (g ∷ h ∷ []) (parse b))
two_on t a g h b m c f s one two spelled right next =
    let q = hop_on t a g (parse b) in
    let at : parse m ≡ q = one ∙ passed_on t a g (parse b) f right in
    spelled ∙ ap spelling (two ∙ ap (passed (field_bytes s)) at ∙ passed_on t a h q s (next_update t a g h (parse b) s next))
