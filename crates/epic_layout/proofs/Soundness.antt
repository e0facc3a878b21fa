-- Bytes without a fault are sound, and sound bytes have no fault.
use Rattle.std.proofs.Common.{◌≡◌, ℕ, zero, suc, ◌≤◌, Bool, false, List, [], ◌∷◌, length, get_or, Option, Some, None, Ok, refl, sym, arith, if◌then◌else◌}
use Rattle.std.proofs.lemmas.Bool.{not-false, ltb-false, eqb-true, le-ltb, eq-eqb, or_parts, or_from, not_from_true}
use Rattle.epic_num.specs.declared.layout_error.LayoutError.{LayoutError}
use Rattle.epic_num.specs.declared.layout_error.LayoutError.TheVariants.{Short}
use Rattle.epic_num.specs.Levels.{is_first_byte}
use Rattle.epic_num.specs.Tables.{first_row, unless}
use Rattle.epic_num.proofs.TableLaws.{row_passed, unless_ok}
use Rattle.epic_layout.specs.Layout.{tests, fault}
use Rattle.epic_layout.specs.Sound.{IsSound}

-- where no test is met, the k-th isn't
passes : (ts : List (Bool × LayoutError)) (k : ℕ) → first_row ts ≡ None → (get_or ts k (false, Short)).0 ≡ false
passes [] k e = refl
passes (t ∷ ts) zero e = (row_passed t (first_row ts) e).0
passes (t ∷ ts) (suc k) e = passes ts k (row_passed t (first_row ts) e).1

pub sound : (b : List ℕ) → fault is_first_byte b ≡ None → IsSound b
unfolding tests
sound b e =
    let ts = tests is_first_byte b in
    let segments = or_parts _ _ (passes ts 3 e) in
    let hops = or_parts _ _ (passes ts 6 e) in
    let header = or_parts _ _ (passes ts 7 e) in
    let payload = or_parts _ _ (passes ts 8 e) in
    record {
      first = not-false _ (passes ts 1 e);
      flags = eqb-true _ _ (not-false _ (passes ts 2 e));
      some_segment = ltb-false _ _ segments.0;
      few_segments = ltb-false _ _ segments.1;
      segments_there = ltb-false _ _ (passes ts 4 e);
      reserved = passes ts 5 e;
      counted = hops.0;
      few_hops = ltb-false _ _ hops.1;
      header = eqb-true _ _ (not-false _ header.0);
      header_there = ltb-false _ _ header.1;
      payload = ltb-false _ _ payload.0;
      whole = eqb-true _ _ (not-false _ payload.1);
      current = ltb-false _ _ (passes ts 9 e);
    }

also : (b : Bool) (f : LayoutError) (r : Option LayoutError) → b ≡ false → r ≡ None → (if b then Some f else r) ≡ None
also b f r p e = rw p e

pub faultless : (b : List ℕ) → IsSound b → fault is_first_byte b ≡ None
unfolding tests
faultless b s =
    let long : 40 ≤ length b = omega (arith, s.some_segment, s.segments_there) in
    also _ _ _ (le-ltb _ _ long)
    (also _ _ _ (not_from_true _ s.first)
    (also _ _ _ (not_from_true _ (eq-eqb _ _ s.flags))
    (also _ _ _ (or_from _ _ (le-ltb _ _ s.some_segment) (le-ltb _ _ s.few_segments))
    (also _ _ _ (le-ltb _ _ s.segments_there)
    (also _ _ _ s.reserved
    (also _ _ _ (or_from _ _ s.counted (le-ltb _ _ s.few_hops))
    (also _ _ _ (or_from _ _ (not_from_true _ (eq-eqb _ _ s.header)) (le-ltb _ _ s.header_there))
    (also _ _ _ (or_from _ _ (le-ltb _ _ s.payload) (not_from_true _ (eq-eqb _ _ s.whole)))
    (also _ _ _ (le-ltb _ _ s.current) refl)))))))))

pub checked_sound : {X : Type 0} (b : List ℕ) (x y : X) → Ok x ≡ unless (fault is_first_byte b) y → IsSound b
checked_sound b x y e = sound b (unless_ok (fault is_first_byte b) y x (sym e)).0

pub checked_value : {X : Type 0} (b : List ℕ) (x y : X) → Ok x ≡ unless (fault is_first_byte b) y → x ≡ y
checked_value b x y e = sym (unless_ok (fault is_first_byte b) y x (sym e)).1

pub ruleset checked = (checked_sound, checked_value)
