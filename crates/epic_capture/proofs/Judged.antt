-- The table of a record's damages: what each answer says, and that it stays when the file is longer.
use Rattle.std.proofs.Common.{◌≡◌, ℕ, ◌+◌, ◌<◌, ◌≤◌, false, eqb, ltb, Result, Err, refl, arith}
use Rattle.std.proofs.lemmas.Bool.Decides.{nat_tests}
use Rattle.epic_capture.specs.declared.damage.CaptureError.{CaptureError}
use Rattle.epic_capture.specs.declared.damage.CaptureKind.{CaptureKind}
use Rattle.epic_capture.specs.declared.damage.CaptureKind.TheVariants.{Truncated, Fraction, RecordTooLong, PseudoHeader, TooMany, TooLong}
use Rattle.epic_capture.specs.declared.found.Found.{Found}
use Rattle.epic_capture.specs.Capture.{damage, judged, passes}
use Rattle.epic_capture.specs.Reading.{is_truncated}
use Rattle.std.proofs.lemmas.Bool.{cond_both}

-- The three answers: another damage, an early end, the record.
pub judged_cases : (P : Result Found CaptureError → Type 0) (left begin len most fraction captured : ℕ) (found : Result Found CaptureError)
    → ((kind : CaptureKind) (offset : ℕ) → is_truncated kind ≡ false → P (Err (damage kind offset)))
    → (len < 16400 → (begin ≤ 67108864 → begin + len ≤ 67108864) → P (Err (damage Truncated begin)))
    → (0 < left → 16 ≤ captured → captured ≤ 16384 → 16 + captured ≤ len → (begin ≤ 67108864 → begin + (16 + captured) ≤ 67108864) → P found)
    → P (judged left begin len most fraction captured found)
unfolding judged
judged_cases P left begin len most fraction captured found other cut there =
    cond_both (eqb len 0) _ _ P (λ h. cut (grind (arith, nat_tests)) (λ b. grind (arith, nat_tests))) (λ h1.
    cond_both (eqb left 0) _ _ P (λ h. other TooMany begin refl) (λ h2.
    cond_both (passes (begin + 16) (begin + len)) _ _ P (λ h. other TooLong 67108864 refl) (λ h3.
    cond_both (ltb len 16) _ _ P (λ h. cut (grind (arith, nat_tests)) (λ b. grind (arith, nat_tests))) (λ h4.
    cond_both (ltb most fraction) _ _ P (λ h. other Fraction (begin + 4) refl) (λ h5.
    cond_both (ltb 16384 captured) _ _ P (λ h. other RecordTooLong (begin + 8) refl) (λ h6.
    cond_both (ltb captured 16) _ _ P (λ h. other PseudoHeader (begin + 8) refl) (λ h7.
    cond_both (passes (begin + 16 + captured) (begin + len)) _ _ P (λ h. other TooLong 67108864 refl) (λ h8.
    cond_both (ltb len (16 + captured)) _ _ P (λ h. cut (grind (arith, nat_tests)) (λ b. grind (arith, nat_tests))) (λ h9.
    there (grind (arith, nat_tests)) (grind (arith, nat_tests)) (grind (arith, nat_tests)) (grind (arith, nat_tests)) (λ b. grind (arith, nat_tests)))))))))))

-- an answer that is no early end stays, where the header isn't all there
pub judged_short : (left begin len longer most fraction captured fraction2 captured2 : ℕ) (x y : Result Found CaptureError)
    → len < 16 → len ≤ longer → (judged left begin len most fraction captured x ≡ Err (damage Truncated begin) → ⊥)
    → judged left begin longer most fraction2 captured2 y ≡ judged left begin len most fraction captured x
unfolding judged
judged_short left begin len longer most fraction captured fraction2 captured2 x y short more open_ = grind (arith, nat_tests)

-- the same where the captured bytes aren't
pub judged_cut : (left begin len longer most fraction captured : ℕ) (x y : Result Found CaptureError)
    → 16 ≤ len → len < 16 + captured → len ≤ longer → (judged left begin len most fraction captured x ≡ Err (damage Truncated begin) → ⊥)
    → judged left begin longer most fraction captured y ≡ judged left begin len most fraction captured x
unfolding judged
judged_cut left begin len longer most fraction captured x y header short more open_ = grind (arith, nat_tests)

-- the same where all is there
pub judged_there : (left begin len longer most fraction captured : ℕ) (x y : Result Found CaptureError)
    → 16 ≤ len → 16 + captured ≤ len → len ≤ longer → (16 ≤ captured → y ≡ x)
    → judged left begin longer most fraction captured y ≡ judged left begin len most fraction captured x
unfolding judged
judged_there left begin len longer most fraction captured x y header there more same = grind (arith, nat_tests)
