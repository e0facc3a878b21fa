-- Answers that are told apart.
use Rattle.std.proofs.Common.{◌≡◌, Bool, true, false, cond, Option, Some, None, Result, Ok, Err, refl}
use Rattle.epic_capture.specs.declared.damage.CaptureError.{CaptureError}
use Rattle.epic_capture.specs.declared.found.Found.{Found}
use Rattle.epic_capture.specs.declared.format.Format.{Format}
use Rattle.epic_capture.specs.Records.{Captured}

abbrev pub found_error : CaptureError → Result Found CaptureError
found_error e = Err e

abbrev pub is_found : Found → Result Found CaptureError
is_found found = Ok found

abbrev pub head_error : CaptureError → Result Format CaptureError
head_error e = Err e

abbrev pub answer_error : CaptureError → Result (Option Captured) CaptureError
answer_error e = Err e

abbrev pub no_answer : Result (Option Captured) CaptureError
no_answer = Ok None

abbrev pub answer : Captured → Result (Option Captured) CaptureError
answer x = Ok (Some x)

pub found_not_error : (found : Found) (e : CaptureError) → is_found found ≡ found_error e → ⊥
found_not_error found e h = cc

pub same_found_error : (e e2 : CaptureError) → found_error e ≡ found_error e2 → e ≡ e2
same_found_error e e2 h = cc

pub same_answer_error : (e e2 : CaptureError) → answer_error e ≡ answer_error e2 → e ≡ e2
same_answer_error e e2 h = cc

pub none_not_error : (e : CaptureError) → no_answer ≡ answer_error e → ⊥
none_not_error e h = cc

pub none_not_answer : (x : Captured) → no_answer ≡ answer x → ⊥
none_not_answer x h = cc

pub error_not_answer : (e : CaptureError) (x : Captured) → answer_error e ≡ answer x → ⊥
error_not_answer e x h = cc

-- a choice that is none
pub chose_none : (b : Bool) (e : CaptureError) → cond b no_answer (answer_error e) ≡ no_answer → b ≡ true
chose_none true e h = refl
chose_none false e h = absurd (cc)
