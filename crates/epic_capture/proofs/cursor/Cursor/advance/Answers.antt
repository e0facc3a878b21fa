use Rattle.std.proofs.Common.{◌≡◌, ℕ, ◌+◌, ◌≤◌, List, length, drop, Option, Some, None, Result, Ok, Err, IfOk, IfSome, refl, ap, sym, ◌∙◌, subst, arith}
use Rattle.std.proofs.Common.{length-take}
use Rattle.epic_capture.specs.declared.damage.CaptureError.{CaptureError}
use Rattle.epic_capture.specs.declared.found.Found.{Found}
use Rattle.epic_capture.specs.declared.progress.Progress.{Progress}
use Rattle.epic_capture.specs.Records.{Captured}
use Rattle.epic_capture.specs.Streams.{Follows}
use Rattle.epic_capture.specs.Capture.{captured, found_at}
use Rattle.epic_capture.specs.Reading.{Reading, behind, capture, passed}
use Rattle.epic_capture.specs.Steps.{reading_of, opening, opened, answer_of}
use Rattle.epic_capture.proofs.Answers.{Stops, stops_follows, open_stops, found_stops, Gives, found_gives}
use Rattle.epic_capture.proofs.cursor.Cursor.advance.Goals as goal

follows_at : (old new at : Reading) (answer told : Result (Option Captured) CaptureError) → new ≡ at → told ≡ answer
    → Follows capture old answer at → Follows capture old told new
follows_at old new at answer told new_is told_is h =
    subst (λ (n : Reading). Follows capture old told n) (sym new_is) (subst (λ (a : Result (Option Captured) CaptureError). Follows capture old a at) (sym told_is) h)

none_long : (P : Found → Type 0) (r : Result (Option Found) CaptureError) → IfOk r (λ found. found ≡ None) → IfOk r (λ found. IfSome found P)
none_long P (Ok None) h = tt
none_long P (Ok (Some found)) h = absurd (cc)
none_long P (Err e) h = tt

pub returns-in-Err-clause-answer : goal.returns-in-Err-clause-answer
returns-in-Err-clause-answer c =
    c.unless_early.ensures.answer _ ∙ sym (open_stops (reading_of c.args.self.now) c.in-Err.error (sym c.open.ensures.answer ∙ c.in-Err.is)).next

pub returns-in-Err-clause-after : goal.returns-in-Err-clause-after
returns-in-Err-clause-after c =
    let old : Reading = reading_of c.args.self.now in
    follows_at old _ (opened old) (answer_of c.in-Err.error) _ c.open.ensures.after (c.unless_early.ensures.answer _)
    (stops_follows old (opened old) c.in-Err.error (open_stops old c.in-Err.error (sym c.open.ensures.answer ∙ c.in-Err.is)))

pub returns-in-Err-clause-long : goal.returns-in-Err-clause-long
returns-in-Err-clause-long c = none_long _ _ c.unless_early.ensures.none

stops : (old new : Reading) (p : Progress) (e : CaptureError) (bytes : List ℕ) (opening_result : Result Progress CaptureError) (found_result : Result Found CaptureError)
    → new ≡ opened old → passed old.progress ≤ 67108864 → opening_result ≡ opening old → opening_result ≡ Ok p → bytes ≡ new.held
    → found_result ≡ found_at p.format p.left p.offset bytes → found_result ≡ Err e → Stops old new e
stops old new p e bytes o f new_is limit o_is opening_is bytes_is f_is found_is =
    found_stops old new p e new_is limit (sym o_is ∙ opening_is)
    (ap (λ (xs : List ℕ). found_at p.format p.left p.offset xs) (sym bytes_is) ∙ sym f_is ∙ found_is)

gives : (old new : Reading) (p : Progress) (found : Found) (bytes : List ℕ) (opening_result : Result Progress CaptureError) (found_result : Result Found CaptureError)
    → new ≡ opened old → passed old.progress ≤ 67108864 → opening_result ≡ opening old → opening_result ≡ Ok p → bytes ≡ new.held
    → found_result ≡ found_at p.format p.left p.offset bytes → found_result ≡ Ok found → Gives old p new.held found
gives old new p found bytes o f new_is limit o_is opening_is bytes_is f_is found_is =
    found_gives old new p found new_is limit (sym o_is ∙ opening_is)
    (ap (λ (xs : List ℕ). found_at p.format p.left p.offset xs) (sym bytes_is) ∙ sym f_is ∙ found_is)

pub returns-in-Err-found_at-clause-answer : goal.returns-in-Err-found_at-clause-answer
returns-in-Err-found_at-clause-answer c =
    let all = stops (reading_of c.args.self.now) (reading_of c.open.new.self) c.in-Ok.progress c.in-Err-found_at.error _ _ _
    c.open.ensures.after c.requires.limit c.open.ensures.answer c.in-Ok.is c.held.ensures.value c.found_at.ensures.value c.in-Err-found_at.is in
    c.unless_early-in-Err-found_at.ensures.answer _ ∙ sym all.next

pub returns-in-Err-found_at-clause-after : goal.returns-in-Err-found_at-clause-after
returns-in-Err-found_at-clause-after c =
    let old : Reading = reading_of c.args.self.now in
    let new : Reading = reading_of c.open.new.self in
    let all = stops old new c.in-Ok.progress c.in-Err-found_at.error _ _ _
    c.open.ensures.after c.requires.limit c.open.ensures.answer c.in-Ok.is c.held.ensures.value c.found_at.ensures.value c.in-Err-found_at.is in
    follows_at old new new (answer_of c.in-Err-found_at.error) _ refl (c.unless_early-in-Err-found_at.ensures.answer _)
    (stops_follows old new c.in-Err-found_at.error all)

pub returns-in-Err-found_at-clause-long : goal.returns-in-Err-found_at-clause-long
returns-in-Err-found_at-clause-long c = none_long _ _ c.unless_early-in-Err-found_at.ensures.none

pub behind-requires-clause-some : goal.behind-requires-clause-some
behind-requires-clause-some c =
    let all = gives (reading_of c.args.self.now) (reading_of c.open.new.self) c.in-Ok.progress c.in-Ok-found_at.found _ _ _
    c.open.ensures.after c.requires.limit c.open.ensures.answer c.in-Ok.is c.held.ensures.value c.found_at.ensures.value c.in-Ok-found_at.is in
    all.fits.some

pub behind-requires-clause-few : goal.behind-requires-clause-few
behind-requires-clause-few c =
    let all = gives (reading_of c.args.self.now) (reading_of c.open.new.self) c.in-Ok.progress c.in-Ok-found_at.found _ _ _
    c.open.ensures.after c.requires.limit c.open.ensures.answer c.in-Ok.is c.held.ensures.value c.found_at.ensures.value c.in-Ok-found_at.is in
    all.fits.limit all.limit

pub pass-requires : goal.pass-requires
pass-requires c =
    let all = gives (reading_of c.args.self.now) (reading_of c.open.new.self) c.in-Ok.progress c.in-Ok-found_at.found _ _ _
    c.open.ensures.after c.requires.limit c.open.ensures.answer c.in-Ok.is c.held.ensures.value c.found_at.ensures.value c.in-Ok-found_at.is in
    (omega arith, all.fits.there)

pub returns-clause-answer : goal.returns-clause-answer
returns-clause-answer c =
    let all = gives (reading_of c.args.self.now) (reading_of c.open.new.self) c.in-Ok.progress c.in-Ok-found_at.found _ _ _
    c.open.ensures.after c.requires.limit c.open.ensures.answer c.in-Ok.is c.held.ensures.value c.found_at.ensures.value c.in-Ok-found_at.is in
    ap (λ (bytes : List ℕ). Ok (Some (captured c.in-Ok-found_at.found bytes))) c.pass.ensures.last ∙ sym all.next

pub returns-clause-after : goal.returns-clause-after
returns-clause-after c =
    let old : Reading = reading_of c.args.self.now in
    let all = gives old (reading_of c.open.new.self) c.in-Ok.progress c.in-Ok-found_at.found _ _ _
    c.open.ensures.after c.requires.limit c.open.ensures.answer c.in-Ok.is c.held.ensures.value c.found_at.ensures.value c.in-Ok-found_at.is in
    let new_is : record { progress = Some c.behind.result; held = c.pass.new.self.held } ≡ record { progress = Some (behind c.in-Ok.progress c.in-Ok-found_at.found.len); held = drop c.in-Ok-found_at.found.len c.open.new.self.buffer.held }
    = ap (λ (p : Progress). record { progress = Some p; held = c.pass.new.self.held }) c.behind.ensures
    ∙ ap (λ (xs : List ℕ). record { progress = Some (behind c.in-Ok.progress c.in-Ok-found_at.found.len); held = xs }) c.pass.ensures.held in
    follows_at old (record { progress = Some c.behind.result; held = c.pass.new.self.held }) _ _ _ new_is
    (ap (λ (bytes : List ℕ). Ok (Some (captured c.in-Ok-found_at.found bytes))) c.pass.ensures.last) all.follows

pub returns-clause-limit : goal.returns-clause-limit
returns-clause-limit c =
    let all = gives (reading_of c.args.self.now) (reading_of c.open.new.self) c.in-Ok.progress c.in-Ok-found_at.found _ _ _
    c.open.ensures.after c.requires.limit c.open.ensures.answer c.in-Ok.is c.held.ensures.value c.found_at.ensures.value c.in-Ok-found_at.is in
    let is : c.behind.result.offset ≡ c.in-Ok.progress.offset + c.in-Ok-found_at.found.len = ap (λ (p : Progress). p.offset) c.behind.ensures in
    omega (arith, is, all.fits.limit all.limit)

pub returns-clause-long : goal.returns-clause-long
returns-clause-long c =
    let all = gives (reading_of c.args.self.now) (reading_of c.open.new.self) c.in-Ok.progress c.in-Ok-found_at.found _ _ _
    c.open.ensures.after c.requires.limit c.open.ensures.answer c.in-Ok.is c.held.ensures.value c.found_at.ensures.value c.in-Ok-found_at.is in
    omega (arith, ap length c.pass.ensures.last, length-take c.in-Ok-found_at.found.len c.open.new.self.buffer.held, all.fits.header, all.fits.there)

pub returns-in-Err-clause-moment : goal.returns-in-Err-clause-moment
returns-in-Err-clause-moment c = none_long _ _ c.unless_early.ensures.none

pub returns-in-Err-found_at-clause-moment : goal.returns-in-Err-found_at-clause-moment
returns-in-Err-found_at-clause-moment c = none_long _ _ c.unless_early-in-Err-found_at.ensures.none
