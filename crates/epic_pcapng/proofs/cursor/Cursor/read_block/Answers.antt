use Rattle.std.proofs.Common.{◌≡◌, ℕ, List, Result, Ok, Err, refl, ap, sym, ◌∙◌}
use Rattle.std.proofs.lemmas.Result.{err_from_is_err_and}
use Rattle.epic_pcapng.specs.declared.block.Head.{Head}
use Rattle.epic_pcapng.specs.declared.damage.NgError.{NgError}
use Rattle.epic_pcapng.specs.Blocks.{heading}
use Rattle.epic_pcapng.specs.Reading.{Reading}
use Rattle.epic_pcapng.specs.Steps.{reading_of}
use Rattle.epic_pcapng.proofs.Blocks.{heading_fits}
use Rattle.epic_pcapng.proofs.Passing.{head_stops, skip_opens}
use Rattle.epic_pcapng.proofs.Steps.{moves_to, sound_at}
use Rattle.epic_pcapng.proofs.cursor.Cursor.read_block.Goals as goal

-- what is told of the bytes that were lent is told of those held
head_of : (s : Reading) (bytes : List ℕ) (told found : Result Head NgError) → bytes ≡ s.held → told ≡ heading s.section.order s.offset bytes → told ≡ found
    → heading s.section.order s.offset s.held ≡ found
head_of s bytes told found same is answer = ap (λ (xs : List ℕ). heading s.section.order s.offset xs) (sym same) ∙ sym is ∙ answer

pub returns-in_err-head-clause-step : goal.returns-in_err-head-clause-step
returns-in_err-head-clause-step c =
    let s : Reading = reading_of c.args.self.now in
    let p = err_from_is_err_and c.from_residual.result c.from_residual.ensures.1 in
    rw (p.1, p.2) (
      refl,
      head_stops s c.in_err-head.field-0.0 c.requires.skip c.requires.sound
          (head_of s _ _ (Err c.in_err-head.field-0.0) c.held.ensures.value c.heading.ensures c.in_err-head.was),
    )

pub pass-requires-clause-count : goal.pass-requires-clause-count
pass-requires-clause-count c =
    let s : Reading = reading_of c.args.self.now in
    let fits = heading_fits s.section.order s.offset s.held c.in_ok-head.head (head_of s _ _ (Ok c.in_ok-head.head) c.held.ensures.value c.heading.ensures c.in_ok-head.was) in
    fits.eight

pub pass-requires-clause-limit : goal.pass-requires-clause-limit
pass-requires-clause-limit c =
    let s : Reading = reading_of c.args.self.now in
    let fits = heading_fits s.section.order s.offset s.held c.in_ok-head.head (head_of s _ _ (Ok c.in_ok-head.head) c.held.ensures.value c.heading.ensures c.in_ok-head.was) in
    fits.limit c.requires.sound.limit

pub returns-in-Other-clause-step : goal.returns-in-Other-clause-step
returns-in-Other-clause-step c =
    let s : Reading = reading_of c.args.self.now in
    moves_to s (reading_of c.pass.new.self) _ c.pass.ensures.reading (skip_opens s c.in_ok-head.head c.requires.skip c.requires.sound
    (head_of s _ _ (Ok c.in_ok-head.head) c.held.ensures.value c.heading.ensures c.in_ok-head.was) c.in-Other.is)

pub returns-in-Other-clause-sound : goal.returns-in-Other-clause-sound
returns-in-Other-clause-sound c =
    let s : Reading = reading_of c.args.self.now in
    sound_at s (reading_of c.pass.new.self) _ c.pass.ensures.reading (skip_opens s c.in_ok-head.head c.requires.skip c.requires.sound
    (head_of s _ _ (Ok c.in_ok-head.head) c.held.ensures.value c.heading.ensures c.in_ok-head.was) c.in-Other.is)

pub read_whole-requires-clause-head : goal.read_whole-requires-clause-head
read_whole-requires-clause-head c =
    head_of (reading_of c.args.self.now) _ _ (Ok c.in_ok-head.head) c.held.ensures.value c.heading.ensures c.in_ok-head.was
