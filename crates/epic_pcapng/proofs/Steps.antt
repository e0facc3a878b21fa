-- One block, as a reader passes it.
use Rattle.std.proofs.Common.{◌≡◌, ℕ, ◌+◌, ◌-◌, List, take, drop, Option, Some, None, Result, Ok, ap, sym, ◌∙◌, subst}
use Rattle.epic_pcapng.specs.declared.block.Head.{Head}
use Rattle.epic_pcapng.specs.declared.cursor.Skip.{Skip}
use Rattle.epic_pcapng.specs.declared.damage.NgError.{NgError}
use Rattle.epic_pcapng.specs.declared.packet.Found.{Found}
use Rattle.epic_pcapng.specs.declared.section.Section.{Section}
use Rattle.epic_pcapng.specs.Blocks.{heading, ends}
use Rattle.epic_pcapng.specs.Grammar.{Step, captured, content}
use Rattle.epic_pcapng.specs.Reading.{Reading}
use Rattle.epic_pcapng.specs.Steps.{stepped, IsSound, IsThere, Moves, StepsTo}
use Rattle.epic_pcapng.proofs.Passing.{Goes, block_passes}

pub moves_to : (old new at : Reading) → new ≡ at → Goes old at → Moves old new
moves_to old new at is goes =
    subst (λ (n : Reading). Moves old n) (sym is) (record { same = goes.same; fed = goes.fed; fewer = goes.fewer })

pub sound_at : (old new at : Reading) → new ≡ at → Goes old at → IsSound new
sound_at old new at is goes = subst IsSound (sym is) goes.sound

-- the end of a skipped block, by what was told of the bytes that were lent
pub skip_end_of : (s : Reading) (skip : Skip) (bytes : List ℕ) (told found : Result (Unit {0}) NgError) → bytes ≡ s.held
    → told ≡ ends s.section.order skip.begin skip.len (s.offset - skip.begin) bytes → told ≡ found
    → ends s.section.order skip.begin skip.len (s.offset - skip.begin) s.held ≡ found
skip_end_of s skip bytes told found same is answer =
    ap (λ (xs : List ℕ). ends s.section.order skip.begin skip.len (s.offset - skip.begin) xs) (sym same) ∙ sym is ∙ answer

-- what a whole block says, by what was told of the bytes that were lent
pub told_of : (s : Reading) (head : Head) (section : Section) (block : List ℕ) (answer found : Result (Option Found) NgError)
    → block ≡ take head.len s.held → content s.section s.offset head block ≡ stepped answer section block → answer ≡ found
    → content s.section s.offset head (take head.len s.held) ≡ stepped found section (take head.len s.held)
told_of s head section block answer found block_is is answer_is =
    ap (λ (xs : List ℕ). content s.section s.offset head xs) (sym block_is) ∙ is
    ∙ ap (λ (r : Result (Option Found) NgError). stepped r section block) answer_is
    ∙ ap (λ (xs : List ℕ). stepped found section xs) block_is

-- A whole block was passed: the reader's value behind it.
abbrev pub behind : Reading → Section → Head → Reading
behind s section head = record { section = section; skip = None; offset = s.offset + head.len; held = drop head.len s.held }

-- a whole block without a record, or with one
whole_passes : (s : Reading) (head : Head) (section : Section) (r : Option Found) → s.skip ≡ None → IsSound s
    → heading s.section.order s.offset s.held ≡ Ok head → ends head.order s.offset head.len 0 s.held ≡ Ok tt
    → content s.section s.offset head (take head.len s.held) ≡ stepped (Ok r) section (take head.len s.held)
    → IsThere (Ok r) (take head.len s.held) → StepsTo s (Ok r) (take head.len s.held) (behind s section head) × IsSound (behind s section head)
whole_passes s head section None none sound head_is end_is is there =
    let step : Step = record { section = section; item = None } in
    let p = block_passes s head step none sound head_is end_is is in
    (record { same = p.same; fed = p.fed; fewer = p.fewer }, p.sound)
whole_passes s head section (Some found) none sound head_is end_is is there =
    let step : Step = record { section = section; item = Some (captured found (take head.len s.held)) } in
    let p = block_passes s head step none sound head_is end_is is in
    ((record { same = p.same; fed = p.fed; fewer = p.fewer }, there), p.sound)

pub whole_steps : (s : Reading) (head : Head) (section : Section) (r : Option Found) (block last : List ℕ) (answer : Result (Option Found) NgError) (new : Reading)
    → s.skip ≡ None → IsSound s → heading s.section.order s.offset s.held ≡ Ok head → ends head.order s.offset head.len 0 s.held ≡ Ok tt
    → block ≡ take head.len s.held → content s.section s.offset head block ≡ stepped answer section block → answer ≡ Ok r → IsThere answer block
    → last ≡ take head.len s.held → new ≡ record { section = section; skip = s.skip; offset = s.offset + head.len; held = drop head.len s.held }
    → StepsTo s (Ok r) last new × IsSound new
whole_steps s head section r block last answer new none sound head_is end_is block_is is answer_is there last_is new_is =
    let new_at : new ≡ behind s section head = new_is ∙ ap (λ (o : Option Skip). record { section = section; skip = o; offset = s.offset + head.len; held = drop head.len s.held }) none in
    let there_at : IsThere (Ok r) (take head.len s.held) = subst (λ (xs : List ℕ). IsThere (Ok r) xs) block_is (subst (λ (a : Result (Option Found) NgError). IsThere a block) answer_is there) in
    rw (last_is, new_at) (whole_passes s head section r none sound head_is end_is (told_of s head section block answer (Ok r) block_is is answer_is) there_at)
