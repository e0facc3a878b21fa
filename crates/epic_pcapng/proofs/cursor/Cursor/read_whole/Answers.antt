use Rattle.std.proofs.Common.{◌≡◌, ℕ, ◌≤◌, List, length, take, Result, Ok, Err, refl, ap, sym, ◌∙◌, subst, arith, length-take}
use Rattle.std.proofs.lemmas.Result.{err_from_is_err_and}
use Rattle.epic_pcapng.specs.declared.block.Head.{Head}
use Rattle.epic_pcapng.specs.declared.damage.NgError.{NgError}
use Rattle.epic_pcapng.specs.declared.section.Section.{Section}
use Rattle.epic_pcapng.specs.Blocks.{ends}
use Rattle.epic_pcapng.specs.Reading.{Reading}
use Rattle.epic_pcapng.specs.Steps.{reading_of, IsSound}
use Rattle.epic_pcapng.proofs.Blocks.{heading_fits, ends_fits}
use Rattle.epic_pcapng.proofs.Runs.{least_12}
use Rattle.epic_pcapng.proofs.Passing.{read_most, end_stops, content_stops}
use Rattle.epic_pcapng.proofs.Steps.{told_of, whole_steps}
use Rattle.epic_pcapng.proofs.cursor.Cursor.read_whole.Goals as goal

-- what is told of the bytes that were lent is told of those held
end_of : (s : Reading) (head : Head) (bytes : List ℕ) (told found : Result (Unit {0}) NgError) → bytes ≡ s.held
    → told ≡ ends head.order s.offset head.len 0 bytes → told ≡ found → ends head.order s.offset head.len 0 s.held ≡ found
end_of s head bytes told found same is answer = ap (λ (xs : List ℕ). ends head.order s.offset head.len 0 xs) (sym same) ∙ sym is ∙ answer

front_of : (s : Reading) (head : Head) (bytes block : List ℕ) → bytes ≡ s.held → block ≡ take head.len bytes → block ≡ take head.len s.held
front_of s head bytes block same is = is ∙ ap (take head.len) same

front_long : (xs block : List ℕ) (n : ℕ) → block ≡ take n xs → n ≤ length xs → length block ≡ n
front_long xs block n is there = omega (arith, ap length is, length-take n xs)

pub ends-requires-clause-long : goal.ends-requires-clause-long
ends-requires-clause-long c =
    let s : Reading = reading_of c.args.self.now in
    let fits = heading_fits s.section.order s.offset s.held c.args.head.now c.requires.head in
    omega (arith, fits.least, least_12 c.args.head.now)

pub returns-in_err-ends-clause-step : goal.returns-in_err-ends-clause-step
returns-in_err-ends-clause-step c =
    let s : Reading = reading_of c.args.self.now in
    let p = err_from_is_err_and c.from_residual.result c.from_residual.ensures.1 in
    let end_is = end_of s c.args.head.now _ _ (Err c.in_err-ends.field-0.0) c.held-held.ensures.value c.ends.ensures c.in_err-ends.was in
    rw (p.1, p.2) (refl, end_stops s c.args.head.now c.in_err-ends.field-0.0 c.requires.skip c.requires.sound c.requires.head c.requires.kind end_is)

pub front-block-requires : goal.front-block-requires
front-block-requires c =
    let s : Reading = reading_of c.args.self.now in
    let end_is = end_of s c.args.head.now _ _ (Ok tt) c.held-held.ensures.value c.ends.ensures c.in_ok-ends.was in
    let fits = ends_fits c.args.head.now.order s.offset c.args.head.now.len 0 s.held end_is in
    omega (arith, fits.0, ap length c.held-held.ensures.value)

pub content-requires-clause-long : goal.content-requires-clause-long
content-requires-clause-long c =
    let s : Reading = reading_of c.args.self.now in
    let end_is = end_of s c.args.head.now _ _ (Ok tt) c.held-held.ensures.value c.ends.ensures c.in_ok-ends.was in
    let there = ends_fits c.args.head.now.order s.offset c.args.head.now.len 0 s.held end_is in
    let fits = heading_fits s.section.order s.offset s.held c.args.head.now c.requires.head in
    let long = front_long s.held c.front-block.result.now c.args.head.now.len (front_of s c.args.head.now _ _ c.held-held.ensures.value c.front-block.ensures) (omega (arith, there.0)) in
    omega (arith, long, fits.least)

pub content-requires-clause-short : goal.content-requires-clause-short
content-requires-clause-short c =
    let s : Reading = reading_of c.args.self.now in
    let end_is = end_of s c.args.head.now _ _ (Ok tt) c.held-held.ensures.value c.ends.ensures c.in_ok-ends.was in
    let there = ends_fits c.args.head.now.order s.offset c.args.head.now.len 0 s.held end_is in
    let fits = heading_fits s.section.order s.offset s.held c.args.head.now c.requires.head in
    let long = front_long s.held c.front-block.result.now c.args.head.now.len (front_of s c.args.head.now _ _ c.held-held.ensures.value c.front-block.ensures) (omega (arith, there.0)) in
    omega (arith, long, fits.most, read_most c.args.head.now.kind c.requires.kind)

pub returns-in_err-found-clause-step : goal.returns-in_err-found-clause-step
returns-in_err-found-clause-step c =
    let s : Reading = reading_of c.args.self.now in
    let p = err_from_is_err_and c.from_residual-in_err-found.result c.from_residual-in_err-found.ensures.1 in
    let end_is = end_of s c.args.head.now _ _ (Ok tt) c.held-held.ensures.value c.ends.ensures c.in_ok-ends.was in
    let is = told_of s c.args.head.now c.content.new.section c.front-block.result.now c.content.result (Err c.in_err-found.field-0.0)
    (front_of s c.args.head.now _ _ c.held-held.ensures.value c.front-block.ensures) c.content.ensures.value c.in_err-found.was in
    rw (p.1, p.2) (
      ap (λ (x : Section). record { section = x; skip = s.skip; offset = s.offset; held = s.held }) c.in_err-found.ensures.err,
      content_stops s c.args.head.now c.in_err-found.field-0.0 c.requires.skip c.requires.sound c.requires.head end_is is,
    )

pub returns-in_err-found-clause-sound : goal.returns-in_err-found-clause-sound
returns-in_err-found-clause-sound c =
    let s : Reading = reading_of c.args.self.now in
    subst (λ (x : Section). IsSound (record { section = x; skip = s.skip; offset = s.offset; held = s.held })) (sym c.in_err-found.ensures.err) c.requires.sound

pub pass-requires-clause-count : goal.pass-requires-clause-count
pass-requires-clause-count c =
    let s : Reading = reading_of c.args.self.now in
    let end_is = end_of s c.args.head.now _ _ (Ok tt) c.held-held.ensures.value c.ends.ensures c.in_ok-ends.was in
    let fits = ends_fits c.args.head.now.order s.offset c.args.head.now.len 0 s.held end_is in
    omega (arith, fits.0)

pub pass-requires-clause-limit : goal.pass-requires-clause-limit
pass-requires-clause-limit c =
    let s : Reading = reading_of c.args.self.now in
    let end_is = end_of s c.args.head.now _ _ (Ok tt) c.held-held.ensures.value c.ends.ensures c.in_ok-ends.was in
    let fits = ends_fits c.args.head.now.order s.offset c.args.head.now.len 0 s.held end_is in
    fits.1 c.requires.sound.limit

pub returns-clause-step : goal.returns-clause-step
returns-clause-step c =
    let s : Reading = reading_of c.args.self.now in
    let end_is = end_of s c.args.head.now _ _ (Ok tt) c.held-held.ensures.value c.ends.ensures c.in_ok-ends.was in
    (whole_steps s c.args.head.now c.content.new.section c.in_ok-found.found c.front-block.result.now c.pass.new.self.buffer.last c.content.result (reading_of c.pass.new.self)
    c.requires.skip c.requires.sound c.requires.head end_is (front_of s c.args.head.now _ _ c.held-held.ensures.value c.front-block.ensures)
    c.content.ensures.value c.in_ok-found.was c.content.ensures.there c.pass.ensures.last c.pass.ensures.reading).0

pub returns-clause-sound : goal.returns-clause-sound
returns-clause-sound c =
    let s : Reading = reading_of c.args.self.now in
    let end_is = end_of s c.args.head.now _ _ (Ok tt) c.held-held.ensures.value c.ends.ensures c.in_ok-ends.was in
    (whole_steps s c.args.head.now c.content.new.section c.in_ok-found.found c.front-block.result.now c.pass.new.self.buffer.last c.content.result (reading_of c.pass.new.self)
    c.requires.skip c.requires.sound c.requires.head end_is (front_of s c.args.head.now _ _ c.held-held.ensures.value c.front-block.ensures)
    c.content.ensures.value c.in_ok-found.was c.content.ensures.there c.pass.ensures.last c.pass.ensures.reading).1
