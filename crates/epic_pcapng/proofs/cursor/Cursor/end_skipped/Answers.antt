use Rattle.std.proofs.Common.{◌≡◌, ℕ, ◌+◌, ◌-◌, List, length, drop, Ok, Err, ap, ◌∙◌, arith}
use Rattle.std.proofs.lemmas.Result.{err_from_is_err_and}
use Rattle.epic_pcapng.specs.declared.cursor.Skip.{Skip}
use Rattle.epic_pcapng.specs.Reading.{Reading}
use Rattle.epic_pcapng.specs.Steps.{reading_of}
use Rattle.epic_pcapng.proofs.Blocks.{ends_fits}
use Rattle.epic_pcapng.proofs.Passing.{inside_of}
use Rattle.epic_pcapng.proofs.Steps.{skip_end_of}
use Rattle.epic_pcapng.proofs.Ends.{ends_damaged, ends_behind}
use Rattle.epic_pcapng.proofs.cursor.Cursor.end_skipped.Goals as goal

-- the bytes behind the block
rest_is : (s : Reading) (skip : Skip) (bytes rest : List ℕ) (len : ℕ) → bytes ≡ s.held → len ≡ skip.len → rest ≡ drop (len - (s.offset - skip.begin)) bytes
    → rest ≡ drop (skip.len - (s.offset - skip.begin)) s.held
rest_is s skip bytes rest len same len_is is =
    is ∙ ap (λ (n : ℕ). drop (n - (s.offset - skip.begin)) bytes) len_is ∙ ap (λ (xs : List ℕ). drop (skip.len - (s.offset - skip.begin)) xs) same

pub returns-in_err-ends : goal.returns-in_err-ends
returns-in_err-ends c =
    let s : Reading = reading_of c.args.self.now in
    let p = err_from_is_err_and c.from_residual.result c.from_residual.ensures.1 in
    rw (p.1, p.2) (ends_damaged s c.args.skip c.in_err-ends.field-0.0 c.requires.skip
    (skip_end_of s c.args.skip _ _ (Err c.in_err-ends.field-0.0) c.held-held.ensures.value c.ends.ensures c.in_err-ends.was))

pub behind-rest-requires : goal.behind-rest-requires
behind-rest-requires c =
    let s : Reading = reading_of c.args.self.now in
    let end_is = skip_end_of s c.args.skip _ _ (Ok tt) c.held-held.ensures.value c.ends.ensures c.in_ok-ends.was in
    let fits = ends_fits s.section.order c.args.skip.begin c.args.skip.len (s.offset - c.args.skip.begin) s.held end_is in
    omega (arith, c.from.ensures, fits.0, ap length c.held-held.ensures.value)

pub unread-requires : goal.unread-requires
unread-requires c =
    let s : Reading = reading_of c.args.self.now in
    let end_is = skip_end_of s c.args.skip _ _ (Ok tt) c.held-held.ensures.value c.ends.ensures c.in_ok-ends.was in
    let inside = inside_of s c.args.skip c.requires.sound c.requires.skip in
    let fits = ends_fits s.section.order c.args.skip.begin c.args.skip.len (s.offset - c.args.skip.begin) s.held end_is in
    omega (arith, c.from.ensures, inside.0, inside.1, fits.1 (omega (arith, inside.0, c.requires.sound.limit)))

pub returns : goal.returns
returns c =
    let s : Reading = reading_of c.args.self.now in
    let end_is = skip_end_of s c.args.skip _ _ (Ok tt) c.held-held.ensures.value c.ends.ensures c.in_ok-ends.was in
    ends_behind s c.args.skip _ c.behind-rest.result.now c.unread.result c.requires.skip c.requires.sound end_is
    (ap (λ (n : ℕ). s.offset + (n - (s.offset - c.args.skip.begin))) c.from.ensures)
    (rest_is s c.args.skip c.held-held.result.now c.behind-rest.result.now c.from.result c.held-held.ensures.value c.from.ensures c.behind-rest.ensures)
    c.requires.none c.unread.ensures
