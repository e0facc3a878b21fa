use Rattle.std.proofs.Common.{◌≡◌, ℕ, zero, suc, ◌+◌, ◌-◌, ◌≤◌, min, true, List, length, Some, None, Ok, Err, ◌⊎◌, inl, inr, refl, ap, sym, ◌∙◌, arith}
use Rattle.std.proofs.lemmas.Bool.{true≢false}
use Rattle.epic_pcapng.specs.declared.cursor.Skip.{Skip}
use Rattle.epic_pcapng.specs.declared.damage.NgError.{NgError}
use Rattle.epic_pcapng.specs.Damage.{is_truncated}
use Rattle.epic_pcapng.specs.Blocks.{ends}
use Rattle.epic_pcapng.specs.Reading.{Reading}
use Rattle.epic_pcapng.specs.Steps.{reading_of, passed, IsSound}
use Rattle.epic_pcapng.proofs.Blocks.{ends_fits}
use Rattle.epic_pcapng.proofs.Passing.{Goes, inside_of, skip_ends, skip_moves, skip_stops}
use Rattle.epic_pcapng.proofs.Steps.{moves_to, sound_at, skip_end_of}
use Rattle.epic_pcapng.proofs.cursor.Cursor.skip_on.Goals as goal

pub pass-requires-clause-count : goal.pass-requires-clause-count
pass-requires-clause-count c =
    let s : Reading = reading_of c.args.self.now in
    let end_is = skip_end_of s c.args.skip _ _ (Ok tt) c.held-held.ensures.value c.ends.ensures c.in-Ok.is in
    let fits = ends_fits s.section.order c.args.skip.begin c.args.skip.len (s.offset - c.args.skip.begin) s.held end_is in
    omega (arith, c.from.ensures, fits.0)

pub pass-requires-clause-limit : goal.pass-requires-clause-limit
pass-requires-clause-limit c =
    let s : Reading = reading_of c.args.self.now in
    let end_is = skip_end_of s c.args.skip _ _ (Ok tt) c.held-held.ensures.value c.ends.ensures c.in-Ok.is in
    let goes = skip_ends s c.args.skip c.requires.skip c.requires.sound end_is in
    omega (arith, c.from.ensures, goes.sound.limit)

pub returns-then-not-is_early-clause-step : goal.returns-then-not-is_early-clause-step
returns-then-not-is_early-clause-step c =
    let s : Reading = reading_of c.args.self.now in
    let end_is = skip_end_of s c.args.skip _ _ (Err c.in-Err.error) c.held-held.ensures.value c.ends.ensures c.in-Err.is in (
      refl,
      skip_stops s c.args.skip c.in-Err.error c.requires.skip c.requires.sound end_is
          (λ t. absurd (true≢false (sym t ∙ sym c.is_early.ensures ∙ c.if-not-is_early.true))),
    )

-- how many bytes are passed where not all are there
count_is : (s : Reading) (skip : Skip) (bytes : List ℕ) (len count : ℕ) → bytes ≡ s.held → len ≡ skip.len → count ≡ min (length bytes) (len - 4 - (s.offset - skip.begin))
    → count ≡ min (length s.held) (skip.len - 4 - (s.offset - skip.begin))
count_is s skip bytes len count same len_is is =
    is ∙ ap (λ (xs : List ℕ). min (length xs) (len - 4 - (s.offset - skip.begin))) same
    ∙ ap (λ (n : ℕ). min (length s.held) (n - 4 - (s.offset - skip.begin))) len_is

-- no byte but the last four is there
stuck : (held len gone count : ℕ) → count ≡ min held (len - 4 - gone) → count ≡ 0 → 4 + gone ≤ len → (held ≡ 0) ⊎ (len ≡ 4 + gone)
stuck zero len gone count is none inside = inl refl
stuck (suc held) len gone count is none inside = inr (omega arith)

pub returns-then-count-eq0-clause-step : goal.returns-then-count-eq0-clause-step
returns-then-count-eq0-clause-step c =
    let s : Reading = reading_of c.args.self.now in
    let end_is = skip_end_of s c.args.skip _ _ (Err c.in-Err.error) c.held-held.ensures.value c.ends.ensures c.in-Err.is in
    let count = count_is s c.args.skip _ _ _ c.held-held.ensures.value c.from-in-Err.ensures c.min-count.ensures in (
      refl,
      skip_stops s c.args.skip c.in-Err.error c.requires.skip c.requires.sound end_is
          (λ t. stuck (length s.held) c.args.skip.len (s.offset - c.args.skip.begin) c.min-count.result count c.if-count-eq0.true (inside_of s c.args.skip c.requires.sound c.requires.skip).1),
    )

goes_on : (s : Reading) (skip : Skip) (e : NgError) (count : ℕ) → s.skip ≡ Some skip → IsSound s
    → ends s.section.order skip.begin skip.len (s.offset - skip.begin) s.held ≡ Err e → is_truncated e.kind ≡ true
    → count ≡ min (length s.held) (skip.len - 4 - (s.offset - skip.begin)) → (count ≡ 0 → ⊥) → Goes s (passed s count)
goes_on s skip e count is sound end_is early count_is some =
    let inside : 4 + (s.offset - skip.begin) ≤ skip.len = (inside_of s skip sound is).1 in
    skip_moves s skip e count is sound end_is early (omega arith) (omega arith) (omega arith)

pub pass-requires-in-Err-clause-limit : goal.pass-requires-in-Err-clause-limit
pass-requires-in-Err-clause-limit c =
    let s : Reading = reading_of c.args.self.now in
    let end_is = skip_end_of s c.args.skip _ _ (Err c.in-Err.error) c.held-held.ensures.value c.ends.ensures c.in-Err.is in
    let count = count_is s c.args.skip _ _ _ c.held-held.ensures.value c.from-in-Err.ensures c.min-count.ensures in
    (goes_on s c.args.skip c.in-Err.error _ c.requires.skip c.requires.sound end_is (sym c.is_early.ensures ∙ c.if-not-is_early.false) count c.if-count-eq0.false).sound.limit

pub returns-else-count-eq0-clause-step : goal.returns-else-count-eq0-clause-step
returns-else-count-eq0-clause-step c =
    let s : Reading = reading_of c.args.self.now in
    let end_is = skip_end_of s c.args.skip _ _ (Err c.in-Err.error) c.held-held.ensures.value c.ends.ensures c.in-Err.is in
    let count = count_is s c.args.skip _ _ _ c.held-held.ensures.value c.from-in-Err.ensures c.min-count.ensures in
    moves_to s (reading_of c.pass-in-Err.new.self) _ c.pass-in-Err.ensures.reading
    (goes_on s c.args.skip c.in-Err.error _ c.requires.skip c.requires.sound end_is (sym c.is_early.ensures ∙ c.if-not-is_early.false) count c.if-count-eq0.false)

pub returns-else-count-eq0-clause-sound : goal.returns-else-count-eq0-clause-sound
returns-else-count-eq0-clause-sound c =
    let s : Reading = reading_of c.args.self.now in
    let end_is = skip_end_of s c.args.skip _ _ (Err c.in-Err.error) c.held-held.ensures.value c.ends.ensures c.in-Err.is in
    let count = count_is s c.args.skip _ _ _ c.held-held.ensures.value c.from-in-Err.ensures c.min-count.ensures in
    sound_at s (reading_of c.pass-in-Err.new.self) _ c.pass-in-Err.ensures.reading
    (goes_on s c.args.skip c.in-Err.error _ c.requires.skip c.requires.sound end_is (sym c.is_early.ensures ∙ c.if-not-is_early.false) count c.if-count-eq0.false)

pub returns-in-Ok-clause-step : goal.returns-in-Ok-clause-step
returns-in-Ok-clause-step c =
    let s : Reading = reading_of c.args.self.now in
    let end_is = ap (λ (xs : List ℕ). ends s.section.order c.args.skip.begin c.args.skip.len (s.offset - c.args.skip.begin) xs) (sym c.held-held.ensures.value) ∙ sym c.ends.ensures ∙ c.in-Ok.is in
    let goes = skip_ends s c.args.skip c.requires.skip c.requires.sound end_is in
    moves_to s (reading_of c.pass.new.self) _
    (c.pass.ensures.reading ∙ ap (λ (n : ℕ). passed (record { section = s.section; skip = None; offset = s.offset; held = s.held }) (n - (s.offset - c.args.skip.begin))) c.from.ensures) goes

pub returns-in-Ok-clause-sound : goal.returns-in-Ok-clause-sound
returns-in-Ok-clause-sound c =
    let s : Reading = reading_of c.args.self.now in
    let end_is = ap (λ (xs : List ℕ). ends s.section.order c.args.skip.begin c.args.skip.len (s.offset - c.args.skip.begin) xs) (sym c.held-held.ensures.value) ∙ sym c.ends.ensures ∙ c.in-Ok.is in
    let goes = skip_ends s c.args.skip c.requires.skip c.requires.sound end_is in
    sound_at s (reading_of c.pass.new.self) _
    (c.pass.ensures.reading ∙ ap (λ (n : ℕ). passed (record { section = s.section; skip = None; offset = s.offset; held = s.held }) (n - (s.offset - c.args.skip.begin))) c.from.ensures) goes
