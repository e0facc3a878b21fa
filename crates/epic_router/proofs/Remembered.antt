-- A router's window after a packet's turn, from what the window answers to an offer.
use Rattle.std.proofs.Common.{◌≡◌, ℕ, ◌+◌, ◌≤◌, Bool, true, false, List, [], ◌∷◌, Option, Some, None, refl, ap, sym, subst, ◌∙◌, arith}
use Rattle.std.specs.Prelude.{◌&&◌, nat_le, if◌then◌else◌}
use Rattle.std.proofs.lemmas.Bool.{cond-true, cond-false, cond_both}
use Rattle.epic_num.specs.declared.profile.Profile.{Profile}
use Rattle.epic_num.specs.declared.turn.Check.{Check}
use Rattle.epic_num.specs.declared.turn.Check.TheVariants.{Replay, WindowFull}
use Rattle.epic_num.specs.Levels.{is_timed}
use Rattle.epic_num.specs.Moments.{IsFresh}
use Rattle.epic_num.specs.Tables.{first_row}
use Rattle.epic_num.specs.Windows.{was_here, has_no_room, window_rows as window_rows_of}
use Rattle.epic_layout.specs.Contents.{Contents}
use Rattle.epic_topo.specs.Network.{Network}
use Rattle.epic_window.specs.Entries.{Entries, Same, told_of}
use Rattle.epic_window.specs.Offers.{Held, Offers, answer, answer_at, after, taken}
use Rattle.epic_window.specs.declared.key.WinKey.{WinKey}
use Rattle.epic_window.specs.declared.offer.Offer.{Offer}
use Rattle.epic_window.specs.declared.offer.Offer.TheVariants.{Fresh, Seen, Full}
use Rattle.epic_window.proofs.SameEntries.{Same-refl}
use Rattle.epic_router.specs.Checks.{window_rows}
use Rattle.epic_router.specs.Remembering.{Remembers, Retains, key_at, told}

-- ---- the rows

-- the row that an answer meets
abbrev pub row_of : Offer → ℕ → Option (Check × ℕ)
row_of Fresh j = None
row_of (Seen first) j = Some (Replay first, j)
row_of (Full live) j = Some (WindowFull live, j)

by_answer : (profile : Profile) (live : ℕ) (first : Option ℕ) (j : ℕ)
    → row_of (answer_at profile live first) j
    ≡ first_row (window_rows_of profile (record { first = first; live = live }) (λ n. (Replay n, j)) (λ n. (WindowFull n, j)))
unfolding window_rows_of was_here has_no_room
by_answer profile live (Some first) j = refl
by_answer profile live None j =
    cond_both (nat_le profile.window live) (Full live) Fresh
    (λ o. row_of o j ≡ (if nat_le profile.window live then Some (WindowFull live, j) else None))
    (λ e. sym (cond-true _ _ _ e)) (λ e. sym (cond-false _ _ _ e))

pub no_rows : (t : Network) (w : Held) (now : ℕ) (p : Contents) → is_timed p.first ≡ false → None ≡ first_row (window_rows t (told w now p) p p.current)
unfolding window_rows
no_rows t w now p e = sym (ap first_row (cond-false (is_timed p.first) _ _ e))

pub answered_row : (t : Network) (w : Held) (now : ℕ) (p : Contents) (key : WinKey) (given : Offer) → is_timed p.first ≡ true → key ≡ key_at p p.current
    → t.profile ≡ w.profile → given ≡ answer w.profile w.entries key now → row_of given p.current ≡ first_row (window_rows t (told w now p) p p.current)
unfolding window_rows told told_of answer
answered_row t w now p key given timed key_is profile is =
    ap (λ o. row_of o p.current) (is ∙ ap (λ k. answer w.profile w.entries k now) key_is)
    ∙ by_answer w.profile _ _ p.current
    ∙ ap (λ s. first_row (window_rows_of s (told w now p) (λ n. (Replay n, p.current)) (λ n. (WindowFull n, p.current)))) (sym profile)
    ∙ sym (ap first_row (cond-true (is_timed p.first) _ _ timed))

-- ---- what is remembered

-- the key is new
abbrev pub is_new : Offer → Bool
is_new Fresh = true
is_new (Seen first) = false
is_new (Full live) = false

entries_offered : (entries : Entries) (key : WinKey) (turn : ℕ) (given : Offer) → after entries key turn given ≡ (if is_new given then (key, turn) ∷ entries else entries)
entries_offered entries key turn Fresh = refl
entries_offered entries key turn (Seen first) = refl
entries_offered entries key turn (Full live) = refl

taken_offered : (given : Offer) → taken given ≡ (if is_new given then 1 else 0)
taken_offered Fresh = refl
taken_offered (Seen first) = refl
taken_offered (Full live) = refl

retained : (old new : Held) (key : WinKey) (now turn : ℕ) (given : Offer) → old.latest ≤ now → Offers old new key now turn given
    → Retains old new key now turn (is_new given)
retained old new key now turn given since o = record {
  entries = subst (Same old.profile now new.entries) (entries_offered old.entries key turn given) o.entries;
  profile = o.profile;
  since = omega (arith, since, o.latest);
  latest = omega (arith, o.latest);
  spare = omega (arith, o.spare, taken_offered given);
}

-- a packet of level 1 to 3 is retained where its key is new
pub offered : (old new : Held) (key : WinKey) (now turn : ℕ) (given : Offer) (p : Contents) → is_timed p.first ≡ true → key ≡ key_at p p.current → old.latest ≤ now
    → Offers old new key now turn given → Remembers old new now turn p (is_new given)
offered old new key now turn given p timed key_is since o =
    subst (Retains old new (key_at p p.current) now turn) (sym (and_true (is_new given) (is_timed p.first) timed))
    (subst (λ k. Retains old new k now turn (is_new given)) key_is (retained old new key now turn given since o))
  where
    and_true : (a b : Bool) → b ≡ true → (a && b) ≡ a
    and_true true b e = e
    and_true false b e = refl

as_before : (w : Held) (key : WinKey) (now turn : ℕ) → w.latest ≤ now → Retains w w key now turn false
as_before w key now turn since = record {
  entries = Same-refl w.profile now w.entries;
  profile = refl;
  since = omega arith;
  latest = since;
  spare = omega arith;
}

-- a packet of level 0 isn't remembered, nor one that is refused before the window is asked
pub untimed : (w : Held) (now turn : ℕ) (p : Contents) → is_timed p.first ≡ false → w.latest ≤ now → Remembers w w now turn p true
untimed w now turn p e since = subst (Retains w w (key_at p p.current) now turn) (sym e) (as_before w (key_at p p.current) now turn since)

pub untouched : (w : Held) (now turn : ℕ) (p : Contents) → w.latest ≤ now → Remembers w w now turn p false
untouched w now turn p since = as_before w (key_at p p.current) now turn since
