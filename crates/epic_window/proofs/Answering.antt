-- What an offer answers, by what the maps say.
use Rattle.std.proofs.Common.{◌≡◌, ℕ, ◌<◌, ◌≤◌, sym, ◌∙◌, ap}
use Rattle.std.specs.Prelude.{cond, Option, Some, None}
use Rattle.std.specs.Map.{lookup}
use Rattle.std.proofs.lemmas.Bool.{le-leb, lt-leb}
use Rattle.epic_num.specs.declared.profile.Profile.{Profile}
use Rattle.epic_num.specs.Moments.{IsFresh}
use Rattle.epic_window.specs.Entries.{Entries, same_win_key, count}
use Rattle.epic_window.specs.Offers.{answer, answer_at}
use Rattle.epic_window.specs.declared.key.WinKey.{WinKey}
use Rattle.epic_window.specs.declared.offer.Offer.TheVariants.{Fresh, Seen, Full}
use Rattle.epic_window.proofs.SameEntries.{seen_fresh}

-- the answer by the entry that is found, live or not
answer_by : (profile : Profile) (es : Entries) (key : WinKey) (now : ℕ) (found : Option ℕ) → IsFresh profile key.ts now → lookup (same_win_key key) es ≡ found
    → answer profile es key now ≡ answer_at profile (count profile es now key.src.asn) found
unfolding answer
answer_by profile es key now found f e = ap (answer_at profile (count profile es now key.src.asn)) (seen_fresh profile es now key f ∙ e)

pub answers_seen : (profile : Profile) (es : Entries) (key : WinKey) (now first : ℕ) → IsFresh profile key.ts now → lookup (same_win_key key) es ≡ Some first
    → Seen first ≡ answer profile es key now
answers_seen profile es key now first f e = sym (answer_by profile es key now (Some first) f e)

pub answers_full : (profile : Profile) (es : Entries) (key : WinKey) (now live : ℕ) → IsFresh profile key.ts now → lookup (same_win_key key) es ≡ None
    → live ≡ count profile es now key.src.asn → profile.window ≤ live → Full live ≡ answer profile es key now
answers_full profile es key now live f e is le =
    sym
    (answer_by profile es key now None f e
    ∙ ap (λ n. answer_at profile n None) (sym is)
    ∙ ap (λ b. cond b (Full live) Fresh) (le-leb profile.window live le))

pub answers_fresh : (profile : Profile) (es : Entries) (key : WinKey) (now : ℕ) → IsFresh profile key.ts now → lookup (same_win_key key) es ≡ None
    → count profile es now key.src.asn < profile.window → Fresh ≡ answer profile es key now
answers_fresh profile es key now f e lt =
    sym
    (answer_by profile es key now None f e
    ∙ ap (λ b. cond b (Full (count profile es now key.src.asn)) Fresh) (lt-leb profile.window (count profile es now key.src.asn) lt))
