-- What a window answers to a packet that passed all other checks.
use Rattle.std.proofs.Common.{◌≡◌, ℕ, Option, None, Some, refl, ap, sym, subst, ◌∙◌}
use Rattle.std.specs.Prelude.{nat_le, if◌then◌else◌}
use Rattle.std.proofs.lemmas.Bool.{cond-true, cond-false, cond_both}
use Rattle.epic_num.specs.declared.arrival.Arrival.{Arrival}
use Rattle.epic_num.specs.declared.arrival.Arrival.TheVariants.{Accepted, Refused}
use Rattle.epic_num.specs.declared.arrival.DestCheck.{DestCheck}
use Rattle.epic_num.specs.declared.arrival.DestCheck.TheVariants.{Replay, WindowFull}
use Rattle.epic_num.specs.declared.profile.Profile.{Profile}
use Rattle.epic_num.specs.Moments.{IsFresh}
use Rattle.epic_num.specs.Tables.{first_row}
use Rattle.epic_num.specs.Windows.{Told, was_here, has_no_room, window_rows}
use Rattle.epic_layout.specs.Contents.{Contents}
use Rattle.epic_window.specs.Entries.{told_of}
use Rattle.epic_window.specs.Offers.{Held, answer, answer_at}
use Rattle.epic_window.specs.declared.key.WinKey.{WinKey}
use Rattle.epic_window.specs.declared.offer.Offer.{Offer}
use Rattle.epic_window.specs.declared.offer.Offer.TheVariants.{Fresh, Seen, Full}
use Rattle.epic_router.specs.Remembering.{key_at}
use Rattle.epic_ends.specs.Arriving.{unless}
use Rattle.epic_ends.specs.Destinations.{end_key, told_at}

-- what the host answers to a packet, by what its window answers
abbrev pub arrival_by : Offer → Arrival
arrival_by Fresh = Accepted
arrival_by (Seen first) = Refused (Replay first)
arrival_by (Full live) = Refused (WindowFull live)

-- what the rows of a window say
abbrev pub window_arrival : Profile → Told → Arrival
window_arrival profile told = unless (first_row (window_rows profile told (λ first. Replay first) (λ live. WindowFull live))) Accepted

answered_at : (profile : Profile) (live : ℕ) (first : Option ℕ) → arrival_by (answer_at profile live first) ≡ window_arrival profile (record { first = first; live = live })
unfolding window_rows was_here has_no_room
answered_at profile live (Some first) = refl
answered_at profile live None =
    cond_both (nat_le profile.window live) (Full live) Fresh
    (λ offer. arrival_by offer ≡ unless (if nat_le profile.window live then Some (WindowFull live) else None) Accepted)
    (λ e. ap (λ (o : Option DestCheck). unless o Accepted) (sym (cond-true (nat_le profile.window live) (Some (WindowFull live)) None e)))
    (λ e. ap (λ (o : Option DestCheck). unless o Accepted) (sym (cond-false (nat_le profile.window live) (Some (WindowFull live)) None e)))

-- the answer to an offer of the packet is what the window's rows say
pub answered : (window : Held) (now : ℕ) (p : Contents) (key : WinKey) (given : Offer) → key ≡ end_key p
    → given ≡ answer window.profile window.entries key now → arrival_by given ≡ window_arrival window.profile (told_at window now p)
unfolding answer told_at told_of
answered window now p key given is e =
    let told = told_at window now p in
    ap arrival_by (e ∙ ap (λ k. answer window.profile window.entries k now) is) ∙ answered_at window.profile told.live told.first

-- the packet is fresh by what it is known by
pub fresh_key : (profile : Profile) (now : ℕ) (p : Contents) (key : WinKey) → key ≡ end_key p → IsFresh profile p.ts now → IsFresh profile key.ts now
unfolding end_key key_at
fresh_key profile now p key is fresh = subst (λ (k : WinKey). IsFresh profile k.ts now) (sym is) fresh
