-- A host to which one packet more comes remembers what the definition says.
use Rattle.std.proofs.Common.{◌≡◌, ℕ, ◌+◌, ◌≤◌, Bool, true, false, List, ◌∷◌, refl, sym, ◌∙◌, ap, subst, add-one, if◌then◌else◌, arith}
use Rattle.std.specs.Prelude.{slice_index_or}
use Rattle.epic_num.specs.declared.profile.Profile.{Profile}
use Rattle.epic_num.specs.declared.arrival.Arrival.{Arrival}
use Rattle.epic_layout.specs.Contents.{Contents}
use Rattle.epic_layout.specs.Layout.{parse}
use Rattle.epic_topo.specs.Network.{Network}
use Rattle.epic_window.specs.Entries.{Entries, Same, told_of}
use Rattle.epic_window.specs.Offers.{Held}
use Rattle.epic_window.specs.declared.key.WinKey.{WinKey}
use Rattle.epic_window.proofs.SameEntries.{Same-cons, Same-trans}
use Rattle.epic_router.specs.Remembering.{Retains}
use Rattle.epic_ends.specs.Arriving.{arrival_of}
use Rattle.epic_ends.specs.Destinations.{Destination, end_key, is_accepted, told_at}
use Rattle.epic_bench.specs.Arrived.{Taken, taken, taken_one}
use Rattle.epic_bench.specs.declared.arrived.TheConstants.{HOST}
use Rattle.epic_bench.specs.declared.routed.TheConstants.{NO_PACKET}
use Rattle.epic_bench.specs.declared.way.TheConstants.{NOW}

-- windows that hold the same tell the same
told_same : (t : Network) (w : Held) (es : Entries) (p : Contents) → w.profile ≡ t.profile → Same t.profile NOW w.entries es
    → told_at w NOW p ≡ told_of t.profile es NOW (end_key p)
unfolding told_at told_of
told_same t w es p profile h =
    let key = end_key p in
    ap (λ s. told_of s w.entries NOW key) profile
    ∙ (λ i. record { first = h.seen_is NOW key (omega arith) i; live = h.count_is NOW key.src.asn (omega arith) i })

Same-kept : (profile : Profile) (from : ℕ) (e : WinKey × ℕ) (es fs : Entries) (kept : Bool) → Same profile from es fs
    → Same profile from (if kept then e ∷ es else es) (if kept then e ∷ fs else fs)
Same-kept profile from e es fs true h = Same-cons profile from e es fs h
Same-kept profile from e es fs false h = h

kept_one : (kept : Bool) → (if kept then 1 else 0) ≤ 1
kept_one true = omega arith
kept_one false = omega arith

taken_next : (t : Network) (start : Entries) (packets : List (List ℕ)) (i : ℕ) → taken t start packets (i + 1) ≡ taken_one t i (slice_index_or packets i NO_PACKET) (taken t start packets i)
unfolding taken
taken_next t start packets i = rw add-one refl

-- so many packets came to the host, so many of which it accepted, and it has room for the rest
pub record IsTaken (t : Network) (start : Entries) (packets : List (List ℕ)) (rounds i accepted : ℕ) (d : Destination) : Type 0 where
  pub host : d.host ≡ HOST
  pub profile : d.window.profile ≡ t.profile
  pub latest : d.window.latest ≤ NOW
  pub entries : Same t.profile NOW d.window.entries (taken t start packets i).entries
  pub accepted_is : accepted ≡ (taken t start packets i).accepted
  pub few : accepted ≤ i
  pub room : rounds ≤ i + d.window.spare

pub taken_more : (t : Network) (start : Entries) (packets : List (List ℕ)) (rounds i accepted count : ℕ) (old new : Destination) (bytes : List ℕ) (given : Arrival)
    → IsTaken t start packets rounds i accepted old → bytes ≡ slice_index_or packets i NO_PACKET
    → given ≡ arrival_of t old.host NOW (told_at old.window NOW (parse bytes)) bytes
    → Retains old.window new.window (end_key (parse bytes)) NOW i (is_accepted given) → new.host ≡ old.host → count ≡ (if is_accepted given then 1 else 0)
    → IsTaken t start packets rounds (i + 1) (accepted + count) new
unfolding taken_one
taken_more t start packets rounds i accepted count old new bytes given m bytes_is answers w host counted = record {
  host = host ∙ m.host;
  profile = w.profile ∙ m.profile;
  latest = w.latest;
  entries = subst (Same t.profile NOW new.window.entries) (ap (λ answer. after (is_accepted answer)) is ∙ sym (ap (λ k. k.entries) next))
      (Same-trans t.profile NOW new.window.entries (if kept then (key, i) ∷ old.window.entries else old.window.entries) (after kept)
      (subst (λ s. Same s NOW new.window.entries (if kept then (key, i) ∷ old.window.entries else old.window.entries)) m.profile w.entries)
      (Same-kept t.profile NOW (key, i) old.window.entries before.entries kept m.entries));
  accepted_is = omega (arith, m.accepted_is, counted, ap {B = ℕ} (λ answer. if is_accepted answer then 1 else 0) is, ap (λ k. k.accepted) next);
  few = omega (arith, m.few, counted, kept_one kept);
  room = omega (arith, m.room, w.spare, kept_one kept);
}
  where
    key : WinKey
    key = end_key (parse bytes)

    kept : Bool
    kept = is_accepted given

    before : Taken
    before = taken t start packets i

    after : Bool → Entries
    after k = if k then (key, i) ∷ before.entries else before.entries

    is : given ≡ arrival_of t HOST NOW (told_of t.profile before.entries NOW key) bytes
    is =
        answers
        ∙ ap (λ h. arrival_of t h NOW (told_at old.window NOW (parse bytes)) bytes) m.host
        ∙ ap (λ told. arrival_of t HOST NOW told bytes) (told_same t old.window before.entries (parse bytes) m.profile m.entries)

    next : taken t start packets (i + 1) ≡ taken_one t i bytes before
    next = taken_next t start packets i ∙ ap (λ b. taken_one t i b before) (sym bytes_is)
