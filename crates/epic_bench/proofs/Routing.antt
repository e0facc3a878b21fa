-- A router that takes one packet more remembers what the definition says.
use Rattle.std.proofs.Common.{◌≡◌, ℕ, ◌+◌, ◌≤◌, Bool, true, false, List, ◌∷◌, refl, sym, ◌∙◌, ap, subst, add-one, if◌then◌else◌, arith}
use Rattle.std.specs.Prelude.{◌&&◌, slice_index_or}
use Rattle.epic_num.specs.Levels.{is_timed}
use Rattle.epic_num.specs.declared.profile.Profile.{Profile}
use Rattle.epic_num.specs.declared.turn.Turn.{Turn}
use Rattle.epic_layout.specs.Contents.{Contents}
use Rattle.epic_layout.specs.Layout.{parse}
use Rattle.epic_topo.specs.Network.{Network}
use Rattle.epic_window.specs.Entries.{Entries, Same, told_of}
use Rattle.epic_window.specs.Offers.{Held}
use Rattle.epic_window.specs.declared.key.WinKey.{WinKey}
use Rattle.epic_window.proofs.SameEntries.{Same-cons, Same-trans}
use Rattle.epic_router.specs.Candidates.{candidates_of}
use Rattle.epic_router.specs.Handling.{turn_of}
use Rattle.epic_router.specs.Remembering.{Remembers, is_accepted, key_at, told}
use Rattle.epic_router.specs.Routers.{RouterState}
use Rattle.epic_bench.specs.Routed.{Met, accepted_by, met, met_one}
use Rattle.epic_bench.specs.declared.routed.TheConstants.{IFACE, NO_PACKET, ROUTER}
use Rattle.epic_bench.specs.declared.way.TheConstants.{NOW}

-- windows that hold the same tell the same
told_same : (t : Network) (w : Held) (es : Entries) (p : Contents) → w.profile ≡ t.profile → Same t.profile NOW w.entries es
    → told w NOW p ≡ told_of t.profile es NOW (key_at p p.current)
unfolding told told_of
told_same t w es p profile h =
    let key = key_at p p.current in
    ap (λ s. told_of s w.entries NOW key) profile
    ∙ (λ i. record { first = h.seen_is NOW key (omega arith) i; live = h.count_is NOW key.src.asn (omega arith) i })

Same-kept : (profile : Profile) (from : ℕ) (e : WinKey × ℕ) (es fs : Entries) (kept : Bool) → Same profile from es fs
    → Same profile from (if kept then e ∷ es else es) (if kept then e ∷ fs else fs)
Same-kept profile from e es fs true h = Same-cons profile from e es fs h
Same-kept profile from e es fs false h = h

met_next : (t : Network) (start : Entries) (packets : List (List ℕ)) (i : ℕ) → met t start packets (i + 1) ≡ met_one t i (slice_index_or packets i NO_PACKET) (met t start packets i)
unfolding met
met_next t start packets i = rw add-one refl

-- the router took so many packets, so many of which it accepted, and has room for the rest
pub record IsMet (t : Network) (start : Entries) (packets : List (List ℕ)) (rounds i accepted : ℕ) (router : RouterState) : Type 0 where
  pub asn : router.asn ≡ ROUTER
  pub profile : router.window.profile ≡ t.profile
  pub latest : router.window.latest ≤ NOW
  pub entries : Same t.profile NOW router.window.entries (met t start packets i).entries
  pub accepted_is : accepted ≡ (met t start packets i).accepted
  pub few : accepted ≤ i
  pub room : rounds ≤ i + router.window.spare

kept_one : (kept : Bool) → (if kept then 1 else 0) ≤ 1
kept_one true = omega arith
kept_one false = omega arith

pub met_more : (t : Network) (start : Entries) (packets : List (List ℕ)) (rounds i accepted count : ℕ) (old new : RouterState) (bytes : List ℕ) (given : Turn)
    → IsMet t start packets rounds i accepted old → bytes ≡ slice_index_or packets i NO_PACKET
    → given ≡ turn_of t old.asn (candidates_of 0) IFACE NOW (told old.window NOW (parse bytes)) bytes
    → Remembers old.window new.window NOW i (parse bytes) (is_accepted given) → new.asn ≡ old.asn → count ≡ accepted_by given → count ≤ 1
    → IsMet t start packets rounds (i + 1) (accepted + count) new
unfolding met_one
met_more t start packets rounds i accepted count old new bytes given m bytes_is answers w asn counted one = record {
  asn = asn ∙ m.asn;
  profile = w.profile ∙ m.profile;
  latest = w.latest;
  entries = subst (Same t.profile NOW new.window.entries) (ap (λ turn. after (is_accepted turn && is_timed p.first)) is ∙ sym (ap (λ k. k.entries) next))
      (Same-trans t.profile NOW new.window.entries (if kept then (key, i) ∷ old.window.entries else old.window.entries) (after kept)
      (subst (λ s. Same s NOW new.window.entries (if kept then (key, i) ∷ old.window.entries else old.window.entries)) m.profile w.entries)
      (Same-kept t.profile NOW (key, i) old.window.entries before.entries kept m.entries));
  accepted_is = omega (arith, m.accepted_is, counted, ap accepted_by is, ap (λ k. k.accepted) next);
  few = omega (arith, m.few, one);
  room = omega (arith, m.room, w.spare, kept_one kept);
}
  where
    p : Contents
    p = parse bytes

    key : WinKey
    key = key_at p p.current

    kept : Bool
    kept = is_accepted given && is_timed p.first

    before : Met
    before = met t start packets i

    after : Bool → Entries
    after k = if k then (key, i) ∷ before.entries else before.entries

    is : given ≡ turn_of t ROUTER (candidates_of 0) IFACE NOW (told_of t.profile before.entries NOW key) bytes
    is =
        answers
        ∙ ap (λ a. turn_of t a (candidates_of 0) IFACE NOW (told old.window NOW p) bytes) m.asn
        ∙ ap (λ heard. turn_of t ROUTER (candidates_of 0) IFACE NOW heard bytes) (told_same t old.window before.entries p m.profile m.entries)

    next : met t start packets (i + 1) ≡ met_one t i bytes before
    next = met_next t start packets i ∙ ap (λ b. met_one t i b before) (sym bytes_is)
