-- What an event has to fit, beyond naming what is there, so that a ledger goes on to keep what every ledger of a world keeps.
use Rattle.std.specs.Prelude.{◌≡◌, ℕ, List, [], ◌∷◌, ◌++◌, Some, slice_get, ⊤}
use Rattle.epic_num.specs.Chains.{Issue}
use Rattle.epic_layout.specs.Contents.{Contents}
use Rattle.epic_topo.specs.Network.{Network}
use Rattle.epic_fields.specs.Issues.{IsKept, IssuesKept}
use Rattle.epic_ledger.specs.History.{History, Emission, step_of}
use Rattle.epic_ledger.specs.OneMore.{with_event, with_emission}
use Rattle.epic_ledger.specs.Facts.{Sent, packet_at, issues_in, sends_in, reveals_in, facts_of, sent_name}
use Rattle.epic_ledger.specs.Lawful.{IsEmission, Fits, IsLast, IsLawful}
use Rattle.epic_ledger.specs.declared.event.Event.{Event}
use Rattle.epic_ledger.specs.declared.event.Event.TheVariants as event
use Rattle.epic_audit.specs.Kept.{IsKeptPass, IsKeptSend, Kept, ArePackets}
use Rattle.epic_audit.specs.Reveals.{IsRevealed}

-- among the issues with it, the new one is kept
abbrev pub IssueFits : Network → List Issue → ℕ → Issue → Type 0
IssueFits t issues number i = IsKept t (issues ++ i ∷ []) number i

-- no packet was sent by this one's source with its timestamp
abbrev pub IsUnsent : List Sent → Contents → Type 0
IsUnsent sends p = (n : ℕ) (s : Sent) → slice_get sends n ≡ Some s → s.packet.src ≡ p.src → s.packet.ts ≡ p.ts → ⊥

-- the sent packet is kept, and the first of its source with its timestamp
pub record SendFits (t : Network) (issues : List Issue) (sends : List Sent) (s : Sent) : Type 0 where
  pub kept : IsKeptSend t issues s
  pub unsent : IsUnsent sends s.packet

-- What an event has to fit after the ledger: an issue, a sent packet and an accepted hop have to be kept, and a holder is
-- revealed once. The others say nothing of which a verdict speaks.
abbrev pub EventFits : Network → History → Event → Type 0
EventFits t h (event.Issue step number name parent) =
    IssueFits t (issues_in h.events) number (record { name = name; parent = parent })
EventFits t h (event.Send step emission segments) =
    SendFits t (issues_in h.events) (sends_in h)
    (record { emission = emission; segments = segments.items; packet = packet_at h.emissions emission })
EventFits t h (event.Pass step a hop generation emission) =
    IsKeptPass t (record { asn = a; generation = generation; hop = hop; emission = emission; packet = packet_at h.emissions emission })
EventFits t h (event.Reveal step holder) = IsRevealed (reveals_in h.events) holder → ⊥
EventFits t h (event.Fetch step source owner epoch) = ⊤
EventFits t h (event.Arrive step host src ts hops checked) = ⊤
EventFits t h (event.Roll step a generation) = ⊤

-- ---- laws

-- a ledger begins with nothing, of which all is kept
abbrev pub NothingIsKept : Type 0
NothingIsKept = (t : Network) → Kept t (facts_of (record { events = []; emissions = [] }))

-- an event that fits keeps what a lawful ledger keeps
abbrev pub EventsKeep : Type 0
EventsKeep =
    (t : Network) (h : History) (e : Event)
    → IsLawful h → Kept t (facts_of h)
    → Fits h.emissions (issues_in h.events) e → EventFits t h e
    → Kept t (facts_of (with_event h e))

-- an event that names what is there, and isn't of an earlier step, keeps a ledger lawful
abbrev pub EventsAreLawful : Type 0
EventsAreLawful =
    (h : History) (e : Event)
    → IsLawful h → Fits h.emissions (issues_in h.events) e → IsLast h.events (step_of e)
    → IsLawful (with_event h e)

-- a packet more changes no fact of a lawful ledger
abbrev pub EmissionsAddNothing : Type 0
EmissionsAddNothing = (h : History) (x : Emission) → IsLawful h → facts_of (with_emission h x) ≡ facts_of h

-- and keeps it lawful
abbrev pub EmissionsAreLawful : Type 0
EmissionsAreLawful = (h : History) (x : Emission) → IsLawful h → IsEmission x → IsLawful (with_emission h x)

-- the facts of a lawful ledger speak of packets
abbrev pub LawfulPackets : Type 0
LawfulPackets = (h : History) → IsLawful h → ArePackets (facts_of h)

-- a hop of a sent packet keeps its name when one more is issued
abbrev pub NamesStay : Type 0
NamesStay =
    (t : Network) (issues : List Issue) (i : Issue) (s : Sent) (j : ℕ)
    → IssuesKept t issues → IsKeptSend t issues s
    → sent_name (issues ++ i ∷ []) s j ≡ sent_name issues s j
