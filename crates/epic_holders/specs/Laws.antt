-- What verdicts on the makers of level 1 fields are worth, and what leaves them as they are.
use Rattle.std.specs.Prelude.{◌≡◌, ◌↔◌, ℕ, None}
use Rattle.epic_num.specs.declared.hop.HopName.{HopName}
use Rattle.epic_num.specs.declared.hop.Level.TheVariants.{L1}
use Rattle.epic_num.specs.declared.name.AsId.{AsId}
use Rattle.epic_num.specs.Levels.{level_of}
use Rattle.epic_layout.specs.Contents.{Contents}
use Rattle.epic_topo.specs.Network.{Network}
use Rattle.epic_fields.specs.HopChecks.{hop_name}
use Rattle.epic_ledger.specs.History.{History}
use Rattle.epic_ledger.specs.Facts.{Facts, as_issue, as_send, as_reveal, facts_of}
use Rattle.epic_ledger.specs.OneMore.{with_event}
use Rattle.epic_ledger.specs.declared.event.Event.{Event}
use Rattle.epic_audit.specs.Clauses.{IsSourced}
use Rattle.epic_audit.specs.Kept.{Kept, ArePackets}
use Rattle.epic_audit.specs.Laws.{IsAccepted}
use Rattle.epic_holders.specs.MakerHolds.{MakerHolds}
use Rattle.epic_holders.specs.Makers.{maker_verdict, IsMade}

-- the verdict on an accepted hop of level 1 is Made exactly where a packet of level 1 with the packet's source and timestamp
-- was sent over it, and is always true
abbrev pub MakersHold : Type 0
MakersHold =
    (t : Network) (f : Facts) (a : AsId) (generation : ℕ) (p : Contents) (j : ℕ)
    → ArePackets f → Kept t f → IsAccepted t a generation p j → level_of p.first ≡ L1
    → (IsMade (maker_verdict t f (hop_name a generation p j) p j) ↔ IsSourced f (hop_name a generation p j) p j)
    × MakerHolds t f (hop_name a generation p j) p j (maker_verdict t f (hop_name a generation p j) p j)

-- it rests on issues, sent packets and reveals alone
abbrev pub MakersAgree : Type 0
MakersAgree =
    (t : Network) (f g : Facts) (x : HopName) (p : Contents) (j : ℕ)
    → f.issues ≡ g.issues → f.sends ≡ g.sends → f.reveals ≡ g.reveals
    → maker_verdict t f x p j ≡ maker_verdict t g x p j

-- so an event that is none of these, as an accepted hop or an arrival, leaves it as it is
abbrev pub MakersStay : Type 0
MakersStay =
    (t : Network) (h : History) (e : Event) (x : HopName) (p : Contents) (j : ℕ)
    → as_issue e ≡ None → as_send h.emissions e ≡ None → as_reveal e ≡ None
    → maker_verdict t (facts_of (with_event h e)) x p j ≡ maker_verdict t (facts_of h) x p j
