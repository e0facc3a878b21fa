-- Private: serves proofs of this crate alone; no public contract cites it.
-- What the calls look for on the way to a verdict, by the ledger's own answers.
use Rattle.std.specs.Prelude.{ℕ, ◌==◌, Bool, false, List, Option, None, Some, option_map, option_and_then, bytes_eq, IsSome, if◌then◌else◌, ⊤}
use Rattle.std.specs.Option.{option_map_or}
use Rattle.epic_num.specs.declared.hop.HopName.{HopName}
use Rattle.epic_num.specs.declared.key_name.Holder.{Holder}
use Rattle.epic_num.specs.Chains.{Issue}
use Rattle.epic_num.specs.Same.{same_name}
use Rattle.epic_layout.specs.Contents.{Contents}
use Rattle.epic_topo.specs.Network.{Network}
use Rattle.epic_fields.specs.Tags.{sigma}
use Rattle.epic_ledger.specs.declared.event.Event.{Event}
use Rattle.epic_ledger.specs.declared.event.Event.TheVariants as event
use Rattle.epic_ledger.specs.Facts.{Facts, as_send, as_reveal, sent_name}
use Rattle.epic_ledger.specs.History.{Emission, emission_at}
use Rattle.epic_ledger.specs.Queries.{issue_of, send_of}
use Rattle.epic_holders.specs.declared.maker.Maker.{Maker}
use Rattle.epic_holders.specs.Holders.{is_sender}
use Rattle.epic_holders.specs.Makers.{opened_by, least_opened, maker_lines}

-- ---- what p's source first sent with p's timestamp, where it has p's first byte

-- its emission
unfoldable pub sent_like : Facts → Contents → Option ℕ
sent_like f p = option_and_then (λ s. if s.packet.first == p.first then Some s.emission else None) (send_of f.sends p.src p.ts)

-- the number of an emission, where what it says has p's first byte
abbrev pub if_like : Contents → ℕ → Option Contents → Option ℕ
if_like p n None = None
if_like p n (Some q) = if q.first == p.first then Some n else None

-- its name at hop j, whatever its first byte
unfoldable pub name_sent : Facts → Contents → ℕ → Option HopName
name_sent f p j = option_and_then (λ s. sent_name f.issues s j) (send_of f.sends p.src p.ts)

abbrev pub with_name : ℕ → Option HopName → Option (ℕ × HopName)
with_name emission name = option_map (λ y. (emission, y)) name

-- its emission, and its name at hop j
unfoldable pub sent_hop : Facts → Contents → ℕ → Option (ℕ × HopName)
sent_hop f p j = option_and_then (λ emission. with_name emission (name_sent f p j)) (sent_like f p)

-- its emission, where its name is x
abbrev pub made_by : HopName → Option (ℕ × HopName) → Option ℕ
made_by x None = None
made_by x (Some s) = if same_name s.1 x then Some s.0 else None

-- its name, where it has the authenticator of x
abbrev pub other_of : Network → HopName → Option (ℕ × HopName) → Option HopName
other_of t x None = None
other_of t x (Some s) = if bytes_eq (sigma t s.1) (sigma t x) then Some s.1 else None

unfoldable pub maker_found : Network → Facts → HopName → Contents → ℕ → Maker
maker_found t f x p j =
    maker_lines x
    (issue_of f.issues x)
    (made_by x (sent_hop f p j))
    (least_opened f x f.reveals)
    (other_of t x (sent_hop f p j))

-- ---- events

-- of a sent packet the event names what is there
abbrev pub SendFits : List Emission → Event → Type 0
SendFits emissions (event.Send step emission segments) = IsSome (emission_at emissions emission)
SendFits emissions (event.Pass step a hop generation emission) = ⊤
SendFits emissions (event.Issue step number name parent) = ⊤
SendFits emissions (event.Fetch step source owner epoch) = ⊤
SendFits emissions (event.Arrive step host src ts hops checked) = ⊤
SendFits emissions (event.Reveal step holder) = ⊤
SendFits emissions (event.Roll step a generation) = ⊤

-- the event says that the holder sent a packet over x
unfoldable pub is_sender_at : List Issue → HopName → Holder → List Emission → Event → Bool
is_sender_at issues x h emissions e = option_map_or (is_sender issues x h) (as_send emissions e) false

-- the step at which the event says that a holder of x was revealed
unfoldable pub opened_at : Facts → HopName → Event → Option ℕ
opened_at f x e = option_and_then (opened_by f x) (as_reveal e)
