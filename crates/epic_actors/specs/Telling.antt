-- What became of a packet, as an answer tells it, and what is known of one that a router accepts.
use Rattle.std.specs.Prelude.{◌≡◌, ℕ, true, List}
use Rattle.epic_num.specs.declared.arrival.Arrival.{Arrival}
use Rattle.epic_num.specs.declared.name.AsId.{AsId}
use Rattle.epic_num.specs.declared.name.HostId.{HostId}
use Rattle.epic_num.specs.declared.passed.Passed.{Passed}
use Rattle.epic_num.specs.declared.passed.Place.{Place}
use Rattle.epic_num.specs.declared.turn.Turn.{Turn}
use Rattle.epic_layout.specs.Contents.{Contents, hop_count}
use Rattle.epic_layout.specs.Layout.{parse}
use Rattle.epic_topo.specs.Network.{Network}
use Rattle.epic_fields.specs.HopChecks.{hop_name, has_field, has_link}
use Rattle.epic_window.specs.Entries.{told_of}
use Rattle.epic_router.specs.Candidates.{candidates_of}
use Rattle.epic_router.specs.Remembering.{key_at}
use Rattle.epic_router.specs.RightTurns.{IsAccepted, IsRightTurn}
use Rattle.epic_ends.specs.RightArrivals.{IsRightArrival}
use Rattle.epic_ledger.specs.History.{History}
use Rattle.epic_model.specs.Passing.{Happened, rolls}
use Rattle.epic_model.specs.Windows.{router_window, host_window}

-- what became of a packet at a place
abbrev pub as_passed : Place → Happened → Passed
as_passed place d = record { place = place; result = d.result; emission = d.emission; verdicts = record { items = d.verdicts } }

-- what the router of an AS accepts at a moment, over what the ledger tells, is right
abbrev pub IsRightAt : Network → ℕ → History → AsId → ℕ → List ℕ → Turn → Type 0
IsRightAt t now h a iface bytes answer =
    IsRightTurn t a (candidates_of (rolls h.events a)) iface now (told_of t.profile (router_window h a) now (key_at (parse bytes) (parse bytes).current)) bytes answer

-- so of bytes that an answer accepts, after so many hops, each under a generation
abbrev pub IsAcceptedAt : Network → ℕ → History → AsId → ℕ → List ℕ → Turn → ℕ → List ℕ → Type 0
IsAcceptedAt t now h a iface bytes answer hops generations =
    IsAccepted t a (candidates_of (rolls h.events a)) iface now (told_of t.profile (router_window h a) now (key_at (parse bytes) (parse bytes).current)) bytes answer hops generations

-- what a host takes at a moment, over what the ledger tells, is right
abbrev pub IsRightArrivalAt : Network → ℕ → History → HostId → List ℕ → Arrival → Type 0
IsRightArrivalAt t now h d bytes answer =
    IsRightArrival t d now (told_of t.profile (host_window h d) now (key_at (parse bytes) (hop_count (parse bytes)))) bytes answer

-- the tags of a hop are right under a generation
pub record IsHopAccepted (t : Network) (a : AsId) (generation : ℕ) (p : Contents) (j : ℕ) : Type 0 where
  pub field_right : has_field t (hop_name a generation p j) p j ≡ true
  pub link_right : has_link t (hop_name a generation p j) p j ≡ true
