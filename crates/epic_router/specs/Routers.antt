-- What contracts see of a router, and the bytes as they leave it.
use Rattle.std.specs.Prelude.{ℕ, List}
use Rattle.epic_num.specs.declared.name.AsId.{AsId}
use Rattle.epic_num.specs.declared.turn.Turn.{Turn}
use Rattle.epic_num.specs.declared.turn.Turn.TheVariants.{Forward, Deliver, Refused}
use Rattle.epic_layout.specs.Layout.{parse}
use Rattle.epic_layout.specs.Spelling.{spelling}
use Rattle.epic_topo.specs.Network.{Network}
use Rattle.epic_router.specs.Leaving.{packet_after}
use Rattle.epic_window.specs.Offers.{Held}

-- a router: its AS, and its window
pub record RouterState : Type 0 where
  pub asn : AsId
  pub window : Held

-- the bytes after an answer of the router of an AS: the one spelling of the packet that leaves, or what came in
abbrev pub bytes_after : Network → AsId → Turn → List ℕ → List ℕ
bytes_after t a (Forward out hops generations) bytes = spelling (packet_after t a (Forward out hops generations) (parse bytes))
bytes_after t a (Deliver host hops generations) bytes = spelling (packet_after t a (Deliver host hops generations) (parse bytes))
bytes_after t a (Refused check hop) bytes = bytes
