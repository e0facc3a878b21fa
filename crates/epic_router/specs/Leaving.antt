-- The packet as it leaves a router.
use Rattle.std.specs.Prelude.{ℕ, if◌then◌else◌, List, [], ◌∷◌, take}
use Rattle.epic_num.specs.declared.name.AsId.{AsId}
use Rattle.epic_num.specs.declared.turn.Turn.{Turn}
use Rattle.epic_num.specs.declared.turn.Turn.TheVariants.{Forward, Deliver, Refused}
use Rattle.epic_num.specs.Levels.{is_updated}
use Rattle.epic_layout.specs.Contents.{Contents, advanced, with_field}
use Rattle.epic_topo.specs.Network.{Network}
use Rattle.epic_fields.specs.HopChecks.{hop_name}
use Rattle.epic_fields.specs.PacketTags.{update_of}

-- the current hop was handled under a generation: at level 3 its update stands in its field's place
unfoldable pub updated : Network → AsId → ℕ → Contents → Contents
updated t a generation p =
    if is_updated p.first then with_field p p.current (update_of t (hop_name a generation p p.current) p p.current) else p

-- and the packet is one hop on
unfoldable pub hop_on : Network → AsId → ℕ → Contents → Contents
hop_on t a generation p = advanced (updated t a generation p) 1

-- one hop after the other, under a generation each
abbrev pub hops_on : Network → AsId → List ℕ → Contents → Contents
hops_on t a [] p = p
hops_on t a (generation ∷ generations) p = hops_on t a generations (hop_on t a generation p)

-- the packet after an answer: its handled hops are passed, or nothing has changed
abbrev pub packet_after : Network → AsId → Turn → Contents → Contents
packet_after t a (Forward out hops generations) p = hops_on t a (take hops generations) p
packet_after t a (Deliver host hops generations) p = hops_on t a (take hops generations) p
packet_after t a (Refused check hop) p = p
