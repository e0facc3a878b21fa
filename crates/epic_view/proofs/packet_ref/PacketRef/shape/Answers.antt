use Rattle.std.proofs.Common.{subst}
use Rattle.epic_layout.specs.Contents.{IsPacket, IsBytes}
use Rattle.epic_layout.proofs.Limits.{IsPacket-parse}
use Rattle.epic_view.proofs.packet_ref.PacketRef.shape.Goals as goal

pub returns-clause-packet : goal.returns-clause-packet
returns-clause-packet c =
    let bytes : IsBytes c.self.inside.bytes.now = c.are_bytes.ensures in
    subst IsPacket c.self.view_is (IsPacket-parse c.self.inside.bytes.now bytes c.self.invariant.sound)
