-- What contracts see of a packet that is edited where its bytes lie.
use Rattle.std.specs.Prelude.{ℕ, List}
use Rattle.epic_layout.specs.Contents.{Contents}
use Rattle.epic_layout.specs.Layout.{parse}
use Rattle.epic_view.specs.declared.packet_view.PacketView.{PacketView}

-- the bytes that the view edits
abbrev pub bytes_of : PacketView → List ℕ
bytes_of v = v.bytes.now

-- the packet that they spell
abbrev pub packet_of : PacketView → Contents
packet_of v = parse v.bytes.now
