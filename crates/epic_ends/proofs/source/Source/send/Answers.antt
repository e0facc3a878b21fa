use Rattle.std.proofs.Common.{subst, sym}
use Rattle.epic_num.specs.Levels.{first_byte}
use Rattle.epic_keys.specs.Fetches.{is_fetched}
use Rattle.epic_ends.specs.SentPackets.{IsRightPacket}
use Rattle.epic_ends.proofs.Admitted.{right_packet, short_payload}
use Rattle.epic_ends.proofs.source.Source.send.Goals as goal

pub packet-requires-clause-payload : goal.packet-requires-clause-payload
packet-requires-clause-payload c =
    short_payload c.args.topo.now (is_fetched c.args.keys.now) _ c.args.path.now.legs.items (first_byte c.args.version c.args.level) c.args.dst c.args.payload.now c.args.now
    c.in_ok-ts.ts c.in_ok-ts.ensures

pub returns-clause-right : goal.returns-clause-right
returns-clause-right c =
    subst (IsRightPacket c.args.topo.now c.args.path.now.legs.items) (sym c.from_vec.ensures)
    (right_packet c.args.topo.now c.args.path.now.legs.items c.args.version c.args.level c.first_byte-first.result _ c.args.dst c.in_ok-ts.ts c.args.payload.now
    c.in-Ok.bytes.items c.args.path.now.lawful c.first_byte-first.ensures c.in-Ok.ensures.read)
