use Rattle.std.proofs.Common.{arith}
use Rattle.epic_record.proofs.Bodies.{body_by_reads-is}
use Rattle.epic_record.proofs.body.body_from_bytes.Goals as goal

pub returns : goal.returns
returns c =
    rw (c.from_be_bytes.ensures, c.from_be_bytes-2.ensures, c.from_be_bytes-3.ensures) (body_by_reads-is c.args.bytes.now (omega arith))
