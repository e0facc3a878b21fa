use Rattle.std.proofs.Common.{arith}
use Rattle.epic_app.proofs.SpellingLaws.{body_of-by_reads, body_bytes-by_reads}
use Rattle.epic_app.proofs.spelling.body_from_bytes.Goals as goal

pub returns-clause-value : goal.returns-clause-value
returns-clause-value c =
    rw (c.from_be_bytes.ensures, c.from_be_bytes-2.ensures, c.from_be_bytes-3.ensures) (body_of-by_reads c.args.bytes.now (omega arith))

pub returns-clause-bytes : goal.returns-clause-bytes
returns-clause-bytes c =
    rw (c.from_be_bytes.ensures, c.from_be_bytes-2.ensures, c.from_be_bytes-3.ensures)
    (body_bytes-by_reads c.args.bytes.now (omega arith) c.fits-bytes)
