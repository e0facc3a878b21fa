use Rattle.std.proofs.Common.{arith}
use Rattle.std.proofs.lemmas.Grind.{common_steps}
use Rattle.std.proofs.lemmas.List.{take_rest}
use Rattle.epic_ports.proofs.MemPieces.{copied}
use Rattle.epic_ports.proofs.mem_file.copy_from.Goals as goal

pub returns-clause-piece : goal.returns-clause-piece
returns-clause-piece c = copied c.args.bytes.now c.args.at c.min-n.result c.copy_from_slice.new.self c.args.buf.now (rw take_rest at c.min-n.ensures) (grind (arith, common_steps)) (grind (arith, common_steps))
