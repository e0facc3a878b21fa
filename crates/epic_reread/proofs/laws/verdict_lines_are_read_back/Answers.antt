use Rattle.epic_reread.proofs.Printed.{dest_lines_read, hop_lines_read}
use Rattle.epic_reread.proofs.laws.verdict_lines_are_read_back.Goals as goal

pub returns-clause-hops : goal.returns-clause-hops
returns-clause-hops c = hop_lines_read

pub returns-clause-dests : goal.returns-clause-dests
returns-clause-dests c = dest_lines_read
