use Rattle.std.proofs.Common.{arith}
use Rattle.std.proofs.lemmas.Map.Text.{text_keys}
use Rattle.epic_ports.proofs.Counting.{same_counts}
use Rattle.epic_ports.proofs.counts.FaultCounts.make_room.Goals as goal

pub returns-clause-reads : goal.returns-clause-reads
returns-clause-reads c = same_counts _ _ (λ q. grind (arith, text_keys))

pub returns-clause-writes : goal.returns-clause-writes
returns-clause-writes c = same_counts _ _ (λ q. grind (arith, text_keys))
