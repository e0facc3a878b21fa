use Rattle.std.proofs.Common.{length}
use Rattle.epic_pcapng.specs.Steps.{reading_of}
use Rattle.epic_pcapng.proofs.Answers.{Advances}
use Rattle.epic_pcapng.proofs.cursor.Cursor.advance.Given as goal

abbrev pub invariant-loop-found : goal.invariant-loop-found
invariant-loop-found l = Advances (reading_of l.fn.self) (reading_of l.self)

abbrev pub decreases-loop-found : goal.decreases-loop-found
decreases-loop-found l = length l.self.buffer.held
