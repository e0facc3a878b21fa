use Rattle.epic_pcapng.specs.Steps.{reading_of}
use Rattle.epic_pcapng.proofs.Ends.{ends_plain}
use Rattle.epic_pcapng.proofs.cursor.Cursor.end.Goals as goal

pub returns-in-None : goal.returns-in-None
returns-in-None c = ends_plain (reading_of c.args.self.now) c.held.result.now c.unread.result c.in-None.is c.held.ensures.value c.requires.none c.unread.ensures
