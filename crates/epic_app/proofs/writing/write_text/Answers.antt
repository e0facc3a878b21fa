use Rattle.epic_app.proofs.WritingLaws.{writes_all}
use Rattle.epic_app.proofs.writing.write_text.Goals as goal

pub returns-clause-text : goal.returns-clause-text
returns-clause-text g c = writes_all _ _ _ _ _ _ c.write_all.ensures.ok c.write_all.ensures.err c.write_all.ensures.cause
