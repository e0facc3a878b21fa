use Rattle.epic_record.proofs.word.read_host.Goals as goal

pub returns : goal.returns
returns c = c.as_in_script.ensures _ c.read_host.ensures
