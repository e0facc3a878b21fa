use Rattle.epic_app.proofs.end.write_file_fault.Goals as goal

pub returns-in-UnknownVerb-clause-err : goal.returns-in-UnknownVerb-clause-err
returns-in-UnknownVerb-clause-err g c = rw c.in-UnknownVerb.is c.write_named_fault-in-UnknownVerb.ensures.err
