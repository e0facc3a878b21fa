use Rattle.epic_ports.proofs.Appended.{Appends-none}
use Rattle.epic_app.proofs.CommandEnds.{hop_answered, hop_refused}
use Rattle.epic_app.proofs.hop.hop.Goals as goal

pub returns-in-Err : goal.returns-in-Err
returns-in-Err g c =
    hop_refused _ _ _ _ c.commands_in.ensures.contents c.commands_in.ensures.reads c.commands_in.ensures.writes c.in-Err.end c.in-Err.ensures.leads (Appends-none _)

pub returns : goal.returns
returns g c =
    rw c.ended.ensures
    (hop_answered _ _ _ _ c.commands_in.ensures.contents c.commands_in.ensures.reads c.commands_in.ensures.writes c.in-Ok.commands c.write_report.result c.in-Ok.ensures.leads
    (rw c.deref.ensures.value at c.write_report.ensures.text) (rw c.deref.ensures.value at c.write_report.ensures.forged))
