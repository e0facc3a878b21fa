use Rattle.std.proofs.Common.{refl}
use Rattle.epic_app.specs.Keeping.{kept_in}
use Rattle.epic_app.proofs.RanLaws.{ran_one, stops_one, works_of}
use Rattle.epic_app.proofs.taking.Records.step.Goals as goal

pub returns-in-Ok-clause-ok : goal.returns-in-Ok-clause-ok
returns-in-Ok-clause-ok g c =
    ran_one c.args.self.now _ c.args.command.now _ _ c.write_step.ensures.network refl refl c.in-Ok.ensures.state c.in-Ok.ensures.counts
    c.in-Ok.ensures.total c.in-Ok.ensures.alarm c.in-Ok.ensures.police c.in-Ok.ensures.performs (works_of (kept_in c.args.self.now.keep) _ _ c.write_step.ensures.stays) c.fits.ensures
    c.names_fit.ensures

pub returns-in-Err-clause-err : goal.returns-in-Err-clause-err
returns-in-Err-clause-err g c =
    stops_one c.args.self.now c.args.command.now _ _ _ c.in-Err.ensures.performs (works_of (kept_in c.args.self.now.keep) _ _ c.write_step.ensures.stays)
