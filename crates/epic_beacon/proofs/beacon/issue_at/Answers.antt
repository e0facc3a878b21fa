use Rattle.std.proofs.Common.{sym, ◌∙◌, ap}
use Rattle.std.specs.Prelude.{Option, option_map}
use Rattle.epic_num.specs.Chains.{Issue}
use Rattle.epic_beacon.specs.Store.{issue_of}
use Rattle.epic_beacon.proofs.Walked.{issue_at-issues_of}
use Rattle.epic_beacon.proofs.beacon.issue_at.Goals as goal

pub returns-in-Some : goal.returns-in-Some
returns-in-Some c =
    sym (ap (λ (o : Option Issue). option_map (λ i. (i.name, i.parent)) o)
    (issue_at-issues_of c.args.beacons.now c.args.number ∙ ap (option_map issue_of) (sym c.in-Some.ensures)))

pub returns-in-None : goal.returns-in-None
returns-in-None c =
    sym (ap (λ (o : Option Issue). option_map (λ i. (i.name, i.parent)) o)
    (issue_at-issues_of c.args.beacons.now c.args.number ∙ ap (option_map issue_of) (sym c.in-None.ensures)))
