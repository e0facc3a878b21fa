use Rattle.std.proofs.Common.{◌≤◌, ◌+◌, length, sym, subst, arith}
use Rattle.epic_ledger.specs.Parts.{Logged}
use Rattle.epic_ledger.specs.declared.limits.TheConstants.{MAX_EVENTS}
use Rattle.epic_ledger.proofs.Logging.{log_push}
use Rattle.epic_ledger.proofs.log.Log.push.Goals as goal

pub invariant_of-self : goal.invariant_of-self
invariant_of-self c =
    let events = c.self.inside.events in
    let issues = c.self.inside.issues in
    let spare = subst (λ (r : Logged). 1 ≤ r.spare) (sym c.self.view_is) c.requires in
    let few : length events.items + 1 ≤ MAX_EVENTS = omega (arith, spare) in
    let few_more : length c.add_issue.new.issues.items ≤ length issues.items + 1 =
    omega (arith, c.add_issue.ensures.len, issues.ok.0, c.add_issue.new.issues.ok.0)
    in rw c.push_reserved.ensures.items
    (log_push events.items c.args.event issues.items c.add_issue.new.issues.items c.self.inside.names c.add_issue.new.names
    c.self.invariant c.add_issue.ensures.named c.add_issue.ensures.issues few_more few)
