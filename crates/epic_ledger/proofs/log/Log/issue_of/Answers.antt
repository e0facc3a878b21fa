use Rattle.std.proofs.Common.{◌≡◌, ◌+◌, suc, sym, ◌∙◌, ap, subst, add-one}
use Rattle.std.specs.Prelude.{Some, None, option_map}
use Rattle.epic_ledger.specs.Facts.{issues_in}
use Rattle.epic_ledger.specs.Parts.{Logged}
use Rattle.epic_ledger.specs.Queries.{issue_of}
use Rattle.epic_ledger.proofs.Logging.{issue_of-log}
use Rattle.epic_ledger.proofs.log.Log.issue_of.Goals as goal

pub returns-in-Some : goal.returns-in-Some
returns-in-Some c =
    let found = rw c.as_slice.ensures.value at c.in-Some.ensures.value in
    subst (λ (r : Logged). Some (c.in-Some.place + 1) ≡ issue_of (issues_in r.events) c.args.name.now) c.self.view_is
    (rw add-one
    (ap (option_map suc) found
    ∙ sym (issue_of-log c.self.inside.events.items c.self.inside.issues.items c.self.inside.names c.args.name.now c.self.invariant)))

pub returns-in-None : goal.returns-in-None
returns-in-None c =
    let missed = rw c.as_slice.ensures.value at c.in-None.ensures.value in
    subst (λ (r : Logged). None ≡ issue_of (issues_in r.events) c.args.name.now) c.self.view_is
    (ap (option_map suc) missed
    ∙ sym (issue_of-log c.self.inside.events.items c.self.inside.issues.items c.self.inside.names c.args.name.now c.self.invariant))
