use Rattle.std.proofs.Common.{sym, subst}
use Rattle.epic_ledger.specs.History.{step_of}
use Rattle.epic_ledger.specs.Facts.{issues_in}
use Rattle.epic_ledger.specs.Lawful.{Fits, IsLast}
use Rattle.epic_ledger.specs.Recorded.{Recorded}
use Rattle.epic_ledger.proofs.Growing.{lawful_push}
use Rattle.epic_ledger.proofs.ledger.Ledger.push.Goals as goal

pub invariant_of-self : goal.invariant_of-self
invariant_of-self c =
    rw c.push.ensures.events
    (record {
      lawful =
          lawful_push c.self.inside.log.events c.self.inside.emissions.emissions c.args.event c.self.invariant.lawful
          (subst (λ (r : Recorded). Fits r.history.emissions (issues_in r.history.events) c.args.event) (sym c.self.view_is) c.requires.fits)
          (subst (λ (r : Recorded). IsLast r.history.events (step_of c.args.event)) (sym c.self.view_is) c.requires.last);
      sends = rw c.events.ensures.value at c.add_send.ensures.index;
      passes = rw c.events-2.ensures.value at c.add_pass.ensures.index;
      on_paths = rw c.events-3.ensures.value at c.add_path.ensures.index;
      reveals = rw c.events-4.ensures.value at c.add_reveal.ensures.index;
    })
