use Rattle.std.proofs.Common.{◌∙◌, sym, ap}
use Rattle.epic_window.specs.Counts.{total_of, discounted}
use Rattle.epic_window.proofs.Sweeping.{discounted-none, discounted-more}
use Rattle.epic_window.proofs.sweep.discount.Goals as goal

pub loop-key-preserved : goal.loop-key-preserved
loop-key-preserved c = record {
  left = λ a.
      let before = total_of c.loop-key.totals.entries a in
      discounted-more
      c.next.new.self
      (c.in-Some.key.now, c.in-Some.field-0-1.now)
      a
      c.args.first
      c.bucket.result
      before
      (total_of c.lower.new.totals.entries a)
      c.bucket.ensures.value
      (c.lower.ensures.totals a)
      ∙ ap (λ es. discounted es a c.args.first before) (sym c.in-Some.ensures.steps)
      ∙ c.loop-key.invariant.left a;
  spare = c.lower.ensures.spare ∙ c.loop-key.invariant.spare;
}

pub returns-clause-totals : goal.returns-clause-totals
returns-clause-totals c a =
    let total = total_of c.loop-key.totals.entries a in
    sym (discounted-none a c.args.first total)
    ∙ ap (λ es. discounted es a c.args.first total) (sym c.in-None.ensures.steps.0)
    ∙ c.loop-key.invariant.left a
