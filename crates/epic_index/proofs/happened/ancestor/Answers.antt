use Rattle.std.proofs.Common.{◌≡◌, suc, ◌+◌, ◌-◌, sym, ◌∙◌, ap, arith}
use Rattle.epic_num.specs.Chains.{ancestor}
use Rattle.epic_ledger.specs.Facts.{facts_of}
use Rattle.epic_ledger.proofs.Logging.{ancestor-suc, ancestor-zero}
use Rattle.epic_index.proofs.happened.ancestor.Goals as goal

pub loop-i-preserved : goal.loop-i-preserved
loop-i-preserved c =
    let issues = (facts_of c.args.ledger.now.history).issues in
    let left = c.args.back - (c.loop-i.i + 1) in
    let more : c.args.back - c.loop-i.i ≡ suc left = omega arith in
    c.loop-i.invariant
    ∙ (ap (ancestor issues c.loop-i.at) more
    ∙ (ancestor-suc issues c.loop-i.at left ∙ ap (λ n. ancestor issues n left) (sym c.parent_of-at.ensures)))

pub returns : goal.returns
returns c =
    let issues = (facts_of c.args.ledger.now.history).issues in
    let none : c.args.back - c.loop-i.i ≡ 0 = omega arith in
    sym (c.loop-i.invariant ∙ (ap (ancestor issues c.loop-i.at) none ∙ ancestor-zero issues c.loop-i.at))
