use Rattle.std.proofs.Common.{◌≡◌, get_or, rules}
use Rattle.epic_text.specs.Report.{emission_bytes}
use Rattle.epic_text.proofs.CarryLemmas.{carry_end, carry_step, carry_told}
use Rattle.epic_text.proofs.carried_text.print_carried.Goals as goal

pub loop-k-preserved : goal.loop-k-preserved
loop-k-preserved c =
    let t = c.args.topo.now in
    let emissions = emission_bytes c.args.ledger.now.history.emissions in
    let i = c.loop-k.k in
    let pass = c.index-passes-k.result in
    let is : pass ≡ get_or c.args.passes.now i pass = search rules in
    let emitted = c.emission_bytes-emitted.result.now in
    record {
      told = carry_told t emissions c.loop-k.next.now emitted i c.args.passes.now pass
          c.loop-k-test.true is c.emission_bytes-emitted.ensures c.loop-k.invariant.told;
      all = carry_step t emissions c.args.step c.loop-k.next.now emitted c.args.notes.now i c.args.passes.now pass
          _ c.loop-k.lines.items c.print_noted.new.to.items
          c.loop-k-test.true is c.emission_bytes-emitted.ensures c.loop-k.invariant.all
          (c.in_ok-print_noted.ensures.0);
    }

pub returns : goal.returns
returns c =
    let emissions = emission_bytes c.args.ledger.now.history.emissions in
    let all = carry_end c.args.topo.now emissions c.args.step c.loop-k.next.now c.args.notes.now c.loop-k.k
    c.args.passes.now _ c.loop-k.lines.items c.loop-k-test.false c.loop-k.invariant.all in
    rw all (rw c.deref.ensures.value at c.append.ensures)
