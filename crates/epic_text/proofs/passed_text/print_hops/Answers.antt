use Rattle.std.proofs.Common.{◌≡◌, ◌+◌, ◌++◌, get_or, ap, sym, ◌∙◌, rules}
use Rattle.epic_num.specs.declared.verdict.Verdict.TheVariants.{Proved}
use Rattle.epic_text.specs.Report.{hop_line}
use Rattle.epic_text.proofs.HopLemmas.{hop_step, hop_end}
use Rattle.epic_text.proofs.passed_text.print_hops.Goals as goal

pub loop-i-preserved : goal.loop-i-preserved
loop-i-preserved c =
    let t = c.args.topo.now in
    let p = c.args.packet.now in
    let vs = c.args.verdicts.now in
    let i = c.loop-i.i in
    let next : c.print_hop.new.to.items ≡ c.loop-i.to.items ++ hop_line t c.args.step p (p.current + i) (get_or vs i (Proved 0 0)) = search rules in
    hop_step t c.args.step p c.args.notes.now i vs (Proved 0 0) _ c.loop-i.to.items c.print_hop.new.to.items _ c.loop-i-test.true c.loop-i.invariant next
    (c.in_ok-append.ensures.0 ∙ ap (λ note. c.print_hop.new.to.items ++ note) c.behind.ensures)

pub returns : goal.returns
returns c =
    sym (hop_end c.args.topo.now c.args.step c.args.packet.now c.args.notes.now c.loop-i.i c.args.verdicts.now _ c.loop-i.to.items c.loop-i-test.false c.loop-i.invariant)
