use Rattle.std.proofs.Common.{◌+◌, ℕ, List, ◌++◌, ap, subst, ◌∙◌, arith, rules}
use Rattle.epic_ports.specs.Written.{Appends}
use Rattle.epic_app.specs.HopReport.{answers, is_accept, is_forged, lines_text}
use Rattle.epic_app.proofs.HopReportLemmas.{rest_step, rest_end, stops_in_line, stops_in_end, end_after, count_step, end_same}
use Rattle.epic_app.proofs.WritingLaws.{piece_after, writes_err}
use Rattle.epic_app.proofs.hop_report.write_report.Goals as goal

pub returns-in_err-write_line-clause-text : goal.returns-in_err-write_line-clause-text
returns-in_err-write_line-clause-text g c =
    let (front, before, is) = c.loop-i.invariant.written in
    let step = rest_step c.args.key.now c.args.commands.now c.loop-i.i _ _ c.answer-answer.ensures (omega arith) in
    writes_err _ _ _ _ _ _ c.in_err-write_line.field-0.0 (search rules)
    (stops_in_line _ _ _ front _ _ _ _ _ _ _ _ before c.loop-i.invariant.faults c.in_err-write_line.ensures.text
    (is ∙ ap (λ (given : _). front ++ lines_text (c.loop-i.i + 1) given) step))

pub loop-i-preserved : goal.loop-i-preserved
loop-i-preserved g c =
    let (front, before, is) = c.loop-i.invariant.written in
    let step = rest_step c.args.key.now c.args.commands.now c.loop-i.i _ _ c.answer-answer.ensures (omega arith) in
    record {
      written = piece_after _ _ _ front _ _ _ before c.in_ok-write_line.ensures.text (is ∙ ap (λ (given : _). front ++ lines_text (c.loop-i.i + 1) given) step);
      accepts = count_step is_accept (answers c.args.key.now c.args.commands.now) _ _ _ _ _ _ c.loop-i.invariant.accepts step c.is_accept.ensures c.counted-accepted.ensures.value;
      forgeries = count_step is_forged (answers c.args.key.now c.args.commands.now) _ _ _ _ _ _ c.loop-i.invariant.forgeries step c.is_forged.ensures c.counted-forged.ensures.value;
      faults = omega arith;
      few_accepts = omega (arith, c.counted-accepted.ensures.few);
      few_forgeries = omega (arith, c.counted-forged.ensures.few);
    }

pub returns-in_err-write_last_line-clause-text : goal.returns-in_err-write_last_line-clause-text
returns-in_err-write_last_line-clause-text g c =
    let (front, before, is) = c.loop-i.invariant.written in
    let none = rest_end c.args.key.now c.args.commands.now c.loop-i.i (omega arith) in
    let same = end_same c.args.key.now c.args.commands.now _ _ _ c.loop-i.invariant.accepts c.loop-i.invariant.forgeries none in
    let in_end = rw same at c.in_err-write_last_line.ensures.text in
    writes_err _ _ _ _ _ _ c.in_err-write_last_line.field-0.0 (search rules)
    (stops_in_end _ _ _ front _ _ _ _ _ _ before c.loop-i.invariant.faults in_end (is ∙ ap (λ (given : _). front ++ lines_text (c.loop-i.i + 1) given) none))

pub returns-clause-text : goal.returns-clause-text
returns-clause-text g c =
    let (front, before, is) = c.loop-i.invariant.written in
    let none = rest_end c.args.key.now c.args.commands.now c.loop-i.i (omega arith) in
    let same = end_same c.args.key.now c.args.commands.now _ _ _ c.loop-i.invariant.accepts c.loop-i.invariant.forgeries none in
    let end = subst (λ (text : List ℕ). Appends (g.O.Sink.written c.loop-i.out) (g.O.Sink.written c.write_last_line.new.out) text) same c.in_ok-write_last_line.ensures.text in
    end_after _ _ _ front _ _ before end (is ∙ ap (λ (given : _). front ++ lines_text (c.loop-i.i + 1) given) none)
