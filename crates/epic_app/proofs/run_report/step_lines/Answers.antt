use Rattle.std.proofs.Common.{◌++◌, ap, ◌∙◌}
use Rattle.epic_ledger.specs.Facts.{issues_in}
use Rattle.epic_ledger.specs.History.{History}
use Rattle.epic_text.specs.Report.{answer_text, bytes_in, emission_bytes, issued_name}
use Rattle.epic_app.specs.Captures.{shown}
use Rattle.epic_app.specs.Noting.{notes_after}
use Rattle.epic_app.specs.RunReport.{answered_text}
use Rattle.epic_app.proofs.run_report.step_lines.Goals as goal

pub returns-clause-text : goal.returns-clause-text
unfolding answered_text
returns-clause-text c = λ offers policed.
    let history = c.ledger-ledger.ensures.history in
    let script = c.script.ensures in
    let number = c.shown-number.ensures ∙ (λ k. shown (script k) (c.steps.ensures k)) in
    let came = c.bytes_in-came.ensures
    ∙ ap (λ (h : History). bytes_in (emission_bytes h.emissions) c.args.command.now) history in
    let notes = c.deref.ensures.value ∙ c.in_ok-noted.ensures.notes offers policed
    ∙ ap (λ n. notes_after c.args.show.now c.args.world.now.network n offers c.args.command.now c.args.answer.now c.args.world.now.state) number in
    c.in_ok-print_answer.ensures.0
    ∙ (λ k. c.new-text.ensures.items k
    ++ answer_text (c.topology.ensures k) (issued_name (issues_in (history k).events))
    (emission_bytes (history k).emissions) (came k) (notes k) (number k) c.args.answer.now)
