use Rattle.std.proofs.Common.{◌≡◌, ◌++◌, List, ap, sym, subst, ◌∙◌}
use Rattle.epic_ledger.specs.History.{History}
use Rattle.epic_topo.specs.Network.{Network}
use Rattle.epic_text.specs.Report.{bytes_in, emission_bytes}
use Rattle.epic_app.specs.Noting.{Coming, coming, passes_after, passes_told}
use Rattle.epic_app.specs.Telling.{AreTold, passes_verdicts}
use Rattle.epic_app.proofs.judging.verdict_lines.Goals as goal

pub print_all-requires : goal.print_all-requires
unfolding passes_after
print_all-requires c =
    let s = c.args.world.now.state in
    let history = c.ledger-ledger.ensures.history in
    let came = c.bytes_in-came.ensures ∙ ap (λ (h : History). bytes_in (emission_bytes h.emissions) c.args.command.now) history in
    let same : coming (emission_bytes c.ledger-ledger.result.now.history.emissions) c.bytes_in-came.result.now c.passes_told.result.now
    ≡ coming (emission_bytes s.history.emissions) (bytes_in (emission_bytes s.history.emissions) c.args.command.now) (passes_told c.args.answer.now)
    = λ k. coming (emission_bytes (history k).emissions) (came k) (c.passes_told.ensures k) in
    record {
      told =
          subst (λ (t : Network). AreTold t (coming (emission_bytes c.ledger-ledger.result.now.history.emissions) c.bytes_in-came.result.now c.passes_told.result.now)) (sym c.topology.ensures)
          (subst (λ (xs : List Coming). AreTold c.args.world.now.network xs) (sym same) c.requires.told);
    }

pub returns : goal.returns
unfolding passes_after
returns c =
    let s = c.args.world.now.state in
    let history = c.ledger-ledger.ensures.history in
    let came = c.bytes_in-came.ensures ∙ ap (λ (h : History). bytes_in (emission_bytes h.emissions) c.args.command.now) history in
    c.in_ok-print_all.ensures
    ∙ (λ k. c.new-text.ensures.items k ++ passes_verdicts (c.topology.ensures k) (coming (emission_bytes (history k).emissions) (came k) (c.passes_told.ensures k)))
