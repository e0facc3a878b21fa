use Rattle.std.proofs.Common.{sym, ap, ◌∙◌}
use Rattle.std.specs.Prelude.{option_and_then}
use Rattle.epic_ledger.specs.Facts.{facts_of}
use Rattle.epic_index.specs.Events.{send_at}
use Rattle.epic_judge.proofs.SentAs.{over_no_one}
use Rattle.epic_judge.proofs.dest_sent.sent_over.Goals as goal

pub over_at-requires-clause-sent : goal.over_at-requires-clause-sent
over_at-requires-clause-sent c = ap (option_and_then (send_at c.args.index.now.history)) (sym c.in-Some.is) ∙ c.only_send.ensures

pub returns-in-None : goal.returns-in-None
returns-in-None c =
    over_no_one (facts_of c.args.index.now.history) c.args.packet.now c.args.hop (ap (option_and_then (send_at c.args.index.now.history)) (sym c.in-None.is) ∙ c.only_send.ensures)
