use Rattle.std.proofs.Common.{sym, ap, ◌∙◌}
use Rattle.std.specs.Prelude.{option_and_then}
use Rattle.epic_index.specs.Events.{send_at}
use Rattle.epic_judge.proofs.dest_sent.sent_as.Goals as goal

pub sending_at-requires : goal.sending_at-requires
sending_at-requires c = ap (option_and_then (send_at c.args.index.now.history)) (sym c.in-Some.is) ∙ c.sent_as.ensures

pub returns-in-None : goal.returns-in-None
returns-in-None c = sym (ap (option_and_then (send_at c.args.index.now.history)) (sym c.in-None.is) ∙ c.sent_as.ensures)
