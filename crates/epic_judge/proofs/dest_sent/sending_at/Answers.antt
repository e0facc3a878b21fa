use Rattle.std.proofs.Common.{sym, ◌∙◌}
use Rattle.epic_index.specs.Events.{sent_at}
use Rattle.epic_judge.proofs.SentAs.{later_is, later_none}
use Rattle.epic_judge.proofs.dest_sent.sending_at.Goals as goal

pub returns-in-Some : goal.returns-in-Some
unfolding sent_at
returns-in-Some c =
    later_is c.args.index.now.history c.args.packet.now c.args.number (c.in-Some.emission, c.in-Some.sent) c.shape-hops.result.hops
    c.shape-shape.ensures.packet c.shape-hops.ensures.packet c.shape-hops.ensures.hops c.requires (sym c.in-Some.is ∙ c.sent_at.ensures)

pub returns-in-None : goal.returns-in-None
unfolding sent_at
returns-in-None c = later_none _ _ c.requires (sym c.in-None.is ∙ c.sent_at.ensures)
