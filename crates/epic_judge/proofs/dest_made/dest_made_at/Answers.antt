use Rattle.std.proofs.Common.{sym, ◌∙◌}
use Rattle.epic_ledger.specs.Facts.{facts_of}
use Rattle.epic_index.specs.Events.{sent_at, sent_name_at, send_at}
use Rattle.epic_judging.specs.Given.{makes_dest}
use Rattle.epic_judge.proofs.DestMade.{makes_by}
use Rattle.epic_judge.proofs.DestMade.{no_send}
use Rattle.epic_judge.proofs.dest_made.dest_made_at.Goals as goal

pub returns-in-Some : goal.returns-in-Some
unfolding sent_at sent_name_at
returns-in-Some c =
    let h = c.args.index.now.history in
    makes_by c.args.index.now.network (facts_of h).issues c.args.dst c.args.src c.args.epoch c.args.message.now (send_at h c.args.number) (c.in-Some.field-0-0, c.in-Some.sent) _ (sym c.in-Some.is ∙ c.sent_at.ensures) c.makes_dest.ensures

pub returns-in-None : goal.returns-in-None
unfolding sent_at
returns-in-None c =
    let h = c.args.index.now.history in
    no_send (makes_dest c.args.index.now.network (facts_of h).issues c.args.dst c.args.src c.args.epoch c.args.message.now) (send_at h c.args.number) (sym c.in-None.is ∙ c.sent_at.ensures)
