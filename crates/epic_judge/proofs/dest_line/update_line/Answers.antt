use Rattle.epic_ledger.specs.Facts.{facts_of}
use Rattle.std.proofs.Common.{Bool, ◌&&◌, ◌≡◌, ℕ, sym, subst}
use Rattle.epic_judging.specs.DestTests.{update_forged}
use Rattle.epic_judging.specs.Judging.{generation_of}
use Rattle.epic_judging.specs.Same.{same_told}
use Rattle.epic_judging.specs.Telling.{forged_told}
use Rattle.epic_record.specs.declared.told.Told.TheVariants as lines
use Rattle.epic_record.specs.declared.told.ToldForgery.TheVariants as what
use Rattle.epic_judge.specs.Sendings.{IsSentOver}
use Rattle.epic_judge.proofs.HopLines.{other_false}
use Rattle.epic_judge.proofs.DestLines.{no_update_sent, over_generation, update_of_key}
use Rattle.epic_judge.proofs.dest_line.update_line.Goals as goal

pub named_update_line-requires-clause-sent : goal.named_update_line-requires-clause-sent
named_update_line-requires-clause-sent c = rw c.in-Some.is at c.sent_over.ensures

pub returns-in-Some : goal.returns-in-Some
returns-in-Some c =
    let t = c.args.index.now.network in
    let f = facts_of c.args.index.now.history in
    let p = c.args.packet.now in
    let over : IsSentOver t f p c.args.hop c.in-Some.name = rw c.in-Some.is at c.sent_over.ensures in
    subst (λ g. c.named_update_line.result ≡ (same_told (forged_told t p (update_of_key c.args.hop c.args.key.now g)) (lines.Forged (what.Update c.args.hop) c.args.key.now c.args.message.now c.args.tag.now) && update_forged t f p (update_of_key c.args.hop c.args.key.now g)))
    (sym (over_generation f p c.args.hop c.in-Some.name over.name_is)) c.named_update_line.ensures

pub returns-in-None : goal.returns-in-None
returns-in-None c =
    let f = facts_of c.args.index.now.history in
    other_false _ _
    (no_update_sent c.args.index.now.network f c.args.packet.now (update_of_key c.args.hop c.args.key.now (generation_of f c.args.packet.now c.args.hop)) (rw c.in-None.is at c.sent_over.ensures))
