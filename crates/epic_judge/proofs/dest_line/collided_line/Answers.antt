use Rattle.std.proofs.Common.{sym, ◌∙◌}
use Rattle.epic_ledger.specs.Facts.{facts_of}
use Rattle.epic_judge.proofs.HopLines.{other_false, other_true, collided_told}
use Rattle.epic_judge.proofs.DestLines.{collided_known}
use Rattle.epic_judge.proofs.dest_line.collided_line.Goals as goal

pub returns-then-not-arrival_collided : goal.returns-then-not-arrival_collided
returns-then-not-arrival_collided c = other_false _ _ (sym c.arrival_collided.ensures ∙ c.if-not-arrival_collided.true)

pub is_common_tag-requires : goal.is_common_tag-requires
is_common_tag-requires c =
    collided_known _ c.args.index.now.network (facts_of c.args.index.now.history) c.args.packet.now c.args.collision.now c.topology.ensures c.requires (sym c.arrival_collided.ensures ∙ c.if-not-arrival_collided.false)

pub returns : goal.returns
returns c =
    other_true _ _ c.is_common_tag.result
    (collided_told c.topology.result.now c.args.index.now.network c.args.packet.now c.args.collision.now c.args.tag.now _ c.topology.ensures c.is_common_tag.ensures)
    (sym c.arrival_collided.ensures ∙ c.if-not-arrival_collided.false)
