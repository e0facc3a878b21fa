use Rattle.std.proofs.Common.{sym, ◌∙◌}
use Rattle.epic_policer.proofs.Nodes.{queue_left, starts_empty, starts_live, taken_first}
use Rattle.epic_policer.proofs.queue.take_dead.Goals as goal

pub returns-in-None-clause-first : goal.returns-in-None-clause-first
returns-in-None-clause-first c = starts_empty c.args.pool.now c.args.span_us c.args.now (sym c.first_b.ensures.value ∙ c.in-None.is)

pub returns-then-is_live-clause-first : goal.returns-then-is_live-clause-first
returns-then-is_live-clause-first c =
    starts_live c.args.pool.now c.args.pool.now c.in-Some.node c.get.result.now c.requires (sym c.first_b.ensures.value ∙ c.in-Some.is) c.get.ensures
    c.args.span_us c.args.now (sym c.is_live.ensures ∙ c.if-is_live.true)

pub returns-else-is_live-clause-taken : goal.returns-else-is_live-clause-taken
returns-else-is_live-clause-taken c =
    taken_first c.args.pool.now c.remove.new.self c.in-Some.node c.remove.result c.requires (sym c.first_b.ensures.value ∙ c.in-Some.is) c.remove.ensures.value
    c.remove.ensures.b c.remove.ensures.values

pub returns-else-is_live-clause-queue : goal.returns-else-is_live-clause-queue
returns-else-is_live-clause-queue c =
    queue_left c.args.pool.now c.remove.new.self c.in-Some.node c.remove.result c.requires (sym c.first_b.ensures.value ∙ c.in-Some.is) c.remove.ensures.value
    c.remove.ensures.b c.remove.ensures.values
