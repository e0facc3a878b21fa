use Rattle.std.proofs.Common.{sym, ◌∙◌}
use Rattle.epic_ledger.specs.Facts.{facts_of}
use Rattle.epic_judge.proofs.DestLines.{twin_left}
use Rattle.epic_judge.proofs.dest_tests.twin_collided.Goals as goal

pub one_sigma-requires : goal.one_sigma-requires
one_sigma-requires c =
    twin_left _ c.args.index.now.network (facts_of c.args.index.now.history) c.args.packet.now (record { hop = c.args.hop; name = c.args.name.now }) c.args.collision.now.left
    c.topology.ensures c.requires.facts (sym c.is_named_twin.ensures ∙ c.if-not-is_named_twin.false)
