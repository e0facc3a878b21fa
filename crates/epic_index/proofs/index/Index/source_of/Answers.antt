use Rattle.epic_index.proofs.SourceKeys.{index_source}
use Rattle.epic_index.proofs.index.Index.source_of.Goals as goal

pub returns : goal.returns
returns c =
    rw (← c.self.view_is)
    (index_source _ _ _ _ c.args.packet.now c.args.hop c.args.x.now _ _ _ c.self.invariant.index c.key_of.ensures c.first_source-number.ensures c.emission_sent.ensures)
