use Rattle.std.proofs.Common.{ap, ◌∙◌}
use Rattle.epic_keys.specs.Keys.{key}
use Rattle.epic_fields.specs.PacketTags.{shared_key}
use Rattle.epic_router.proofs.ready.ReadyKeys.shared.Goals as goal

pub returns : goal.returns
unfolding shared_key
returns c = record {
  key_is = λ tagged. c.get.ensures c.args.topo.now (c.requires.kept.kept tagged) ∙ ap (key c.args.topo.now) (c.requires.kept.name_is tagged);
}
