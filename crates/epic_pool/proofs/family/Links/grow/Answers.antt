-- Both vectors have one more index.
use Rattle.epic_pool.proofs.Growing.{grown}
use Rattle.epic_pool.proofs.family.Links.grow.Goals as goal

pub returns : goal.returns
returns c = rw (c.push_reserved.ensures.items, c.push_reserved-2.ensures.items, c.requires.node) (grown c.args.base c.args.self.now.next.items c.args.self.now.prev.items c.requires.rings)
