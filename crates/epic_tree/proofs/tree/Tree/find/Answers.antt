use Rattle.std.proofs.Common.{◌∙◌}
use Rattle.epic_tree.specs.Sides.{by_tag}
use Rattle.epic_tree.specs.Arena.{shape, tags_of}
use Rattle.epic_tree.proofs.Cutting.{sought_found}
use Rattle.epic_tree.proofs.tree.Tree.find.Goals as goal

pub returns : goal.returns
returns g c =
    let a = c.self.inside.nodes.items in
    let side = by_tag (tags_of a) (g.S.Aim.tag c.args.aim.now) (g.S.Aim.side c.args.aim.now) in
    let cut = rw (← c.self.view_is) at c.requires.cut in
    rw (← c.self.view_is)
    (rw c.as_slice.ensures.value at c.find_under.ensures ∙ sought_found side (shape a c.self.inside.root) cut)
