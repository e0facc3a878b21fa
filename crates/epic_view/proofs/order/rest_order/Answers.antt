use Rattle.std.proofs.Common.{Less, Equal, Greater, sym, ◌∙◌}
use Rattle.epic_view.proofs.Ordered.{rests_by}
use Rattle.epic_view.proofs.order.rest_order.Goals as goal

pub returns-in-Less : goal.returns-in-Less
returns-in-Less c =
    let v = c.requires.left_view in
    let w = c.requires.right_view in
    sym (rests_by _ _ _ _ Less v.sound w.sound v.segments_is w.segments_is c.requires.same c.in-Less.ensures)

pub returns-in-Equal : goal.returns-in-Equal
returns-in-Equal c =
    let v = c.requires.left_view in
    let w = c.requires.right_view in
    c.hops_order.ensures ∙ sym (rests_by _ _ _ _ Equal v.sound w.sound v.segments_is w.segments_is c.requires.same c.in-Equal.ensures)

pub returns-in-Greater : goal.returns-in-Greater
returns-in-Greater c =
    let v = c.requires.left_view in
    let w = c.requires.right_view in
    sym (rests_by _ _ _ _ Greater v.sound w.sound v.segments_is w.segments_is c.requires.same c.in-Greater.ensures)
