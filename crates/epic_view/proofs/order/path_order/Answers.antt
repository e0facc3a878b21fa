use Rattle.std.proofs.Common.{Less, Equal, Greater, sym, ◌∙◌}
use Rattle.epic_layout.proofs.Cuts.{IsBytes-from}
use Rattle.epic_view.proofs.Ordered.{paths_by, same_numbers}
use Rattle.epic_view.proofs.order.path_order.Goals as goal

pub rest_order-requires-clause-same : goal.rest_order-requires-clause-same
rest_order-requires-clause-same c = same_numbers _ _ c.in-Equal.ensures

pub returns-in-Less : goal.returns-in-Less
returns-in-Less c =
    let v = c.requires.left_view in
    let w = c.requires.right_view in
    sym (paths_by _ _ _ _ Less (IsBytes-from _ c.type_inv.left) (IsBytes-from _ c.type_inv.right) v.sound w.sound v.segments_is w.segments_is c.in-Less.ensures)

pub returns-in-Equal : goal.returns-in-Equal
returns-in-Equal c =
    let v = c.requires.left_view in
    let w = c.requires.right_view in
    c.rest_order.ensures
    ∙ sym (paths_by _ _ _ _ Equal (IsBytes-from _ c.type_inv.left) (IsBytes-from _ c.type_inv.right) v.sound w.sound v.segments_is w.segments_is c.in-Equal.ensures)

pub returns-in-Greater : goal.returns-in-Greater
returns-in-Greater c =
    let v = c.requires.left_view in
    let w = c.requires.right_view in
    sym (paths_by _ _ _ _ Greater (IsBytes-from _ c.type_inv.left) (IsBytes-from _ c.type_inv.right) v.sound w.sound v.segments_is w.segments_is c.in-Greater.ensures)
