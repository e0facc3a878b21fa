use Rattle.std.proofs.Common.{◌≡◌, ◌<◌, Less, Equal, Greater, min, sym, ◌∙◌, arith}
use Rattle.std.specs.Ordering.{nat_cmp}
use Rattle.epic_layout.specs.Layout.{hops_in}
use Rattle.epic_view.proofs.Ordered.{rows_by, rows_last}
use Rattle.epic_view.proofs.order.hops_order.Goals as goal

pub returns-in-Less : goal.returns-in-Less
returns-in-Less c =
    let v = c.requires.left_view in
    let w = c.requires.right_view in
    let left : c.loop-hop.hop < hops_in c.args.left.now = omega (arith, v.hops_is) in
    let right : c.loop-hop.hop < hops_in c.args.right.now = omega (arith, w.hops_is) in
    sym (c.loop-hop.invariant ∙ rows_by _ _ c.loop-hop.hop _ _ Less v.sound w.sound left right c.hop_at-at.ensures.offset c.hop_at-other.ensures.offset c.in-Less.ensures)

pub returns-in-Greater : goal.returns-in-Greater
returns-in-Greater c =
    let v = c.requires.left_view in
    let w = c.requires.right_view in
    let left : c.loop-hop.hop < hops_in c.args.left.now = omega (arith, v.hops_is) in
    let right : c.loop-hop.hop < hops_in c.args.right.now = omega (arith, w.hops_is) in
    sym (c.loop-hop.invariant ∙ rows_by _ _ c.loop-hop.hop _ _ Greater v.sound w.sound left right c.hop_at-at.ensures.offset c.hop_at-other.ensures.offset c.in-Greater.ensures)

pub loop-hop-preserved : goal.loop-hop-preserved
loop-hop-preserved c =
    let v = c.requires.left_view in
    let w = c.requires.right_view in
    let left : c.loop-hop.hop < hops_in c.args.left.now = omega (arith, v.hops_is) in
    let right : c.loop-hop.hop < hops_in c.args.right.now = omega (arith, w.hops_is) in
    c.loop-hop.invariant ∙ rows_by _ _ c.loop-hop.hop _ _ Equal v.sound w.sound left right c.hop_at-at.ensures.offset c.hop_at-other.ensures.offset c.in-Equal.ensures

pub returns : goal.returns
returns c =
    let v = c.requires.left_view in
    let w = c.requires.right_view in
    let last : c.loop-hop.hop ≡ min (hops_in c.args.left.now) (hops_in c.args.right.now) = omega (arith, v.hops_is, w.hops_is) in
    c.cmp.ensures ∙ (λ k. nat_cmp (v.hops_is k) (w.hops_is k)) ∙ rows_last _ _ c.loop-hop.hop v.sound w.sound last ∙ sym c.loop-hop.invariant
