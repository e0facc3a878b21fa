use Rattle.std.proofs.Common.{◌≡◌, ◌+◌, ◌<◌, length, take, ap, sym, subst, ◌∙◌, arith}
use Rattle.epic_num.specs.Levels.{width_of}
use Rattle.epic_layout.specs.Contents.{hop_count}
use Rattle.epic_layout.specs.Spelling.{update_count}
use Rattle.epic_layout.specs.Updates.{own_updates}
use Rattle.epic_ends.proofs.OwnUpdates.{AreFirst, one_more}
use Rattle.epic_ends.proofs.arriving.own_updates.Goals as goal

pub loop-hop-preserved : goal.loop-hop-preserved
loop-hop-preserved c =
    let p = c.args.packet.now in
    let counted = c.update_count-count.ensures.packet.counted in
    let there : c.loop-hop.hop < length p.fields = omega (arith, counted, c.loop-hop-test.true, c.update_count-count.ensures.few) in
    subst (AreFirst p (width_of p.first) (c.loop-hop.hop + 1)) (sym c.push.ensures.items)
    (one_more p (width_of p.first) c.loop-hop.hop c.loop-hop.updates.items c.field.result there c.field.ensures.bytes c.field.ensures.width c.loop-hop.invariant)

pub returns-clause-value : goal.returns-clause-value
unfolding own_updates
returns-clause-value c =
    let p = c.args.packet.now in
    let all : c.loop-hop.hop ≡ update_count p.first (hop_count p) = omega (arith, c.update_count-count.ensures.value, c.loop-hop.auto.hop-end, c.loop-hop-test.false) in
    c.loop-hop.invariant.fields ∙ ap (λ n. take n p.fields) all

pub returns-clause-count : goal.returns-clause-count
returns-clause-count c =
    omega (arith, c.loop-hop.invariant.count, c.update_count-count.ensures.value, c.loop-hop.auto.hop-end, c.loop-hop-test.false)
