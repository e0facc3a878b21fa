-- Each index names itself in both vectors.
use Rattle.std.proofs.Common.{◌≡◌, ℕ, subst, arith}
use Rattle.epic_pool.specs.Rings.{Alone}
use Rattle.epic_pool.proofs.Heads.{alone_at_start}
use Rattle.epic_pool.proofs.family.Links.alone.Goals as goal

pub returns : goal.returns
returns c =
    let is : c.loop-i.i ≡ c.args.count = omega (arith, c.loop-i.auto.i-end, c.loop-i-test.false) in
    subst (λ (k : ℕ). Alone k c.loop-i.next.items c.loop-i.prev.items) is
    (alone_at_start c.loop-i.i c.loop-i.next.items c.loop-i.prev.items c.loop-i.invariant.0 c.loop-i.invariant.1)
