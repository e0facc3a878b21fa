use Rattle.epic_ends.proofs.FirstRows.{expired_told, valid_more, all_valid}
use Rattle.epic_ends.proofs.admitting.expiry_refusal.Goals as goal

pub returns-then-is_expired : goal.returns-then-is_expired
returns-then-is_expired c =
    expired_told c.args.hops.now c.args.now c.loop-j.j _ c.is_expired.result c.loop-j-test.true c.loop-j.invariant c.is_expired.ensures c.if-is_expired.true

pub loop-j-preserved : goal.loop-j-preserved
loop-j-preserved c =
    valid_more c.args.hops.now c.args.now c.loop-j.j _ c.is_expired.result c.loop-j-test.true c.loop-j.invariant c.is_expired.ensures c.if-is_expired.false

pub returns : goal.returns
returns c = all_valid c.args.hops.now c.args.now c.loop-j.j c.loop-j-test.false c.loop-j.auto.j-end c.loop-j.invariant
