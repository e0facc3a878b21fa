use Rattle.std.proofs.Common.{◌≡◌, ◌∙◌, ap, append-nil, subst, arith}
use Rattle.epic_cmac.specs.Cmac.{cmac}
use Rattle.epic_num.specs.BigEndian.{u64_bytes}
use Rattle.epic_policer.specs.Offers.{Offers}
use Rattle.epic_bench.specs.Policing.{policed, policed_digest}
use Rattle.epic_bench.specs.declared.work.TheConstants.{KEY}
use Rattle.epic_bench.proofs.Charging.{policed_more, policed_none}
use Rattle.epic_bench.proofs.policing.police_rounds.Goals as goal

pub loop-i-init : goal.loop-i-init
loop-i-init c =
    policed_none c.in_ok-policer.policer c.in_ok-policer.ensures.sources c.in_ok-policer.ensures.budget c.in_ok-policer.ensures.span
    c.in_ok-policer.ensures.passed c.in_ok-policer.ensures.latest

pub loop-i-preserved : goal.loop-i-preserved
loop-i-preserved c =
    policed_more c.loop-i.i c.loop-i.passed c.passed_by-passed.result c.loop-i.policer c.reserve.new.self c.offer-given.new.self
    c.offer-given.result c.loop-i.invariant c.reserve.ensures.passed c.reserve.ensures.latest c.reserve.ensures.policy
    (subst (λ p. Offers c.reserve.new.self c.offer-given.new.self p c.offer-given.result) c.packet-packet.ensures c.offer-given.ensures)
    c.passed_by-passed.ensures.value c.passed_by-passed.ensures.bound

pub returns-clause-ok : goal.returns-clause-ok
unfolding policed_digest
returns-clause-ok c =
    let all : c.loop-i.i ≡ c.args.rounds = omega (arith, c.loop-i.auto.i-end, c.loop-i-test.false) in
    c.digest.ensures
    ∙ ap (cmac KEY) (append-nil (u64_bytes c.loop-i.passed) ∙ ap u64_bytes (c.loop-i.invariant.count_is ∙ ap (λ n. (policed n).count) all))
