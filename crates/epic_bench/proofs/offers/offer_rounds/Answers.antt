use Rattle.std.proofs.Common.{◌≡◌, ◌∙◌, ap, append-nil, subst, arith}
use Rattle.epic_cmac.specs.Cmac.{cmac}
use Rattle.epic_num.specs.BigEndian.{u64_bytes}
use Rattle.epic_window.specs.Offers.{Offers}
use Rattle.epic_bench.specs.Offers.{heard, key_of, offers_digest}
use Rattle.epic_bench.specs.declared.work.TheConstants.{KEY}
use Rattle.epic_bench.proofs.Offering.{fresh_at, heard_more, heard_none}
use Rattle.epic_bench.proofs.offers.offer_rounds.Goals as goal

pub loop-i-init : goal.loop-i-init
loop-i-init c = heard_none c.args.load c.new-window.result c.new-window.ensures.profile c.new-window.ensures.entries c.new-window.ensures.latest

pub offer-given-requires-clause-fresh : goal.offer-given-requires-clause-fresh
offer-given-requires-clause-fresh c =
    fresh_at c.args.load c.loop-i.i c.reserve.new.self.profile c.key.result c.moment.result
    (c.reserve.ensures.profile ∙ c.loop-i.invariant.profile) c.key.ensures c.moment.ensures

pub loop-i-preserved : goal.loop-i-preserved
loop-i-preserved c =
    let offered = subst (λ key. Offers c.reserve.new.self c.offer-given.new.self key c.moment.result c.loop-i.i c.offer-given.result) c.key.ensures c.offer-given.ensures in
    let at = subst (λ now. Offers c.reserve.new.self c.offer-given.new.self (key_of c.args.load c.loop-i.i) now c.loop-i.i c.offer-given.result) c.moment.ensures offered in
    heard_more c.args.load c.loop-i.i c.loop-i.fresh c.fresh_by-fresh.result c.loop-i.window c.reserve.new.self c.offer-given.new.self c.offer-given.result
    c.loop-i.invariant c.reserve.ensures.entries c.reserve.ensures.latest c.reserve.ensures.profile at c.fresh_by-fresh.ensures.value c.fresh_by-fresh.ensures.bound

pub returns-clause-ok : goal.returns-clause-ok
unfolding offers_digest
returns-clause-ok c =
    let all : c.loop-i.i ≡ c.args.rounds = omega (arith, c.loop-i.auto.i-end, c.loop-i-test.false) in
    c.digest.ensures
    ∙ ap (cmac KEY) (append-nil (u64_bytes c.loop-i.fresh) ∙ ap u64_bytes (c.loop-i.invariant.fresh_is ∙ ap (λ n. (heard c.args.load n).fresh) all))
