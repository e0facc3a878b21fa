use Rattle.std.proofs.Common.{◌≡◌, suc, ◌+◌, ◌-◌, sym, ◌∙◌, ap, arith}
use Rattle.epic_num.specs.Chains.{last_names}
use Rattle.epic_beacon.specs.Issuing.{stands_in}
use Rattle.epic_beacon.specs.Store.{issues_of}
use Rattle.epic_beacon.proofs.Walked.{walked_off, walked_into, walked_on, walked_out}
use Rattle.epic_beacon.proofs.beacon.stands_in.Goals as goal

pub returns-in-None : goal.returns-in-None
returns-in-None c =
    let beacons = c.args.beacons.now in
    let left = c.args.most - (c.loop-i.i + 1) in
    let more : c.args.most - c.loop-i.i ≡ suc left = omega arith in
    sym (c.loop-i.invariant
    ∙ (ap (λ k. stands_in c.args.a (last_names (issues_of beacons) k c.loop-i.place)) more
    ∙ walked_off beacons c.args.a left c.loop-i.place (sym c.in-None.ensures)))

pub returns-then-same_as : goal.returns-then-same_as
returns-then-same_as c =
    let beacons = c.args.beacons.now in
    let left = c.args.most - (c.loop-i.i + 1) in
    let more : c.args.most - c.loop-i.i ≡ suc left = omega arith in
    sym (c.loop-i.invariant
    ∙ (ap (λ k. stands_in c.args.a (last_names (issues_of beacons) k c.loop-i.place)) more
    ∙ walked_into beacons c.args.a left c.loop-i.place c.in-Some.beacon (sym c.in-Some.ensures) (sym c.if-same_as.ensures)))

pub loop-i-preserved : goal.loop-i-preserved
loop-i-preserved c =
    let beacons = c.args.beacons.now in
    let left = c.args.most - (c.loop-i.i + 1) in
    let more : c.args.most - c.loop-i.i ≡ suc left = omega arith in
    c.loop-i.invariant
    ∙ (ap (λ k. stands_in c.args.a (last_names (issues_of beacons) k c.loop-i.place)) more
    ∙ walked_on beacons c.args.a left c.loop-i.place c.in-Some.beacon (sym c.in-Some.ensures) (sym c.if-same_as.ensures))

pub returns : goal.returns
returns c =
    let beacons = c.args.beacons.now in
    let none : c.args.most - c.loop-i.i ≡ 0 = omega arith in
    sym (c.loop-i.invariant
    ∙ (ap (λ k. stands_in c.args.a (last_names (issues_of beacons) k c.loop-i.place)) none
    ∙ walked_out beacons c.args.a c.loop-i.place))
