use Rattle.std.proofs.Common.{◌≡◌, suc, ◌-◌, ◌++◌, map, append-nil, Option, refl, sym, subst, ap, ◌∙◌, arith}
use Rattle.std.specs.Prelude.{IfSome}
use Rattle.epic_ledger.specs.History.{Emission}
use Rattle.epic_model.specs.Passing.{carried, last_history, passed_on}
use Rattle.epic_model.specs.Steps.{passages_of}
use Rattle.epic_model.specs.Traces.{shown}
use Rattle.epic_actors.specs.Telling.{as_passed}
use Rattle.epic_world.proofs.Carried.{none_told, none_after, told_more, told_end, after_more, after_end}
use Rattle.epic_world.proofs.carrying.+carry_on.Goals as goal

pub returns-then-most-eq0-clause-told : goal.returns-then-most-eq0-clause-told
returns-then-most-eq0-clause-told z c =
    sym (ap (λ ys. c.args.told.now.items ++ ys) (none_told c.args.topo.now c.args.step c.args.now c.args.most c.args.ledger.now.history c.args.number c.if-most-eq0.true) ∙ append-nil c.args.told.now.items)

pub returns-then-most-eq0-clause-history : goal.returns-then-most-eq0-clause-history
returns-then-most-eq0-clause-history z c = sym (none_after c.args.topo.now c.args.step c.args.now c.args.most c.args.ledger.now.history c.args.number c.if-most-eq0.true)

pub returns-then-next-ne0-clause-told : goal.returns-then-next-ne0-clause-told
returns-then-next-ne0-clause-told z c =
    let t = c.args.topo.now in
    let h = c.args.ledger.now.history in
    let m = c.args.most - 1 in
    let is : suc m ≡ c.args.most = omega (arith, c.if-most-eq0.false) in
    let r = c.requires.ready in
    let x = c.pass_on-passed.result in
    let told = subst (λ (o : Option Emission). IfSome o (λ e. x ≡ as_passed e.place (passed_on t c.args.step c.args.now h c.args.number))) r.there c.pass_on-passed.ensures.passed in
    subst (λ k. c.carry_on.new.told.items ≡ c.args.told.now.items ++ map shown (passages_of h c.args.number (carried t c.args.step c.args.now k h c.args.number))) is
    (told_more t c.args.step c.args.now m h c.pass_on-passed.new.ledger.history c.args.number x.emission r.emission x c.args.told.now.items c.push_reserved.new.self.items c.carry_on.new.told.items
    r.there told c.pass_on-passed.ensures.history refl c.if-next-ne0.true c.push_reserved.ensures.items c.carry_on.ensures.told)

pub returns-then-next-ne0-clause-history : goal.returns-then-next-ne0-clause-history
returns-then-next-ne0-clause-history z c =
    let t = c.args.topo.now in
    let h = c.args.ledger.now.history in
    let m = c.args.most - 1 in
    let is : suc m ≡ c.args.most = omega (arith, c.if-most-eq0.false) in
    let r = c.requires.ready in
    let x = c.pass_on-passed.result in
    let told = subst (λ (o : Option Emission). IfSome o (λ e. x ≡ as_passed e.place (passed_on t c.args.step c.args.now h c.args.number))) r.there c.pass_on-passed.ensures.passed in
    subst (λ k. c.carry_on.new.ledger.history ≡ last_history h (carried t c.args.step c.args.now k h c.args.number)) is
    (after_more t c.args.step c.args.now m h c.pass_on-passed.new.ledger.history c.carry_on.new.ledger.history c.args.number x.emission r.emission x
    r.there told c.pass_on-passed.ensures.history refl c.if-next-ne0.true c.carry_on.ensures.history)

pub returns-else-next-ne0-clause-told : goal.returns-else-next-ne0-clause-told
returns-else-next-ne0-clause-told z c =
    let t = c.args.topo.now in
    let h = c.args.ledger.now.history in
    let m = c.args.most - 1 in
    let is : suc m ≡ c.args.most = omega (arith, c.if-most-eq0.false) in
    let r = c.requires.ready in
    let x = c.pass_on-passed.result in
    let told = subst (λ (o : Option Emission). IfSome o (λ e. x ≡ as_passed e.place (passed_on t c.args.step c.args.now h c.args.number))) r.there c.pass_on-passed.ensures.passed in
    subst (λ k. c.push_reserved.new.self.items ≡ c.args.told.now.items ++ map shown (passages_of h c.args.number (carried t c.args.step c.args.now k h c.args.number))) is
    (told_end t c.args.step c.args.now m h c.args.number r.emission x c.args.told.now.items c.push_reserved.new.self.items
    r.there told c.if-next-ne0.false c.push_reserved.ensures.items)

pub returns-else-next-ne0-clause-history : goal.returns-else-next-ne0-clause-history
returns-else-next-ne0-clause-history z c =
    let t = c.args.topo.now in
    let h = c.args.ledger.now.history in
    let m = c.args.most - 1 in
    let is : suc m ≡ c.args.most = omega (arith, c.if-most-eq0.false) in
    let r = c.requires.ready in
    let x = c.pass_on-passed.result in
    let told = subst (λ (o : Option Emission). IfSome o (λ e. x ≡ as_passed e.place (passed_on t c.args.step c.args.now h c.args.number))) r.there c.pass_on-passed.ensures.passed in
    subst (λ k. c.pass_on-passed.new.ledger.history ≡ last_history h (carried t c.args.step c.args.now k h c.args.number)) is
    (after_end t c.args.step c.args.now m h c.pass_on-passed.new.ledger.history c.args.number r.emission x
    r.there told c.pass_on-passed.ensures.history c.if-next-ne0.false)
