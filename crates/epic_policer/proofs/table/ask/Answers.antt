use Rattle.std.proofs.Common.{subst, rules}
use Rattle.epic_policer.specs.Offers.{Policy}
use Rattle.epic_policer.proofs.Tables.{Puts, asked_at, made_at, own_like}
use Rattle.epic_policer.proofs.table.ask.Goals as goal

pub offer_to-requires : goal.offer_to-requires
offer_to-requires c = own_like _ _ _ c.args.at _ c.in-Some.ensures.value c.requires.alike

pub returns-in-Some : goal.returns-in-Some
returns-in-Some c =
    asked_at _ c.args.table.now.entries _ c.args.at c.args.packet c.in-Some.policer.now c.offer_to.new.policer c.offer_to.result c.in-Some.ensures.value
    ((c.get_mut.follows.holds c.offer_to.new.policer).3 (search rules)).0 c.requires.alike c.offer_to.ensures

pub returns-in-Ok : goal.returns-in-Ok
returns-in-Ok c =
    let policy : Policy = record { sources = c.args.sources.now; budget = c.args.budget; span_us = c.args.span_us } in
    let made = c.in_ok-policer-in-None in
    made_at policy c.args.table.now.entries c.insert.new.self.entries c.args.at c.args.packet made.policer made.given c.in-None.ensures.value
    (subst (λ entries. Puts entries c.args.at made.policer c.insert.new.self.entries) (λ i. (c.get_mut.follows.holds-at-none i).entries) c.in-Ok.ensures.updates.0)
    c.requires.alike made.ensures
