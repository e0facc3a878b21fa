use Rattle.std.proofs.Common.{◌≤◌, List, length, refl, sym, subst}
use Rattle.std.specs.Prelude.{Ok}
use Rattle.epic_num.specs.declared.name.AsId.{AsId}
use Rattle.epic_policer.specs.Offers.{Policy}
use Rattle.epic_policer.specs.Policing.{Offer, Policing, StandFor}
use Rattle.epic_policer.specs.Table.{AreLike, AsksAt}
use Rattle.epic_policer.proofs.Answering.{policy_as}
use Rattle.epic_policer.proofs.Passing.{on_err, said_by, stand_more, stand_still}
use Rattle.epic_policer.proofs.Tables.{all_later}
use Rattle.epic_policer.proofs.policers.Policers.offer.Goals as goal

pub ask-requires-clause-few : goal.ask-requires-clause-few
ask-requires-clause-few c =
    let lent = c.deref.ensures.value in
    subst (λ (ss : List AsId). length ss ≤ 4096) (sym lent) c.self.invariant.0

pub ask-requires-clause-alike : goal.ask-requires-clause-alike
ask-requires-clause-alike c =
    let lent = c.deref.ensures.value in
    subst (λ (y : Policy). AreLike y c.args.now c.self.inside.by_as.entries) (policy_as c.self.inside.budget c.self.inside.span_us (sym lent))
    (all_later _ c.self.inside.latest c.args.now _ (subst (λ (v : Policing). v.latest ≤ c.args.now) (sym c.self.view_is) c.requires) c.self.invariant.1)

pub invariant_of-self : goal.invariant_of-self
invariant_of-self c =
    let lent = c.deref.ensures.value in
    let m = c.self.inside.latest in (
      c.self.invariant.0,
      subst (λ (y : Policy). AreLike y m c.ask.new.table.entries) (policy_as c.self.inside.budget c.self.inside.span_us lent)
          (c.in_err-given.ensures.1 m
          (subst (λ (y : Policy). AreLike y m c.self.inside.by_as.entries) (policy_as c.self.inside.budget c.self.inside.span_us (sym lent)) c.self.invariant.1)),
    )

pub returns-in_err-given-clause-kept : goal.returns-in_err-given-clause-kept
returns-in_err-given-clause-kept c =
    on_err c.from_residual.result
    (λ policy offers s.
    stand_still _ _ policy offers refl refl c.in_err-given.ensures.0 (subst (λ v. StandFor v policy offers) (sym c.self.view_is) s))

pub invariant_of-self-2 : goal.invariant_of-self-2
invariant_of-self-2 c =
    let lent = c.deref.ensures.value in (
      c.self.invariant.0,
      subst (λ (y : Policy). AreLike y c.args.now c.ask.new.table.entries) (policy_as c.self.inside.budget c.self.inside.span_us lent)
          c.in_ok-given.ensures.2,
    )

pub returns-clause-answer : goal.returns-clause-answer
returns-clause-answer c policy offers s =
    let settings : Policy = record { sources = c.self.inside.sources.items; budget = c.self.inside.budget; span_us = c.self.inside.span_us } in
    let old : Policing = record { policy = settings; latest = c.self.inside.latest; entries = c.self.inside.by_as.entries } in
    let o : Offer = record { at = c.args.at; packet = record { source = c.args.source; bytes = c.args.bytes; moment = c.args.now } } in
    let lent = c.deref.ensures.value in
    let asked : AsksAt settings old.entries o.at o.packet c.ask.new.table.entries (Ok c.in_ok-given.given) =
    subst (λ y. AsksAt y old.entries o.at o.packet c.ask.new.table.entries (Ok c.in_ok-given.given)) (policy_as settings.budget settings.span_us lent)
    c.in_ok-given.ensures in
    said_by old policy offers o c.in_ok-given.given (subst (λ (v : Policing). v.latest ≤ c.args.now) (sym c.self.view_is) c.requires) asked.0
    (subst (λ v. StandFor v policy offers) (sym c.self.view_is) s)

pub returns-clause-stand : goal.returns-clause-stand
returns-clause-stand c policy offers s =
    let settings : Policy = record { sources = c.self.inside.sources.items; budget = c.self.inside.budget; span_us = c.self.inside.span_us } in
    let old : Policing = record { policy = settings; latest = c.self.inside.latest; entries = c.self.inside.by_as.entries } in
    let o : Offer = record { at = c.args.at; packet = record { source = c.args.source; bytes = c.args.bytes; moment = c.args.now } } in
    let lent = c.deref.ensures.value in
    let asked : AsksAt settings old.entries o.at o.packet c.ask.new.table.entries (Ok c.in_ok-given.given) =
    subst (λ y. AsksAt y old.entries o.at o.packet c.ask.new.table.entries (Ok c.in_ok-given.given)) (policy_as settings.budget settings.span_us lent)
    c.in_ok-given.ensures in
    stand_more old _ policy offers o c.in_ok-given.given (subst (λ (v : Policing). v.latest ≤ c.args.now) (sym c.self.view_is) c.requires) refl refl asked.0 asked.1
    (subst (λ v. StandFor v policy offers) (sym c.self.view_is) s)
