use Rattle.std.proofs.Common.{◌≡◌, Some, sym, ap, ◌∙◌}
use Rattle.std.proofs.lemmas.Option.{same_Some}
use Rattle.epic_ledger.specs.Facts.{as_pass}
use Rattle.epic_ledger.specs.Indexes.{pass_key, sought_cmp, pass_kind}
use Rattle.epic_ledger.specs.Walks.{pass_with}
use Rattle.epic_ledger.proofs.KindLaws.{stands_there}
use Rattle.epic_ledger.proofs.PassLaws.{pass_fits_there}
use Rattle.epic_ledger.proofs.pass_index.PassAimAim.side.Goals as goal
use Rattle.epic_ledger.specs.declared.event.Event.TheVariants as event

pub bounds-self-number : goal.bounds-self-number
bounds-self-number c =
    let s = c.args.self.now in
    (stands_there (pass_kind s.emissions.now.emissions) s.events.now s.at.now c.args.at (event.Roll 0 (record { 0 = 0 }) 0) c.requires.place.within c.requires.place.numbers).within

pub key_of-requires : goal.key_of-requires
unfolding pass_with
key_of-requires c =
    let s = c.args.self.now in
    let ems = s.emissions.now.emissions in
    let w = pass_with ems c.in-Some.pass in
    let e = c.index-self-number.result in
    let is : as_pass ems e ≡ Some w = ap (as_pass ems) c.index-self-number.is ∙ sym (c.in-Some.ensures ems) in
    let t = stands_there (pass_kind ems) s.events.now s.at.now c.args.at e c.requires.place.within c.requires.place.numbers in
    pass_fits_there s.events.now ems _ e w c.requires.lawful t.within c.index-self-number.is is

pub unreachable-requires : goal.unreachable-requires
unreachable-requires c =
    let s = c.args.self.now in
    let t = stands_there (pass_kind s.emissions.now.emissions) s.events.now s.at.now c.args.at c.index-self-number.result c.requires.place.within c.requires.place.numbers in
    let none = c.in-None.ensures s.emissions.now.emissions ∙ t.is in
    cc

pub returns : goal.returns
returns c =
    let s = c.args.self.now in
    let ems = s.emissions.now.emissions in
    let t = stands_there (pass_kind ems) s.events.now s.at.now c.args.at c.index-self-number.result c.requires.place.within c.requires.place.numbers in
    let same = same_Some _ t.item (c.in-Some.ensures ems ∙ t.is) in
    c.sought_order.ensures ∙ ap (sought_cmp s.sought) (c.key_of.ensures ∙ ap pass_key same ∙ sym t.key)
