use Rattle.std.proofs.Common.{◌≡◌, Some, sym, ap, ◌∙◌}
use Rattle.std.proofs.lemmas.Option.{same_Some}
use Rattle.epic_ledger.specs.Facts.{as_pass}
use Rattle.epic_ledger.specs.Indexes.{sought_hop, path_key, path_cmp, path_kind}
use Rattle.epic_ledger.specs.Walks.{pass_with}
use Rattle.epic_ledger.specs.declared.event.Event.TheVariants as event
use Rattle.epic_ledger.proofs.KindLaws.{stands_there}
use Rattle.epic_ledger.proofs.PassLaws.{pass_fits_there}
use Rattle.epic_ledger.proofs.path_index.PathAimAim.side.Goals as goal

pub bounds-self-number : goal.bounds-self-number
bounds-self-number c =
    let s = c.args.self.now in
    (stands_there (path_kind s.emissions.now.emissions) s.events.now s.at.now c.args.at (event.Roll 0 (record { 0 = 0 }) 0) c.requires.place.within c.requires.place.numbers).within

pub order_on_path-requires : goal.order_on_path-requires
unfolding pass_with
order_on_path-requires c =
    let s = c.args.self.now in
    let ems = s.emissions.now.emissions in
    let w = pass_with ems c.in-Some.pass in
    let e = c.index-self-number.result in
    let is : as_pass ems e ≡ Some w = ap (as_pass ems) c.index-self-number.is ∙ sym (c.in-Some.ensures ems) in
    let t = stands_there (path_kind ems) s.events.now s.at.now c.args.at e c.requires.place.within c.requires.place.numbers in
    (pass_fits_there s.events.now ems _ e w c.requires.lawful t.within c.index-self-number.is is).there

pub unreachable-requires : goal.unreachable-requires
unreachable-requires c =
    let s = c.args.self.now in
    let t = stands_there (path_kind s.emissions.now.emissions) s.events.now s.at.now c.args.at c.index-self-number.result c.requires.place.within c.requires.place.numbers in
    let none = c.in-None.ensures s.emissions.now.emissions ∙ t.is in
    cc

pub returns : goal.returns
returns c =
    let s = c.args.self.now in
    let ems = s.emissions.now.emissions in
    let t = stands_there (path_kind ems) s.events.now s.at.now c.args.at c.index-self-number.result c.requires.place.within c.requires.place.numbers in
    let same = same_Some _ t.item (c.in-Some.ensures ems ∙ t.is) in
    c.order_on_path.ensures ∙ ap (path_cmp (sought_hop s.packet.now.route s.hop)) (ap path_key same ∙ sym t.key)
