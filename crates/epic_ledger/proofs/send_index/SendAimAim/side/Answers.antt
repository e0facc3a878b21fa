use Rattle.std.proofs.Common.{◌≡◌, Some, sym, ap, ◌∙◌}
use Rattle.std.proofs.lemmas.Option.{same_Some}
use Rattle.epic_ledger.specs.Facts.{as_send}
use Rattle.epic_ledger.specs.Indexes.{send_key, origin_cmp, send_kind}
use Rattle.epic_ledger.specs.Walks.{sent_with}
use Rattle.epic_ledger.proofs.KindLaws.{stands_there}
use Rattle.epic_ledger.proofs.SendLaws.{send_fits_there}
use Rattle.epic_ledger.proofs.send_index.SendAimAim.side.Goals as goal
use Rattle.epic_ledger.specs.declared.event.Event.TheVariants as event

pub bounds-self-number : goal.bounds-self-number
bounds-self-number c =
    let s = c.args.self.now in
    (stands_there (send_kind s.emissions.now.emissions) s.events.now s.at.now c.args.at (event.Roll 0 (record { 0 = 0 }) 0) c.requires.place.within c.requires.place.numbers).within

pub origin_of-requires : goal.origin_of-requires
unfolding sent_with
origin_of-requires c =
    let s = c.args.self.now in
    let ems = s.emissions.now.emissions in
    let w = sent_with ems c.in-Some.sending in
    let e = c.index-self-number.result in
    let is : as_send ems e ≡ Some w = ap (as_send ems) c.index-self-number.is ∙ sym (c.in-Some.ensures ems) in
    let t = stands_there (send_kind ems) s.events.now s.at.now c.args.at e c.requires.place.within c.requires.place.numbers in
    send_fits_there s.events.now ems _ e w c.requires.lawful t.within c.index-self-number.is is

pub unreachable-requires : goal.unreachable-requires
unreachable-requires c =
    let s = c.args.self.now in
    let t = stands_there (send_kind s.emissions.now.emissions) s.events.now s.at.now c.args.at c.index-self-number.result c.requires.place.within c.requires.place.numbers in
    let none = c.in-None.ensures s.emissions.now.emissions ∙ t.is in
    cc

pub returns : goal.returns
returns c =
    let s = c.args.self.now in
    let ems = s.emissions.now.emissions in
    let t = stands_there (send_kind ems) s.events.now s.at.now c.args.at c.index-self-number.result c.requires.place.within c.requires.place.numbers in
    let same = same_Some _ t.item (c.in-Some.ensures ems ∙ t.is) in
    c.origin_order.ensures ∙ ap (origin_cmp s.origin) (c.origin_of.ensures ∙ ap send_key same ∙ sym t.key)
