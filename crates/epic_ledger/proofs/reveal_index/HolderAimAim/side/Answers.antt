use Rattle.std.proofs.Common.{sym, ap, ◌∙◌}
use Rattle.std.proofs.lemmas.Option.{same_Some}
use Rattle.epic_ledger.specs.Facts.{Reveal}
use Rattle.epic_ledger.specs.Indexes.{reveal_kind}
use Rattle.epic_ledger.specs.Ranks.{holder_cmp}
use Rattle.epic_ledger.specs.Walks.{reveal_in}
use Rattle.epic_ledger.specs.declared.event.Event.TheVariants as event
use Rattle.epic_ledger.proofs.KindLaws.{stands_there}
use Rattle.epic_ledger.proofs.reveal_index.HolderAimAim.side.Goals as goal

pub bounds-self-number : goal.bounds-self-number
bounds-self-number c =
    let s = c.args.self.now in
    (stands_there reveal_kind s.events.now s.at.now c.args.at (event.Roll 0 (record { 0 = 0 }) 0) c.requires.within c.requires.numbers).within

pub unreachable-requires : goal.unreachable-requires
unreachable-requires c =
    let s = c.args.self.now in
    let t = stands_there reveal_kind s.events.now s.at.now c.args.at c.index-self-number.result c.requires.within c.requires.numbers in
    let none = c.in-None.ensures ∙ t.is in
    cc

pub returns : goal.returns
unfolding reveal_in
returns c =
    let s = c.args.self.now in
    let t = stands_there reveal_kind s.events.now s.at.now c.args.at c.index-self-number.result c.requires.within c.requires.numbers in
    let same = same_Some _ t.item (c.in-Some.ensures ∙ t.is) in
    c.holder_order.ensures ∙ ap (holder_cmp s.holder) (ap (λ (r : Reveal). r.holder) same ∙ sym t.key)
