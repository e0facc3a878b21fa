-- Private: what the places of its lines give of a ledger.
use Rattle.std.specs.Prelude.{◌≡◌, ℕ, ◌≤◌, List, length, Some, IsTrue, ⊤}
use Rattle.std.specs.List.{All}
use Rattle.epic_num.specs.Chains.{Issue, chain, issue_at}
use Rattle.epic_topo.specs.Network.{Network, has}
use Rattle.epic_ledger.specs.declared.event.Event.{Event}
use Rattle.epic_ledger.specs.declared.event.Event.TheVariants as event
use Rattle.epic_ledger.specs.Facts.{issues_in}
use Rattle.epic_ledger.specs.History.{History}
use Rattle.epic_ledger.specs.OneMore.{with_event, with_emission}
use Rattle.epic_record.specs.declared.item.Item.{Item}
use Rattle.epic_record.specs.declared.item.Item.TheVariants as items

-- the AS that issued a hop, or whose router accepted one, is of the network
abbrev pub IsEventKnown : Network → Event → Type 0
IsEventKnown t (event.Issue step number name parent) = IsTrue (has t name.asn)
IsEventKnown t (event.Fetch step source owner epoch) = ⊤
IsEventKnown t (event.Send step emission segments) = ⊤
IsEventKnown t (event.Pass step a hop generation emission) = IsTrue (has t a)
IsEventKnown t (event.Arrive step host src ts hops checked) = ⊤
IsEventKnown t (event.Reveal step holder) = ⊤
IsEventKnown t (event.Roll step a generation) = ⊤

-- what each issue goes on from is there, and its chain is as long as its position says
pub record AreChained (issues : List Issue) : Type 0 where
  pub there : (n : ℕ) (i : Issue) → issue_at issues n ≡ Some i → i.parent ≤ length issues
  pub long : (n : ℕ) (i : Issue) → issue_at issues n ≡ Some i → length (chain issues n) ≡ i.name.body.pos

pub record IsSound (t : Network) (h : History) : Type 0 where
  pub known : All (IsEventKnown t) h.events
  pub chained : AreChained (issues_in h.events)

-- the ledger with what one line more tells
abbrev pub history_more : History → Item → History
history_more h (items.Event e) = with_event h e
history_more h (items.Emission number due bytes) = with_emission h (record { place = due; bytes = bytes })
history_more h (items.AcceptHop a generation hop bytes) = h
history_more h (items.AcceptDest host bytes) = h
