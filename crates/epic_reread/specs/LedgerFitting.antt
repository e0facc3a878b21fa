-- A ledger file whose items fit their types, and may stand where they do in a topology, is read back.
use Rattle.std.specs.Prelude.{◌≡◌, ◌<◌, ◌≤◌, ◌^◌, List, [], length, IsTrue, Ok}
use Rattle.std.specs.List.{All}
use Rattle.epic_num.specs.declared.passed.Place.{Place}
use Rattle.epic_num.specs.declared.passed.Place.TheVariants as place
use Rattle.epic_num.specs.Messages.{IsHost}
use Rattle.epic_layout.specs.Contents.{IsBytes}
use Rattle.epic_topo.specs.Lawful.{IsTopology}
use Rattle.epic_topo.specs.Network.{Network}
use Rattle.epic_ledger.specs.declared.event.Event.{Event}
use Rattle.epic_ledger.specs.declared.event.Event.TheVariants as event
use Rattle.epic_ledger.specs.History.{History}
use Rattle.epic_ledger.specs.Lawful.{IsEmission}
use Rattle.epic_text.specs.RunScript.{HolderFits}
use Rattle.epic_record.specs.declared.item.Item.{Item}
use Rattle.epic_record.specs.declared.item.Item.TheVariants as items
use Rattle.epic_record.specs.LedgerFile.{is_placed, ledger_file, most_ledger}
use Rattle.epic_record.specs.LedgerText.{ledger_text}
use Rattle.epic_reread.specs.Fitting.{HopFits}
use Rattle.epic_reread.specs.LedgerRereading.{ArePlaced, CanBeWritten}

-- ---- the parts of an item fit their types

unfoldable pub EventFits : Event → Type 0
EventFits (event.Issue step number name parent) =
    (step < 2 ^ 32) × (number < 2 ^ 32) × HopFits name × (parent < 2 ^ 32)
EventFits (event.Fetch step source owner epoch) = (step < 2 ^ 32) × (epoch < 2 ^ 64)
EventFits (event.Send step emission segments) =
    (step < 2 ^ 32) × (emission < 2 ^ 32) × All (λ n. n < 2 ^ 32) segments.items
EventFits (event.Pass step a hop generation emission) =
    (step < 2 ^ 32) × (hop < 2 ^ 8) × (generation < 2 ^ 32) × (emission < 2 ^ 32)
EventFits (event.Arrive step host src ts hops checked) =
    (step < 2 ^ 32) × IsHost host × IsHost src × (ts < 2 ^ 64) × (hops < 2 ^ 8)
EventFits (event.Reveal step who) = (step < 2 ^ 32) × HolderFits who
EventFits (event.Roll step a generation) = (step < 2 ^ 32) × (generation < 2 ^ 32)

abbrev pub PlaceFits : Place → Type 0
PlaceFits (place.Router a iface) = iface < 2 ^ 16
PlaceFits (place.Host host) = IsHost host

unfoldable pub ItemFits : Item → Type 0
ItemFits (items.Event e) = EventFits e
ItemFits (items.Emission number due bytes) = (number < 2 ^ 32) × PlaceFits due × IsBytes bytes
ItemFits (items.AcceptHop a generation hop bytes) = (generation < 2 ^ 32) × (hop < 2 ^ 8) × IsBytes bytes
ItemFits (items.AcceptDest host bytes) = IsHost host × IsBytes bytes

-- ---- the laws

-- after a ledger whose emissions are packets
abbrev pub PlacedItemsCanBeWritten : Type 0
PlacedItemsCanBeWritten =
    (t : Network) (h : History) (item : Item)
    → IsTopology t → All IsEmission h.emissions → ItemFits item → IsTrue (is_placed t h item)
    → CanBeWritten item

abbrev pub PlacedLedgersAreReadBack : Type 0
PlacedLedgersAreReadBack =
    (t : Network) (told : List Item)
    → IsTopology t → All ItemFits told → ArePlaced t [] told
    → length (ledger_text told) ≤ most_ledger
    → ledger_file t (ledger_text told) ≡ Ok told
