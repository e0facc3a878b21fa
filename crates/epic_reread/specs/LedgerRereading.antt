-- The ledger file that a run writes is read as what its lines were written of.
use Rattle.std.specs.Prelude.{◌≡◌, ℕ, ◌<◌, ◌≤◌, ◌^◌, List, [], ◌∷◌, ◌++◌, length, IsTrue, Ok, ⊤}
use Rattle.std.specs.List.{All}
use Rattle.epic_num.specs.declared.key_name.Holder.{Holder}
use Rattle.epic_num.specs.declared.key_name.Holder.TheVariants as holder
use Rattle.epic_num.specs.declared.passed.Place.{Place}
use Rattle.epic_num.specs.declared.passed.Place.TheVariants as place
use Rattle.epic_num.specs.Names.{IsHostFrom, IsReadable, IsReadableHost}
use Rattle.epic_layout.specs.Contents.{IsBytes}
use Rattle.epic_topo.specs.Network.{Network}
use Rattle.epic_ledger.specs.declared.event.Event.{Event}
use Rattle.epic_ledger.specs.declared.event.Event.TheVariants as event
use Rattle.epic_record.specs.declared.item.Item.{Item}
use Rattle.epic_record.specs.declared.item.Item.TheVariants as items
use Rattle.epic_record.specs.LedgerFile.{history_in, is_placed, ledger_file, most_ledger}
use Rattle.epic_record.specs.LedgerLine.{item_of}
use Rattle.epic_record.specs.LedgerText.{item_line, ledger_text}
use Rattle.epic_reread.specs.Rereading.{IsNamedHop}

-- ---- what a line can tell: each number fits its type, and each AS can be named, but that a source may be a host of any AS

abbrev pub IsNamedHolder : Holder → Type 0
IsNamedHolder (holder.As a) = IsReadable a.0
IsNamedHolder (holder.Host h) = IsReadableHost h

-- the last issues of a path's one to three segments
pub record AreLastIssues (numbers : List ℕ) : Type 0 where
  pub some : 0 < length numbers
  pub few : length numbers ≤ 3
  pub each : All (λ n. n < 2 ^ 32) numbers

unfoldable pub IsNamedEvent : Event → Type 0
IsNamedEvent (event.Issue step number name parent) =
    (step < 2 ^ 32) × (number < 2 ^ 32) × IsNamedHop name × (parent < 2 ^ 32)
IsNamedEvent (event.Fetch step source owner epoch) =
    (step < 2 ^ 32) × IsReadable source.0 × IsReadable owner.0 × (epoch < 2 ^ 64)
IsNamedEvent (event.Send step emission segments) =
    (step < 2 ^ 32) × (emission < 2 ^ 32) × AreLastIssues segments.items
IsNamedEvent (event.Pass step a hop generation emission) =
    (step < 2 ^ 32) × IsReadable a.0 × (hop < 2 ^ 8) × (generation < 2 ^ 32) × (emission < 2 ^ 32)
IsNamedEvent (event.Arrive step host src ts hops checked) =
    (step < 2 ^ 32) × IsReadableHost host × IsHostFrom 0 src × (ts < 2 ^ 64) × (hops < 2 ^ 8)
IsNamedEvent (event.Reveal step who) = (step < 2 ^ 32) × IsNamedHolder who
IsNamedEvent (event.Roll step a generation) = (step < 2 ^ 32) × IsReadable a.0 × (generation < 2 ^ 32)

abbrev pub IsNamedPlace : Place → Type 0
IsNamedPlace (place.Router a iface) = IsReadable a.0 × (iface < 2 ^ 16)
IsNamedPlace (place.Host host) = IsReadableHost host

unfoldable pub CanBeWritten : Item → Type 0
CanBeWritten (items.Event e) = IsNamedEvent e
CanBeWritten (items.Emission number due bytes) = (number < 2 ^ 32) × IsNamedPlace due × IsBytes bytes
CanBeWritten (items.AcceptHop a generation hop bytes) =
    IsReadable a.0 × (generation < 2 ^ 32) × (hop < 2 ^ 8) × IsBytes bytes
CanBeWritten (items.AcceptDest host bytes) = IsReadableHost host × IsBytes bytes

-- ---- the laws

-- the line of an event, an emission or an acceptance, without its line feed
abbrev pub ItemsAreReadBack : Type 0
ItemsAreReadBack =
    (item : Item) (line : List ℕ) → CanBeWritten item → line ++ (10 ∷ []) ≡ item_line item → item_of line ≡ Ok item

-- each line may follow those before it
abbrev pub ArePlaced : Network → List Item → List Item → Type 0
ArePlaced t before [] = ⊤
ArePlaced t before (item ∷ more) = IsTrue (is_placed t (history_in before) item) × ArePlaced t (before ++ item ∷ []) more

-- the ledger file of items that may stand one after the other
abbrev pub LedgersAreReadBack : Type 0
LedgersAreReadBack =
    (t : Network) (told : List Item)
    → All CanBeWritten told
    → ArePlaced t [] told
    → length (ledger_text told) ≤ most_ledger
    → ledger_file t (ledger_text told) ≡ Ok told
