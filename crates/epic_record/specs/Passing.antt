-- What the lines of a ledger file tell of a step, and of a packet at a place.
use Rattle.std.specs.Prelude.{ℕ, ◌+◌, List, [], ◌∷◌, ◌++◌, length, map, take, drop}
use Rattle.epic_num.specs.declared.arrival.Arrival.TheVariants.{Accepted, Unchecked}
use Rattle.epic_num.specs.declared.name.AsId.{AsId}
use Rattle.epic_num.specs.declared.passed.PassResult.{PassResult}
use Rattle.epic_num.specs.declared.passed.PassResult.TheVariants.{Turned, Arrived}
use Rattle.epic_num.specs.declared.passed.Place.{Place}
use Rattle.epic_num.specs.declared.passed.Place.TheVariants.{Router, Host}
use Rattle.epic_num.specs.declared.turn.Turn.{Turn}
use Rattle.epic_num.specs.declared.turn.Turn.TheVariants as turn
use Rattle.epic_layout.specs.Layout.{parse}
use Rattle.epic_ledger.specs.History.{History, Emission}
use Rattle.epic_record.specs.declared.item.Item.{Item}
use Rattle.epic_record.specs.declared.item.Item.TheVariants as items

-- ---- what happened

-- emissions from a number on
abbrev pub emitted_from : ℕ → List Emission → List Item
emitted_from number [] = []
emitted_from number (e ∷ more) = items.Emission number e.place e.bytes ∷ emitted_from (number + 1) more

-- What a ledger has that it didn't have before: the emissions, and then the events. So a packet that was sent stands before its
-- send, and one that a router sent on before the hops that it accepted.
unfoldable pub new_items : History → History → List Item
new_items before after =
    emitted_from (length before.emissions + 1) (drop (length before.emissions) after.emissions)
    ++ map (λ e. items.Event e) (drop (length before.events) after.events)

-- ---- what was accepted

-- the generations under which a router accepted hops, from the packet's current one on; none where it refused
unfoldable pub generations_of : Turn → List ℕ
generations_of (turn.Forward out hops generations) = take hops generations
generations_of (turn.Deliver host hops generations) = take hops generations
generations_of (turn.Refused check hop) = []

-- hops from one on, one a generation
abbrev pub hops_from : AsId → ℕ → List ℕ → List ℕ → List Item
hops_from a hop came [] = []
hops_from a hop came (g ∷ more) = items.AcceptHop a g hop came ∷ hops_from a (hop + 1) came more

-- What was accepted of the bytes that came to a place. A destination accepts a packet whether it had a field to check or not.
unfoldable pub accepted_items : Place → List ℕ → PassResult → List Item
accepted_items (Router a iface) came (Turned answer) = hops_from a (parse came).current came (generations_of answer)
accepted_items (Host host) came (Arrived Accepted) = items.AcceptDest host came ∷ []
accepted_items (Host host) came (Arrived Unchecked) = items.AcceptDest host came ∷ []
accepted_items due came result = []

-- what a pass tells, of the ledger before and after it
unfoldable pub pass_items : History → Place → List ℕ → PassResult → History → List Item
pass_items before due came result after = accepted_items due came result ++ new_items before after
