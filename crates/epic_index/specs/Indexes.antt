-- What an index is of, and what it keeps.
use Rattle.std.specs.Prelude.{◌≡◌, ℕ, List, length}
use Rattle.epic_topo.specs.Network.{Network}
use Rattle.epic_ledger.specs.History.{History}
use Rattle.epic_ledger.specs.Lawful.{IsLast}
use Rattle.epic_index.specs.Holding.{Held, IsHeld}
use Rattle.epic_index.specs.declared.sent_as.SentTree.{SentTree}
use Rattle.epic_index.specs.SentAs.{IsSentTree}
use Rattle.epic_index.specs.Stepping.{stepped}

-- a history, and the network whose keys its tags are made under
pub record Indexed : Type 0 where
  pub network : Network
  pub history : History

-- the history whose events are kept at step 0, and their steps apart
abbrev pub history_of : History → List ℕ → History
history_of h steps = record h { events = stepped steps h.events }

pub record IsApart (h : History) (steps : List ℕ) : Type 0 where
  pub count : length steps ≡ length h.events
  pub at_start : IsLast h.events 0

pub record IsIndexOf (t : Network) (h : History) (steps : List ℕ) (held : Held) : Type 0 where
  pub apart : IsApart h steps
  pub held_is : IsHeld t h steps held

-- with a tree of the packets that were sent
pub record IsWholeIndex (t : Network) (h : History) (steps : List ℕ) (held : Held) (sent : SentTree) : Type 0 where
  pub index : IsIndexOf t h steps held
  pub sent_is : IsSentTree h sent
