-- Private: serves proofs of this crate alone; no public contract cites it.
-- How the policers of a run stand for what was offered to them.
use Rattle.std.specs.Prelude.{◌≡◌, ℕ, ◌+◌, ◌<◌, ◌≤◌, List, slice_index, Option, Some, None, IsTrue, ⊤}
use Rattle.epic_num.specs.declared.name.AsId.{AsId}
use Rattle.epic_num.specs.declared.passed.PassResult.{PassResult}
use Rattle.epic_num.specs.declared.passed.PassResult.TheVariants.{Turned, Arrived, Full}
use Rattle.epic_num.specs.declared.passed.Place.{Place}
use Rattle.epic_num.specs.declared.passed.Place.TheVariants.{Router, Host}
use Rattle.epic_num.specs.declared.turn.Turn.{Turn}
use Rattle.epic_num.specs.declared.turn.Turn.TheVariants.{Forward, Deliver, Refused}
use Rattle.epic_num.specs.Levels.{is_first_byte}
use Rattle.epic_layout.specs.Contents.{IsPacket, hop_count}
use Rattle.epic_layout.specs.Layout.{fault, parse}
use Rattle.epic_topo.specs.Network.{Network, has}
use Rattle.epic_actors.specs.Telling.{IsHopAccepted}
use Rattle.epic_policer.specs.Policing.{Offer, Policing as Policers, StandFor}
use Rattle.epic_words.specs.Request.{Policing}
use Rattle.epic_app.specs.Noting.{Coming, policy_of}

-- ---- policers

-- there are policers exactly where packets are policed; they stand for these offers, none of which is later than this moment
abbrev pub ArePoliced : Network → Option Policing → Option Policers → List Offer → ℕ → Type 0
ArePoliced t None None offers moment = ⊤
ArePoliced t None (Some policers) offers moment = ⊥
ArePoliced t (Some police) None offers moment = ⊥
ArePoliced t (Some police) (Some policers) offers moment = StandFor policers (policy_of t police) offers × (policers.latest ≤ moment)

-- ---- what can be noted

-- one or two hops of the packet were accepted by the router of an AS, under these generations
pub record IsNotable (t : Network) (a : AsId) (came : List ℕ) (hops : ℕ) (generations : List ℕ) : Type 0 where
  pub known : IsTrue (has t a)
  pub faultless : fault is_first_byte came ≡ None
  pub packet : IsPacket (parse came)
  pub some : 1 ≤ hops
  pub few : hops ≤ 2
  pub within : (parse came).current + hops ≤ hop_count (parse came)
  pub accepted : (i : ℕ) → i < hops → IsHopAccepted t a (slice_index generations i) (parse came) ((parse came).current + i)

abbrev pub IsNotableTurn : Network → AsId → List ℕ → Turn → Type 0
IsNotableTurn t a came (Forward out hops generations) = IsNotable t a came hops generations
IsNotableTurn t a came (Deliver host hops generations) = IsNotable t a came hops generations
IsNotableTurn t a came (Refused check hop) = ⊤

abbrev pub IsNotableResult : Network → AsId → List ℕ → PassResult → Type 0
IsNotableResult t a came (Turned turn) = IsNotableTurn t a came turn
IsNotableResult t a came (Arrived arrival) = ⊤
IsNotableResult t a came Full = ⊤

abbrev pub IsNotableAt : Network → List ℕ → PassResult → Place → Type 0
IsNotableAt t came result (Router a iface) = IsNotableResult t a came result
IsNotableAt t came result (Host host) = ⊤

abbrev pub IsNotablePass : Network → Coming → Type 0
IsNotablePass t x = IsNotableAt t x.came x.passed.result x.passed.place
