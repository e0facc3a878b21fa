-- What the steps of a run are worth.
use Rattle.std.specs.Prelude.{◌≡◌, ℕ, ◌+◌, ◌<◌, List, Some, length, map, slice_get, ⊤}
use Rattle.std.specs.List.{All}
use Rattle.epic_num.specs.declared.command.Command.{Command}
use Rattle.epic_num.specs.declared.command.Command.TheVariants as command
use Rattle.epic_topo.specs.Lawful.{IsTopology}
use Rattle.epic_topo.specs.Network.{Network}
use Rattle.epic_ledger.specs.Facts.{Sent, facts_of, issues_in, sends_in}
use Rattle.epic_audit.specs.Chain.{SegmentsAreWhole, IssuedSegmentsAreWhole}
use Rattle.epic_model.specs.Carried.{IsCarried}
use Rattle.epic_model.specs.Honest.{Honest}
use Rattle.epic_model.specs.Judged.{VerdictsHold}
use Rattle.epic_model.specs.Sends.{names_of}
use Rattle.epic_model.specs.State.{State, start}
use Rattle.epic_model.specs.Traces.{Passage}
use Rattle.epic_model.specs.Twice.{NoTwoEmissions}
use Rattle.epic_model.specs.World.{Fits, IsWorld, most_steps}
use Rattle.epic_world.specs.Run.{Done, run_from, state_after}

-- ---- states

-- The ledger keeps what ledgers keep. No router accepted one packet twice. Where all hops of a segment were accepted, and the last or
-- each of them was issued, they are one chain that was issued, or two hops have one link tag.
pub record StateHolds (t : Network) (s : State) : Type 0 where
  pub world : IsWorld t s
  pub once : NoTwoEmissions s.history
  pub segments : SegmentsAreWhole t (facts_of s.history)
  pub issued_segments : IssuedSegmentsAreWhole t (facts_of s.history)

-- ---- steps

-- the emission of a packet that was sent and is honest is carried to the packet's destination, which takes it
abbrev pub IsCarriedWhereHonest : Network → State → ℕ → List Passage → Type 0
IsCarriedWhereHonest t s emission passages =
    (n : ℕ) (x : Sent)
    → slice_get (sends_in s.history) n ≡ Some x → x.emission ≡ emission
    → Honest t s.history s.moment x.packet (names_of (issues_in s.history.events) x)
    → IsCarried x.packet (map (λ y. y.happened) passages)

-- so it is where the step is a carry; of other steps nothing is said
abbrev pub CarriesHonestPackets : Network → State → Command → List Passage → Type 0
CarriesHonestPackets t s (command.Carry emission) passages = IsCarriedWhereHonest t s emission passages
CarriesHonestPackets t s (command.At moment) passages = ⊤
CarriesHonestPackets t s (command.Originate a out exp) passages = ⊤
CarriesHonestPackets t s (command.Extend parent out exp) passages = ⊤
CarriesHonestPackets t s (command.Fetch source owner epoch) passages = ⊤
CarriesHonestPackets t s (command.Paths from to) passages = ⊤
CarriesHonestPackets t s (command.Send version level src dst segments payload) passages = ⊤
CarriesHonestPackets t s (command.Turn a iface bytes) passages = ⊤
CarriesHonestPackets t s (command.Arrive host bytes) passages = ⊤
CarriesHonestPackets t s (command.Pass emission) passages = ⊤
CarriesHonestPackets t s (command.Reveal holder) passages = ⊤
CarriesHonestPackets t s (command.Roll a) passages = ⊤

-- The step goes on from a state that holds. Each verdict of each of its passages is true over the ledger before the passage, and says
-- Proved exactly where the provenance stands there; the answer tells them all. Honest packets are carried.
pub record StepHolds (t : Network) (d : Done) : Type 0 where
  pub before : StateHolds t d.before
  pub verdicts : VerdictsHold t d.answer d.passages
  pub honest : CarriesHonestPackets t d.before d.command d.passages

-- ---- the law

-- each step of a run holds, and so does the state at its end
abbrev pub RunsHold : Type 0
RunsHold =
    (t : Network) (commands : List Command)
    → IsTopology t → All Fits commands → length commands + 1 < most_steps
    → All (StepHolds t) (run_from t start commands) × StateHolds t (state_after t start commands)
