-- Runs go on from states that hold to states that hold.
use Rattle.std.proofs.Common.{ℕ, ◌+◌, ◌<◌, List, [], ◌∷◌, length, map, subst, arith}
use Rattle.std.specs.List.{All}
use Rattle.std.proofs.lemmas.List.Elements.{All-head, All-tail, All-cons, All-nil}
use Rattle.epic_num.specs.declared.command.Command.{Command}
use Rattle.epic_num.specs.declared.command.Command.TheVariants as command
use Rattle.epic_topo.specs.Lawful.{IsTopology}
use Rattle.epic_topo.specs.Network.{Network}
use Rattle.epic_ledger.specs.Facts.{facts_of}
use Rattle.epic_audit.specs.Chain.{ChainsAreWhole, IssuedChainsAreWhole}
use Rattle.epic_audit.specs.Events.{LawfulPackets}
use Rattle.epic_model.specs.Carried.{IsCarried}
use Rattle.epic_model.specs.Keeping.{InvTwice}
use Rattle.epic_model.specs.State.{State, start}
use Rattle.epic_model.specs.Steps.{next}
use Rattle.epic_model.specs.World.{Fits, HonestCarriesArrive, IsWorld, VerdictsAreRight, WorldsGoOn, WorldsStart, most_steps}
use Rattle.epic_world.specs.Run.{done_by, run_from, state_after}
use Rattle.epic_world.specs.Sound.{CarriesHonestPackets, IsCarriedWhereHonest, RunsHold, StateHolds, StepHolds}
use Rattle.epic_world.proofs.Counted.{next_counts}

-- the packet of a send that is honest is carried
pub honest_carries : HonestCarriesArrive
    → (t : Network) (s : State) (emission : ℕ) → IsTopology t → IsWorld t s
    → IsCarriedWhereHonest t s emission (next t s (command.Carry emission)).passages
honest_carries honest t s emission topology w =
    λ n x there is now. subst (λ e. IsCarried x.packet (map (λ y. y.happened) (next t s (command.Carry e)).passages)) is (honest t s n x topology w there now)

module _ (begin : WorldsStart) (go_on : WorldsGoOn) (right : VerdictsAreRight) (honest : HonestCarriesArrive) (twice : InvTwice)
    (whole : ChainsAreWhole) (issued_whole : IssuedChainsAreWhole) (packets : LawfulPackets) where
  state_holds : (t : Network) (s : State) → IsWorld t s → StateHolds t s
  state_holds t s w =
      let are = packets s.history w.inv.sound.lawful in
      record {
        world = w;
        once = twice t s.history s.moment s.steps w.inv;
        segments = whole t (facts_of s.history) are w.inv.sound.kept;
        issued_segments = issued_whole t (facts_of s.history) are w.inv.sound.kept;
      }

  carries : (t : Network) (s : State) (c : Command) → IsTopology t → IsWorld t s → CarriesHonestPackets t s c (next t s c).passages
  carries t s (command.Carry emission) topology w = honest_carries honest t s emission topology w
  carries t s (command.At moment) topology w = tt
  carries t s (command.Originate a out exp) topology w = tt
  carries t s (command.Extend parent out exp) topology w = tt
  carries t s (command.Fetch source owner epoch) topology w = tt
  carries t s (command.Paths from to) topology w = tt
  carries t s (command.Send version level src dst segments payload) topology w = tt
  carries t s (command.Turn a iface bytes) topology w = tt
  carries t s (command.Arrive host bytes) topology w = tt
  carries t s (command.Pass emission) topology w = tt
  carries t s (command.Reveal holder) topology w = tt
  carries t s (command.Roll a) topology w = tt

  step_holds : (t : Network) (s : State) (c : Command) → IsTopology t → Fits c → IsWorld t s → StepHolds t (done_by t s c)
  unfolding done_by
  step_holds t s c topology fits w = record {
    before = state_holds t s w;
    verdicts = right t s c topology fits w;
    honest = carries t s c topology w;
  }

  hold_from : (t : Network) (s : State) (commands : List Command)
      → IsTopology t → All Fits commands → s.steps + length commands < most_steps → IsWorld t s
      → All (StepHolds t) (run_from t s commands) × StateHolds t (state_after t s commands)
  unfolding run_from state_after
  hold_from t s [] topology fits room w = (All-nil (StepHolds t), state_holds t s w)
  hold_from t s (c ∷ commands) topology fits room w =
      let one = All-head Fits c commands fits in
      let counted = next_counts t s c in
      let first : s.steps + 1 < most_steps = omega (arith, room) in
      let others : (next t s c).state.steps + length commands < most_steps = omega (arith, room, counted) in
      let rest = hold_from t (next t s c).state commands topology (All-tail Fits c commands fits) others (go_on t s c topology one first w) in
      (All-cons (StepHolds t) (done_by t s c) (run_from t (next t s c).state commands) (step_holds t s c topology one w) rest.0, rest.1)

  pub runs_hold : RunsHold
  runs_hold t commands topology fits few = hold_from t start commands topology fits (omega (arith, few)) (begin t)
