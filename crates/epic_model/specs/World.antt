-- What every state of a world keeps, and what its steps are worth.
use Rattle.std.specs.Prelude.{◌≡◌, ℕ, ◌+◌, ◌<◌, ◌≤◌, ◌^◌, true, Some, map, slice_get}
use Rattle.epic_num.specs.declared.command.Command.{Command}
use Rattle.epic_num.specs.declared.command.Command.TheVariants as command
use Rattle.epic_num.specs.declared.moment.TheConstants.{MAX_MOMENT}
use Rattle.epic_num.specs.Levels.{first_byte, is_first_byte}
use Rattle.epic_num.specs.Messages.{IsHost}
use Rattle.epic_layout.specs.Contents.{IsBytes}
use Rattle.epic_topo.specs.Lawful.{IsTopology}
use Rattle.epic_topo.specs.Network.{Network}
use Rattle.epic_ledger.specs.Facts.{Sent, issues_in, sends_in}
use Rattle.epic_model.specs.Carried.{IsCarried, IsProvedAllAlong, NoOtherPassed}
use Rattle.epic_model.specs.Honest.{Honest}
use Rattle.epic_model.specs.Judged.{VerdictsHold}
use Rattle.epic_model.specs.Keeping.{Inv}
use Rattle.epic_model.specs.Sends.{names_of}
use Rattle.epic_model.specs.State.{State, start}
use Rattle.epic_model.specs.Steps.{next}

-- the parts of a command fit their types, its bytes are bytes, and its packet is of a level and version that exist
abbrev pub Fits : Command → Type 0
Fits (command.At moment) = moment ≤ MAX_MOMENT
Fits (command.Originate a out exp) = (out < 2 ^ 16) × (exp < 2 ^ 8)
Fits (command.Extend parent out exp) = (out < 2 ^ 16) × (exp < 2 ^ 8)
Fits (command.Fetch source owner epoch) = Unit {0}
Fits (command.Paths from to) = Unit {0}
Fits (command.Send version level src dst segments payload) =
    (is_first_byte (first_byte version level) ≡ true) × (IsHost src × (IsHost dst × IsBytes payload))
Fits (command.Turn a iface bytes) = IsBytes bytes
Fits (command.Arrive host bytes) = IsBytes bytes
Fits (command.Pass emission) = Unit {0}
Fits (command.Carry emission) = Unit {0}
Fits (command.Reveal holder) = Unit {0}
Fits (command.Roll a) = Unit {0}

-- how many steps a world takes at most
abbrev pub most_steps : ℕ
most_steps = 1073741824

-- The ledger keeps what ledgers keep, and the moment is one that fits. No packet was sent with a timestamp so late that the next
-- wouldn't fit.
pub record IsWorld (t : Network) (s : State) : Type 0 where
  pub inv : Inv t s.history s.moment s.steps
  pub moment_fits : s.moment ≤ MAX_MOMENT
  pub times : (n : ℕ) (x : Sent) → slice_get (sends_in s.history) n ≡ Some x → x.packet.ts ≤ s.moment + s.steps

-- ---- laws

-- a world begins so
abbrev pub WorldsStart : Type 0
WorldsStart = (t : Network) → IsWorld t start

-- and each step goes on so
abbrev pub WorldsGoOn : Type 0
WorldsGoOn =
    (t : Network) (s : State) (c : Command) → IsTopology t → Fits c → s.steps + 1 < most_steps → IsWorld t s → IsWorld t (next t s c).state

-- every verdict of every passage of a step is right, and the answer tells them all
abbrev pub VerdictsAreRight : Type 0
VerdictsAreRight =
    (t : Network) (s : State) (c : Command) → IsTopology t → Fits c → IsWorld t s → VerdictsHold t (next t s c).answer (next t s c).passages

-- A packet that was sent is carried to its destination at a moment at which it is honest: each router forwards it but the last, which
-- delivers it, and the destination takes it. Each hop's verdict is Proved or tells two hops with one link tag; the destination's is
-- Proved, or Unclaimed at levels 0 and 1.
abbrev pub HonestCarriesArrive : Type 0
HonestCarriesArrive =
    (t : Network) (s : State) (n : ℕ) (x : Sent)
    → IsTopology t → IsWorld t s → slice_get (sends_in s.history) n ≡ Some x
    → Honest t s.history s.moment x.packet (names_of (issues_in s.history.events) x)
    → IsCarried x.packet (map (λ y. y.happened) (next t s (command.Carry x.emission)).passages)

-- and each hop's is Proved where no other hop has passed with its path bytes
abbrev pub HonestCarriesAreProved : Type 0
HonestCarriesAreProved =
    (t : Network) (s : State) (n : ℕ) (x : Sent)
    → IsTopology t → IsWorld t s → slice_get (sends_in s.history) n ≡ Some x
    → Honest t s.history s.moment x.packet (names_of (issues_in s.history.events) x)
    → NoOtherPassed s.history x.packet (names_of (issues_in s.history.events) x)
    → IsProvedAllAlong x.packet (map (λ y. y.happened) (next t s (command.Carry x.emission)).passages)
