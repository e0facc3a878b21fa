-- Private: serves proofs of this crate alone; no public contract cites it.
-- The policers of a network by the ASes whose packets they are offered.
use Rattle.std.specs.Prelude.{⊤, ◌≡◌, ℕ, ◌≤◌, ◌==◌, if◌then◌else◌, List, Option, None, Some, Result, Ok, Err}
use Rattle.epic_num.specs.declared.memory.OutOfMemory.{OutOfMemory}
use Rattle.epic_num.specs.declared.name.AsId.{AsId}
use Rattle.epic_policer.specs.Offers.{Held, Policy, Same, after, answer, is_among}
use Rattle.epic_policer.specs.Policing.{passed_in, policer_in}
use Rattle.epic_policer.specs.declared.packet.Packet.{Packet}
use Rattle.epic_policer.specs.declared.policed.Policed.{Policed}

-- settings that differ at most in the order of their sources
pub record Alike (one other : Policy) : Type 0 where
  pub sources : (s : AsId) → is_among one.sources s ≡ is_among other.sources s
  pub budget : one.budget ≡ other.budget
  pub span : one.span_us ≡ other.span_us

-- a policer has these settings, and was offered nothing after this moment
abbrev pub IsLike : Policy → ℕ → Option Held → Type 0
IsLike policy latest None = ⊤
IsLike policy latest (Some h) = Alike h.policy policy × (h.latest ≤ latest)

-- so each of the policers
abbrev pub AreLike : Policy → ℕ → List (AsId × Held) → Type 0
AreLike policy latest entries = (a : AsId) → IsLike policy latest (policer_in entries a)

-- a packet was offered to a policer that had let these pass, and answered so
pub record Took (policy : Policy) (passed : List Packet) (p : Packet) (given : Policed) (new : Held) : Type 0 where
  pub answers : given ≡ answer policy passed p
  pub passed_is : Same policy.span_us p.moment new.passed (after passed p given)
  pub alike : Alike new.policy policy
  pub latest : new.latest ≡ p.moment

-- a packet was offered, or memory was wanting, and at most room was made
abbrev pub Asks : Held → Packet → Held → Result Policed OutOfMemory → Type 0
Asks old p new (Ok given) = Took old.policy old.passed p given new
Asks old p new (Err e) = (new.passed ≡ old.passed) × (new.policy ≡ old.policy) × (new.latest ≡ old.latest)

-- the same of the policers of all ASes, where the packet was offered at one of them
abbrev pub AsksAt : Policy → List (AsId × Held) → AsId → Packet → List (AsId × Held) → Result Policed OutOfMemory → Type 0
AsksAt policy old at p new (Ok given) =
    (given ≡ answer policy (passed_in old at) p)
    × ((b : AsId) → Same policy.span_us p.moment (passed_in new b) (if at.0 == b.0 then after (passed_in old b) p given else passed_in old b))
    × AreLike policy p.moment new
AsksAt policy old at p new (Err e) = ((b : AsId) → passed_in new b ≡ passed_in old b) × ((latest : ℕ) → AreLike policy latest old → AreLike policy latest new)
