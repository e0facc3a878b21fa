-- What a policer answers to a packet that is offered to it, and what the offer leaves. Nothing here depends on the order of the
-- packets that passed before.
use Rattle.std.specs.Prelude.{◌≡◌, ℕ, ◌+◌, ◌≤◌, Bool, ◌&&◌, nat_lt, if◌then◌else◌, List, [], ◌∷◌, filter, sum_by}
use Rattle.std.specs.List.{list_any}
use Rattle.epic_num.specs.declared.name.AsId.{AsId}
use Rattle.epic_num.specs.Same.{same_as}
use Rattle.epic_policer.specs.declared.packet.Packet.{Packet}
use Rattle.epic_policer.specs.declared.policed.Policed.{Policed}
use Rattle.epic_policer.specs.declared.policed.Policed.TheVariants.{Pass, Over, Unknown}

-- the settings: the sources, the bytes that each may have passed within a span, and how long a span is, in microseconds
pub record Policy : Type 0 where
  pub sources : List AsId
  pub budget : ℕ
  pub span_us : ℕ

-- a packet that passed is live until its span is over
unfoldable pub is_live : ℕ → ℕ → Packet → Bool
is_live span now p = nat_lt now (p.moment + span)

unfoldable pub is_among : List AsId → AsId → Bool
is_among sources source = list_any (same_as source) sources

-- the bytes of a source's live packets, among those that passed
unfoldable pub used : ℕ → List Packet → ℕ → AsId → ℕ
used span passed now source = sum_by (λ p. p.bytes) (filter (λ p. same_as p.source source && is_live span now p) passed)

-- the answer where a source has used so many bytes
abbrev pub answer_at : Policy → ℕ → Packet → Policed
answer_at policy already p =
    if is_among policy.sources p.source
    then (if nat_lt policy.budget (already + p.bytes) then Over already else Pass (already + p.bytes))
    else Unknown

-- the answer to a packet, after these have passed
unfoldable pub answer : Policy → List Packet → Packet → Policed
answer policy passed p = answer_at policy (used policy.span_us passed p.moment p.source) p

-- the packets that have passed after one was answered so
abbrev pub after : List Packet → Packet → Policed → List Packet
after passed p (Pass _) = p ∷ passed
after passed p _ = passed

-- the answers to packets that are offered one after the other
unfoldable pub answers : Policy → List Packet → List Packet → List Policed
answers policy passed [] = []
answers policy passed (p ∷ ps) = answer policy passed p ∷ answers policy (after passed p (answer policy passed p)) ps

-- the same is used from a moment on, by each source at each later moment
pub record Same (span from : ℕ) (passed others : List Packet) : Type 0 where
  pub used_is : (now : ℕ) (source : AsId) → from ≤ now → used span passed now source ≡ used span others now source

-- a policer: its settings, the packets that passed, in some order and perhaps without those that are over, the moment of the last
-- offer (0 before the first), and for how many more packets it has room
pub record Held : Type 0 where
  pub policy : Policy
  pub passed : List Packet
  pub latest : ℕ
  pub spare : ℕ

-- how much room the answer uses up at most
abbrev pub taken : Policed → ℕ
taken (Pass _) = 1
taken _ = 0

-- a packet was offered, and answered so
pub record Offers (old new : Held) (p : Packet) (given : Policed) : Type 0 where
  pub answers : given ≡ answer old.policy old.passed p
  pub passed : Same old.policy.span_us p.moment new.passed (after old.passed p given)
  pub latest : new.latest ≡ p.moment
  pub policy : new.policy ≡ old.policy
  pub spare : old.spare ≤ new.spare + taken given
