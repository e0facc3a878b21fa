-- That a policer's answers to many offers are those of the definition.
use Rattle.std.specs.Prelude.{⊤, ◌≡◌, ◌≤◌, List, [], ◌∷◌, map}
use Rattle.epic_policer.specs.Offers.{Held, Offers, Same, answers}
use Rattle.epic_policer.specs.declared.packet.Packet.{Packet}
use Rattle.epic_policer.specs.declared.policed.Policed.{Policed}

-- an offer of a run: the packet, the answer, the policer before (where room was made, maybe), and the one after
pub record Turn : Type 0 where
  pub packet : Packet
  pub given : Policed
  pub ready : Held
  pub left : Held

-- room was made, maybe: what is used and the settings are as before
pub record Keeps (old new : Held) : Type 0 where
  pub passed : Same old.policy.span_us old.latest new.passed old.passed
  pub latest : new.latest ≡ old.latest
  pub policy : new.policy ≡ old.policy

-- one offer after the other, at moments that never go back
abbrev pub IsRun : Held → List Turn → Type 0
IsRun old [] = ⊤
IsRun old (t ∷ ts) = Keeps old t.ready × (t.ready.latest ≤ t.packet.moment) × Offers t.ready t.left t.packet t.given × IsRun t.left ts

-- a run from an empty policer has the answers of the definition
abbrev pub AnswersFold : Type 0
AnswersFold = (old : Held) (ts : List Turn) → old.passed ≡ [] → IsRun old ts
    → map (λ t. t.given) ts ≡ answers old.policy [] (map (λ t. t.packet) ts)
