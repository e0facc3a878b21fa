-- The policers of a network, one an AS: what each answers, and what is seen of all of them.
use Rattle.std.specs.Prelude.{◌≡◌, ◌==◌, ℕ, List, [], ◌∷◌, ◌++◌, map, filter, zip, Option, None, Some}
use Rattle.std.specs.Map.{lookup}
use Rattle.epic_num.specs.declared.name.AsId.{AsId}
use Rattle.epic_num.specs.Same.{same_as}
use Rattle.epic_policer.specs.Offers.{Held, Policy, Same, after, answer, answers}
use Rattle.epic_policer.specs.declared.packet.Packet.{Packet}
use Rattle.epic_policer.specs.declared.policed.Policed.{Policed}

-- a packet that is offered to the policer of an AS
pub record Offer : Type 0 where
  pub at : AsId
  pub packet : Packet

-- the packets that are offered at an AS, in order
abbrev pub packets_at : AsId → List Offer → List Packet
packets_at a offers = map (λ o. o.packet) (filter (λ o. same_as o.at a) offers)

-- the packets that have passed, where these had before, and then these were offered, one after the other
unfoldable pub passing : Policy → List Packet → List Packet → List Packet
passing policy passed [] = passed
passing policy passed (p ∷ ps) = passing policy (after passed p (answer policy passed p)) ps

-- the packets that have passed at an AS, of all that were offered
unfoldable pub passed_at : Policy → List Offer → AsId → List Packet
passed_at policy offers a = passing policy [] (packets_at a offers)

-- the answer to an offer behind these
unfoldable pub said : Policy → List Offer → Offer → Policed
said policy offers o = answer policy (passed_at policy offers o.at) o.packet

-- the answers to offers that are made one after the other, behind these
unfoldable pub all_said : Policy → List Offer → List Offer → List Policed
all_said policy before [] = []
all_said policy before (o ∷ os) = said policy before o ∷ all_said policy (before ++ o ∷ []) os

-- the answers at an AS, among the answers to all offers
abbrev pub answers_at : AsId → List Offer → List Policed → List Policed
answers_at a offers given = map (λ x. x.1) (filter (λ x. same_as x.0.at a) (zip offers given))

-- an AS's policer answers as one that has nothing offered but the packets at this AS
abbrev pub PolicersStandApart : Type 0
PolicersStandApart = (policy : Policy) (a : AsId) (offers : List Offer)
    → answers_at a offers (all_said policy [] offers) ≡ answers policy [] (packets_at a offers)

-- what is seen of the policers: the settings of each, the moment of the last offer to any (0 before the first), and the policers by
-- their ASes, which `passed_in` alone reads
pub record Policing : Type 0 where
  pub policy : Policy
  pub latest : ℕ
  pub entries : List (AsId × Held)

-- the policer of an AS, if it was made
unfoldable pub policer_in : List (AsId × Held) → AsId → Option Held
policer_in entries a = lookup (λ t. a.0 == t.0) entries

abbrev pub passed_by : Option Held → List Packet
passed_by None = []
passed_by (Some h) = h.passed

-- the packets that its policer let pass at an AS, in some order and perhaps without those that are over; none have where there is none
unfoldable pub passed_in : List (AsId × Held) → AsId → List Packet
passed_in entries a = passed_by (policer_in entries a)

-- the policers have these settings, and from the last moment on each source has used the same at each AS as after these offers
pub record StandFor (policers : Policing) (policy : Policy) (offers : List Offer) : Type 0 where
  pub policy_is : policers.policy ≡ policy
  pub passed_is : (a : AsId) → Same policy.span_us policers.latest (passed_in policers.entries a) (passed_at policy offers a)
