-- Private: serves proofs of this crate alone; no public contract cites it.
-- What is known of hops that a router accepts.
use Rattle.std.specs.Prelude.{◌≡◌, ℕ, ◌+◌, Bool, true, false, List, [], ◌∷◌, Option, None, Some}
use Rattle.epic_num.specs.declared.name.AsId.{AsId}
use Rattle.epic_num.specs.declared.turn.Check.{Check}
use Rattle.epic_num.specs.declared.turn.Check.TheVariants.{BadField, BadLink}
use Rattle.epic_layout.specs.Contents.{Contents}
use Rattle.epic_topo.specs.Network.{Network}
use Rattle.epic_router.specs.Candidates.{accepting}
use Rattle.epic_router.specs.Checks.{has_second}
use Rattle.epic_router.specs.Passing.{HasWidth, IsUpdate}
use Rattle.epic_router.specs.declared.accepted.Accepted.{Accepted}
use Rattle.epic_router.specs.declared.accepted.Handled.{Handled}

-- hop j is accepted under the generation, and this is its update at level 3
pub record IsAccepting (t : Network) (a : AsId) (candidates : List ℕ) (p : Contents) (j : ℕ) (x : Accepted) : Type 0 where
  pub generation : accepting t a candidates p j ≡ Some x.generation
  pub update : IsUpdate t a x.generation p j x.update
  pub width : HasWidth p x.update

-- the hop after hop j is handled too, and accepted, exactly where there is a second
abbrev pub IsSecond : Network → AsId → List ℕ → Contents → ℕ → Option Accepted → Type 0
IsSecond t a candidates p j None = has_second p j ≡ false
IsSecond t a candidates p j (Some x) = (has_second p j ≡ true) × IsAccepting t a candidates p (j + 1) x

-- the hops that are handled from hop j on
pub record AreAccepted (t : Network) (a : AsId) (candidates : List ℕ) (p : Contents) (j : ℕ) (h : Handled) : Type 0 where
  pub first : IsAccepting t a candidates p j h.first
  pub second : IsSecond t a candidates p j h.second

-- the generations of the handled hops: there are two, of which the second is 0 where one hop is handled
abbrev pub generations_of : Accepted → Option Accepted → List ℕ
generations_of first None = first.generation ∷ 0 ∷ []
generations_of first (Some second) = first.generation ∷ second.generation ∷ []

-- how many they are, and the last of them
abbrev pub hops_of : Option Accepted → ℕ
hops_of None = 1
hops_of (Some second) = 2

abbrev pub last_of : ℕ → Option Accepted → ℕ
last_of j None = j
last_of j (Some second) = j + 1

-- at level 3 these are the updates of the hops from hop j on
abbrev pub AreUpdates : Network → AsId → Contents → ℕ → Accepted → Option Accepted → Type 0
AreUpdates t a p j first None = IsUpdate t a first.generation p j first.update
AreUpdates t a p j first (Some second) = IsUpdate t a first.generation p j first.update × IsUpdate t a second.generation p (j + 1) second.update

-- at level 3 they are as wide as the packet's fields
abbrev pub HaveWidth : Contents → Accepted → Option Accepted → Type 0
HaveWidth p first None = HasWidth p first.update
HaveWidth p first (Some second) = HasWidth p first.update × HasWidth p second.update

-- which tag is wrong, where a field is right under some generation, or under none
abbrev pub failing : Bool → Check
failing true = BadLink
failing false = BadField
