-- A hop's tags under the generations of its AS's forwarding key that a router tries.
use Rattle.std.specs.Prelude.{ℕ, ◌-◌, ◌==◌, Bool, ◌&&◌, if◌then◌else◌, List, [], ◌∷◌, Option, find}
use Rattle.std.specs.List.{list_any}
use Rattle.epic_num.specs.declared.name.AsId.{AsId}
use Rattle.epic_layout.specs.Contents.{Contents}
use Rattle.epic_topo.specs.Network.{Network}
use Rattle.epic_fields.specs.HopChecks.{hop_name, has_field, has_link}

-- under this generation the field of hop j is right
unfoldable pub field_fits : Network → AsId → Contents → ℕ → ℕ → Bool
field_fits t a p j generation = has_field t (hop_name a generation p j) p j

-- and so is the link tag that the next hop carries
unfoldable pub tags_fit : Network → AsId → Contents → ℕ → ℕ → Bool
tags_fit t a p j generation = field_fits t a p j generation && has_link t (hop_name a generation p j) p j

-- the field is right under one of the generations
unfoldable pub some_field_fits : Network → AsId → List ℕ → Contents → ℕ → Bool
some_field_fits t a candidates p j = list_any (field_fits t a p j) candidates

-- the generation under which the hop is accepted: the first under which both are right
unfoldable pub accepting : Network → AsId → List ℕ → Contents → ℕ → Option ℕ
accepting t a candidates p j = find (tags_fit t a p j) candidates

-- the generations that a router tries, where this is the present one: it, and then the one before it
unfoldable pub candidates_of : ℕ → List ℕ
candidates_of generation = if generation == 0 then 0 ∷ [] else generation ∷ (generation - 1) ∷ []
