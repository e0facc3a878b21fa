-- Issues of hops, and the chains that they make.
use Rattle.std.specs.Prelude.{ℕ, zero, suc, ◌-◌, ◌==◌, Bool, false, List, [], ◌∷◌, ◌++◌, length, filter, replicate, Option, None, option_map, slice_get, if◌then◌else◌}
use Rattle.std.specs.List.{range_with_len}
use Rattle.std.specs.Option.{option_map_or}
use Rattle.epic_num.specs.declared.hop.HopName.{HopName}

-- a hop that was issued, and the number of the issue that it goes on from, 0 for none
pub record Issue : Type 0 where
  pub name : HopName
  pub parent : ℕ

-- what stands in the place of the name of a hop that isn't there: no lawful issue has position 0
abbrev pub no_name : HopName
no_name = record {
  asn = record { 0 = 0 };
  generation = 0;
  body = record { pos = 0; exp = 0; ts_path = 0; inn = 0; out = 0; link = replicate 8 0 };
}

-- the issue with a number: they count from 1, in order
unfoldable pub issue_at : List Issue → ℕ → Option Issue
issue_at issues number = if number == 0 then None else slice_get issues (number - 1)

unfoldable pub name_of : List Issue → ℕ → Option HopName
name_of issues number = option_map (λ i. i.name) (issue_at issues number)

-- the number of the issue that an issue goes on from, so many issues before it
unfoldable pub ancestor : List Issue → ℕ → ℕ → ℕ
ancestor issues number zero = number
ancestor issues number (suc n) = ancestor issues (option_map_or (λ i. i.parent) (issue_at issues number) 0) n

-- an issue's name after those of the issues that it goes on from, at most so many in all
unfoldable pub last_names : List Issue → ℕ → ℕ → List HopName
last_names issues zero number = []
last_names issues (suc most) number = option_map_or (λ i. last_names issues most i.parent ++ i.name ∷ []) (issue_at issues number) []

-- the hops of an issue's chain in construction order, as many as its position says
unfoldable pub chain : List Issue → ℕ → List HopName
chain issues number = option_map_or (λ i. last_names issues i.name.body.pos number) (issue_at issues number) []

-- the issue is the last hop of a segment
unfoldable pub is_ended : List Issue → ℕ → Bool
is_ended issues number = option_map_or (λ i. i.name.body.out == 0) (issue_at issues number) false

-- the numbers of all such issues, in order
unfoldable pub ended_issues : List Issue → List ℕ
ended_issues issues = filter (is_ended issues) (range_with_len 1 (length issues))
