use Rattle.epic_layout.proofs.HopPlaces.{places_are_one, neighbours_follow}
use Rattle.epic_layout.proofs.Joins.{successors_follow, segments_join}
use Rattle.epic_layout.proofs.laws.places.Goals as goal

pub returns : goal.returns
returns c = record { places = places_are_one; neighbours = neighbours_follow; successors = successors_follow; joins = segments_join }
