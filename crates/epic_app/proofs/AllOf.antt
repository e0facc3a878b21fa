-- What each of a list keeps.
use Rattle.std.proofs.Common.{List, get_or}
use Rattle.std.specs.List.{All}

pub all_map : {X : Type 0} (P Q : X → Type 0) (xs : List X) → ((x : X) → P x → Q x) → All P xs → All Q xs
all_map P Q xs f h = λ k d within. f (get_or xs k d) (h k d within)
