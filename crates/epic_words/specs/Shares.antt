-- Private: serves proofs of this crate alone; no public contract cites it.
-- Whether a file has the name of one of these, or of one of two that may be named.
use Rattle.std.specs.Prelude.{ℕ, Bool, false, List, ◌++◌, Option, Some, None, bytes_eq}
use Rattle.std.specs.List.{list_any}
use Rattle.std.specs.Option.{option_to_list}

abbrev pub is_taken : List (List ℕ) → Option (List ℕ) → Option (List ℕ) → Option (List ℕ) → Bool
is_taken reads None next last = false
is_taken reads (Some name) next last =
    list_any (bytes_eq name) (reads ++ (option_to_list next ++ option_to_list last))
