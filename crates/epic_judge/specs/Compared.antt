-- Private: a message compared with another one piece by piece.
use Rattle.std.specs.Prelude.{ℕ, ◌==◌, Bool, false, List, [], ◌∷◌, Option, Some, None, option_and_then, bytes_eq, if◌then◌else◌}
use Rattle.std.specs.Option.{option_map_or}
use Rattle.epic_num.specs.BigEndian.{u64_bytes}
use Rattle.epic_num.specs.Messages.{host_bytes, dest_domain}
use Rattle.epic_layout.specs.Contents.{Contents}
use Rattle.epic_layout.specs.Spelling.{path_bytes}

-- what stands behind the piece, where the message begins with it
unfoldable pub after : List ℕ → List ℕ → Option (List ℕ)
after [] message = Some message
after (x ∷ piece) [] = None
after (x ∷ piece) (y ∷ message) = if x == y then after piece message else None

-- the same of the rest of a message, where what stands before it is as it has to be
abbrev pub behind : List ℕ → Option (List ℕ) → Option (List ℕ)
behind piece rest = option_and_then (after piece) rest

-- the rest is this
abbrev pub is_rest : List ℕ → Option (List ℕ) → Bool
is_rest piece rest = option_map_or (bytes_eq piece) rest false

-- what stands behind the timestamp, the hosts and the path bytes in the message of a destination field
abbrev pub behind_path : Contents → List ℕ → Option (List ℕ)
behind_path p message =
    behind (path_bytes p.route)
    (behind (host_bytes p.dst) (behind (host_bytes p.src) (behind (u64_bytes p.ts) (behind (dest_domain p.first ∷ []) (Some message)))))
