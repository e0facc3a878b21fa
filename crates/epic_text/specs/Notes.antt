-- What else a report says of a pass, where more is asked for than verdicts.
use Rattle.std.specs.Prelude.{ℕ, List, [], get_or}

-- a text behind the line of each handled hop, in order, and one behind all lines of the pass
pub record Noted : Type 0 where
  pub behind : List (List ℕ)
  pub last : List ℕ

-- nothing else
abbrev pub nothing_noted : Noted
nothing_noted = record { behind = []; last = [] }

-- the text behind the line of the i-th hop; none where there are no more
abbrev pub behind_hop : Noted → ℕ → List ℕ
behind_hop notes i = get_or notes.behind i []

-- what is noted of the k-th pass; nothing where there are no more
abbrev pub noted_of : List Noted → ℕ → Noted
noted_of notes k = get_or notes k nothing_noted
