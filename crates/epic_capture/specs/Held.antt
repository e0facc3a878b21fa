-- What a buffer holds: the bytes that were fed and not passed, and those that were passed last.
use Rattle.std.specs.Prelude.{ℕ, List}

pub record Held : Type 0 where
  pub last : List ℕ
  pub held : List ℕ
