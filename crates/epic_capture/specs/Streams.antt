-- A capture that comes in pieces: what a reader of it answers.
use Rattle.std.specs.Prelude.{◌≡◌, ℕ, ◌<◌, ◌≤◌, Bool, if◌then◌else◌, List, [], ◌∷◌, length, Option, Some, None, Result, Ok, Err}
use Rattle.epic_capture.specs.Records.{Captured, Records, damaged, told}

-- What a reader's values S say.
pub record Stream (S E : Type 0) : Type 0 where
  -- what is still to be handed out, where these bytes follow those that were fed and the capture ends with them
  pub to_come : S → List ℕ → Records E
  -- how many bytes were fed
  pub fed : S → ℕ
  -- the bytes that were fed and not passed, and how many there can be
  pub held : S → List ℕ
  pub size : ℕ
  -- the damage is that the capture ends too early, which further bytes may mend
  pub is_early : E → Bool

-- the first record; or else the damage, where further bytes can't mend it
abbrev pub first_of : {E : Type 0} → (E → Bool) → List Captured → Option E → Result (Option Captured) E
first_of early (x ∷ xs) damage = Ok (Some x)
first_of early [] None = Ok None
first_of early [] (Some e) = if early e then Ok None else Err e

abbrev pub first : {E : Type 0} → (E → Bool) → Records E → Result (Option Captured) E
first early records = first_of early records.items records.damage

-- what the bytes that were fed say next, whatever follows them
abbrev pub next : {S E : Type 0} → Stream S E → S → Result (Option Captured) E
next stream s = first stream.is_early (stream.to_come s [])

-- A reader was asked for a record and gave this answer.
pub record Follows {S E : Type 0} (stream : Stream S E) (old : S) (answer : Result (Option Captured) E) (new : S) : Type 0 where
  -- what was to come is the answer, and then what is to come, whatever follows
  pub same : (rest : List ℕ) → stream.to_come old rest ≡ told answer (stream.to_come new rest)
  -- a damage stays
  pub stays : (e : E) (rest : List ℕ) → answer ≡ Err e → stream.to_come new rest ≡ damaged e
  -- no byte was fed
  pub fed : stream.fed new ≡ stream.fed old
  -- none stays, until more is fed; there is room then, and no more was fed than a capture may have
  pub again : answer ≡ Ok None → next stream new ≡ Ok None
  pub room : answer ≡ Ok None → length (stream.held new) < stream.size
  pub limit : answer ≡ Ok None → stream.fed new ≤ 67108864
  -- a record's bytes are passed
  pub fewer : (x : Captured) → answer ≡ Ok (Some x) → length (stream.held new) < length (stream.held old)
