-- What a sink in memory holds and answers.
use Rattle.std.specs.Prelude.{◌≡◌, ℕ, ◌-◌, min, Bool, ◌||◌, ◌==◌, if◌then◌else◌, List, [], ◌∷◌, length, Result, Ok, Err}
use Rattle.epic_ports.specs.declared.error.PortError.{PortError}
use Rattle.epic_ports.specs.declared.error.PortError.TheVariants.{Failed}
use Rattle.epic_ports.specs.declared.mem_sink.MemSink.{MemSink}
use Rattle.epic_ports.specs.Faults.{next_count, is_listed}

-- what was written
abbrev pub bytes_of : MemSink → List ℕ
bytes_of sink = sink.bytes.items

-- how many writes failed
abbrev pub faults_of : MemSink → ℕ
faults_of sink = sink.faults

-- how many bytes of a piece it takes: at most so many a call, and in all no more than it has room
-- for
abbrev pub taken_of : MemSink → List ℕ → ℕ
taken_of sink bytes = min (min (length bytes) sink.most) (sink.room - length sink.bytes.items)

-- the next call is one of those that fail, or there is no room for a piece
abbrev pub refuses : MemSink → List ℕ → Bool
refuses sink bytes = taken_of sink bytes == 0 || is_listed sink.fail.items (next_count sink.calls)

-- the answer to a piece: an empty piece takes nothing and can't fail
abbrev pub answer_of : MemSink → List ℕ → Result ℕ PortError
answer_of sink [] = Ok 0
answer_of sink (byte ∷ bytes) =
    if refuses sink (byte ∷ bytes) then Err Failed else Ok (taken_of sink (byte ∷ bytes))

-- a new sink: nothing is written yet
pub record IsNew (sink : MemSink) (piece space : ℕ) (numbers : List ℕ) : Type 0 where
  pub bytes : sink.bytes.items ≡ []
  pub most : sink.most ≡ piece
  pub room : sink.room ≡ space
  pub fail : sink.fail.items ≡ numbers
  pub calls : sink.calls ≡ 0
  pub faults : sink.faults ≡ 0

-- the count of faults after a call with this answer
abbrev pub faults_after : {E : Type 0} → ℕ → Result ℕ E → ℕ
faults_after faults (Ok n) = faults
faults_after faults (Err e) = next_count faults

-- the call was counted, and so was its fault; what it was made with stays
pub record CountsCall (old new : MemSink) (result : Result ℕ PortError) : Type 0 where
  pub calls : new.calls ≡ next_count old.calls
  pub faults : new.faults ≡ faults_after old.faults result
  pub most : new.most ≡ old.most
  pub room : new.room ≡ old.room
  pub fail : new.fail.items ≡ old.fail.items
