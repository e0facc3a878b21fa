-- How a run may end, and what was written then.
use Rattle.std.specs.Prelude.{◌≡◌, ℕ, ◌⊎◌, List, [], Option, Some, None, codes}
use Rattle.epic_ports.specs.Faults.{Rose}
use Rattle.epic_ports.specs.Written.{Appends, AppendsFront}
use Rattle.epic_bench.specs.declared.top.End.{End}
use Rattle.epic_bench.specs.declared.top.End.TheVariants.{Done, BadWords, NoClock, NoPacket, WriteFailed, OutOfMemory}
use Rattle.epic_bench.specs.declared.words.Request.{Request}
use Rattle.epic_bench.specs.declared.words.Request.TheVariants.{Time, Digests}
use Rattle.epic_bench.specs.declared.work.Load.TheVariants.{One, Hundred, Thousands}
use Rattle.epic_bench.specs.declared.work.Work.{Work}
use Rattle.epic_bench.specs.declared.work.Work.TheVariants.{Aes, Cmac, Short, Routed, Arrived, Sends, Window, Policing}
use Rattle.epic_num.specs.declared.hop.Level.TheVariants.{L0, L1, L2, L3}
use Rattle.epic_bench.specs.Lines.{◌⊕◌, IsLine, IsTimedLine}

-- the lines of all works, without times
pub record AreLines (rounds : ℕ) (text : List ℕ) : Type 0 where
  pub aes : List ℕ
  pub cmac : List ℕ
  pub short : List ℕ
  pub level_0 : List ℕ
  pub level_1 : List ℕ
  pub level_2 : List ℕ
  pub level_3 : List ℕ
  pub arrival : List ℕ
  pub send : List ℕ
  pub one : List ℕ
  pub hundred : List ℕ
  pub thousands : List ℕ
  pub police : List ℕ
  pub is_aes : IsLine Aes rounds aes
  pub is_cmac : IsLine Cmac rounds cmac
  pub is_short : IsLine Short rounds short
  pub is_level_0 : IsLine (Routed L0) rounds level_0
  pub is_level_1 : IsLine (Routed L1) rounds level_1
  pub is_level_2 : IsLine (Routed L2) rounds level_2
  pub is_level_3 : IsLine (Routed L3) rounds level_3
  pub is_arrival : IsLine Arrived rounds arrival
  pub is_send : IsLine Sends rounds send
  pub is_one : IsLine (Window One) rounds one
  pub is_hundred : IsLine (Window Hundred) rounds hundred
  pub is_thousands : IsLine (Window Thousands) rounds thousands
  pub is_police : IsLine Policing rounds police
  pub joined : text ≡ aes ⊕ (cmac ⊕ (short ⊕ (level_0 ⊕ (level_1 ⊕ (level_2 ⊕ (level_3 ⊕ (arrival ⊕ (send ⊕ (one ⊕ (hundred ⊕ (thousands ⊕ police)))))))))))

-- the text that a request asks for
abbrev pub IsTextOf : Request → List ℕ → Type 0
IsTextOf (Time work rounds) text = IsTimedLine work rounds text
IsTextOf (Digests rounds) text = AreLines rounds text

-- the output's bytes, where it tells them, and its count of faults
pub record Output : Type 0 where
  pub written : Option (List ℕ)
  pub faults : ℕ

abbrev pub output : Option (List ℕ) → ℕ → Output
output written faults = record { written = written; faults = faults }

-- why a packet wasn't made
abbrev pub MakesNothing : End → Type 0
MakesNothing Done = ⊥
MakesNothing BadWords = ⊥
MakesNothing NoClock = ⊥
MakesNothing NoPacket = Unit {0}
MakesNothing WriteFailed = ⊥
MakesNothing OutOfMemory = Unit {0}

-- the work is of turns, arrivals or sends, which alone need packets
abbrev pub IsOfPackets : Work → Type 0
IsOfPackets Aes = ⊥
IsOfPackets Cmac = ⊥
IsOfPackets Short = ⊥
IsOfPackets (Routed level) = Unit {0}
IsOfPackets Arrived = Unit {0}
IsOfPackets Sends = Unit {0}
IsOfPackets (Window load) = ⊥
IsOfPackets Policing = ⊥

-- why a work couldn't be made ready
abbrev pub IsUnready : Work → End → Type 0
IsUnready work Done = ⊥
IsUnready work BadWords = ⊥
IsUnready work NoClock = ⊥
IsUnready work NoPacket = IsOfPackets work
IsUnready work WriteFailed = ⊥
IsUnready work OutOfMemory = Unit {0}

-- the clock is read only where a time is asked for
abbrev pub ReadsClock : Request → Type 0
ReadsClock (Time work rounds) = Unit {0}
ReadsClock (Digests rounds) = ⊥

-- and a packet is made only where turns are
abbrev pub NeedsPacket : Request → Type 0
NeedsPacket (Time work rounds) = IsOfPackets work
NeedsPacket (Digests rounds) = Unit {0}

-- why there is no text
abbrev pub GivesNothing : Request → End → Type 0
GivesNothing request Done = ⊥
GivesNothing request BadWords = ⊥
GivesNothing request NoClock = ReadsClock request
GivesNothing request NoPacket = NeedsPacket request
GivesNothing request WriteFailed = ⊥
GivesNothing request OutOfMemory = Unit {0}

-- The text was written, or a front of it where a write failed; or nothing was written, since the clock couldn't be read, the
-- packet not be made, or memory was wanting.
abbrev pub EndsWith : Request → Output → Output → End → Type 0
EndsWith request old new Done = (text : List ℕ) × IsTextOf request text × Appends old.written new.written text
EndsWith request old new BadWords = ⊥
EndsWith request old new NoClock = ReadsClock request × (new ≡ old)
EndsWith request old new NoPacket = NeedsPacket request × (new ≡ old)
EndsWith request old new WriteFailed =
    Rose old.faults new.faults
    × ((text : List ℕ) × IsTextOf request text × AppendsFront old.written new.written text)
EndsWith request old new OutOfMemory = new ≡ old

-- where the words are no command, nothing was written
abbrev pub Ends : Option Request → Output → Output → End → Type 0
Ends None old new end = (end ≡ BadWords) × (new ≡ old)
Ends (Some request) old new end = EndsWith request old new end

abbrev pub status_of : End → ℕ
status_of Done = 0
status_of BadWords = 2
status_of NoPacket = 4
status_of NoClock = 6
status_of WriteFailed = 7
status_of OutOfMemory = 8

-- what the errors get
abbrev pub error_line : End → List ℕ
error_line Done = []
error_line BadWords = codes "epic_bench: words\n"
error_line NoPacket = codes "epic_bench: packet\n"
error_line NoClock = codes "epic_bench: clock\n"
error_line WriteFailed = codes "epic_bench: write\n"
error_line OutOfMemory = codes "epic_bench: memory\n"

-- a line was written to the errors, or a front of it where a write failed
abbrev pub Tells : Output → Output → List ℕ → Type 0
Tells old new line =
    Appends old.written new.written line
    ⊎ (AppendsFront old.written new.written line × Rose old.faults new.faults)
