-- The commands of a run by the words of their lines.
use Rattle.std.specs.Prelude.{◌≡◌, ℕ, ◌<◌, ◌≤◌, ◌^◌, ◌==◌, nat_le, Bool, true, List, [], ◌∷◌, length, map, Option, Some, None, option_map, Result, Ok, Err, codes, bytes_eq, if◌then◌else◌, ⊤}
use Rattle.std.specs.List.{All, list_any, slice_split}
use Rattle.std.specs.Result.{result_ok}
use Rattle.arrayvec.specs.ArrayVec.{ArrayVec}
use Rattle.hex.specs.Hex.{decode_of}
use Rattle.epic_num.specs.declared.command.Command.{Command}
use Rattle.epic_num.specs.declared.command.Command.TheVariants as command
use Rattle.epic_num.specs.declared.hop.Level.{Level}
use Rattle.epic_num.specs.declared.hop.Level.TheVariants.{L0, L1, L2, L3}
use Rattle.epic_num.specs.declared.key_name.Holder.{Holder}
use Rattle.epic_num.specs.declared.key_name.Holder.TheVariants as holder
use Rattle.epic_num.specs.declared.moment.TheConstants.{MAX_MOMENT}
use Rattle.epic_num.specs.declared.name.AsId.{AsId}
use Rattle.epic_num.specs.Levels.{first_byte, is_first_byte}
use Rattle.epic_num.specs.Messages.{IsHost}
use Rattle.epic_num.specs.Names.{as_of, comma, host_of, number_within}
use Rattle.epic_layout.specs.Contents.{IsBytes}
use Rattle.epic_text.specs.declared.script.ScriptKind.{ScriptKind}
use Rattle.epic_text.specs.declared.script.ScriptKind.TheVariants.{UnknownVerb, WordCount, BadWord}
use Rattle.epic_text.specs.declared.script.WordsError.{WordsError}
use Rattle.epic_text.specs.declared.script.WordsError.TheVariants as words_error
use Rattle.epic_text.specs.Script.{commands_of}

-- the greatest numbers of 8, 16, 32 and 64 bits
abbrev pub most8 : ℕ
most8 = 0xff

abbrev pub most16 : ℕ
most16 = 0xffff

abbrev pub most32 : ℕ
most32 = 0xffff_ffff

abbrev pub most64 : ℕ
most64 = 0xffff_ffff_ffff_ffff

-- the bytes that a word spells: an even number of hexadecimal digits in either case, or `-` for none
unfoldable pub bytes_of : List ℕ → Option (List ℕ)
bytes_of text = if bytes_eq text (codes "-") then Some [] else result_ok (decode_of text)

-- the AS that a word names
unfoldable pub as_named : List ℕ → Option AsId
as_named text = option_map (λ a. record { 0 = a }) (as_of text)

abbrev pub is_comma : ℕ → Bool
is_comma byte = byte == comma

-- the holder that a word names: a host where it has a comma, and else an AS
unfoldable pub holder_named : List ℕ → Option Holder
holder_named text =
    if list_any is_comma text then option_map (λ h. holder.Host h) (host_of text)
    else option_map (λ a. holder.As a) (as_named text)

-- The version and the level that a word names. `2w` and `3w` are version 2, whose fields are wide.
unfoldable pub level_named : List ℕ → Option (ℕ × Level)
level_named text =
    if bytes_eq text (codes "0") then Some (1, L0)
    else if bytes_eq text (codes "1") then Some (1, L1)
    else if bytes_eq text (codes "2") then Some (1, L2)
    else if bytes_eq text (codes "3") then Some (1, L3)
    else if bytes_eq text (codes "2w") then Some (2, L2)
    else if bytes_eq text (codes "3w") then Some (2, L3)
    else None

-- the values, where each is there
abbrev pub all_there : {A : Type 0} → List (Option A) → Option (List A)
all_there [] = Some []
all_there (None ∷ more) = None
all_there (Some value ∷ more) = option_map (λ values. value ∷ values) (all_there more)

-- the numbers of 32 bits that words write, where there are no more than three
abbrev pub numbers_in : List (List ℕ) → Option (ArrayVec ℕ)
numbers_in parts =
    if nat_le (length parts) 3 then
    option_map (λ numbers. record { items = numbers }) (all_there (map (number_within most32) parts))
    else None

-- one to three numbers with a comma between two: the last issues of a path's segments
unfoldable pub segments_of : List ℕ → Option (ArrayVec ℕ)
segments_of text = numbers_in (slice_split is_comma text)

-- what follows the value of a word, which is refused where it has none
abbrev pub on_word : {A C : Type 0} → ℕ → Option A → (A → Result C ScriptKind) → Result C ScriptKind
on_word word (Some value) next = next value
on_word word None next = Err (BadWord word)

-- `at T`
abbrev pub at_of : List (List ℕ) → Result Command ScriptKind
at_of (moment ∷ []) = on_word 2 (number_within MAX_MOMENT moment) (λ t. Ok (command.At t))
at_of arguments = Err WordCount

-- `originate AS OUT EXP`
abbrev pub originate_of : List (List ℕ) → Result Command ScriptKind
originate_of (asn ∷ out ∷ exp ∷ []) =
    on_word 2 (as_named asn) (λ a.
    on_word 3 (number_within most16 out) (λ o.
    on_word 4 (number_within most8 exp) (λ e. Ok (command.Originate a o e))))
originate_of arguments = Err WordCount

-- `extend NO OUT EXP`
abbrev pub extend_of : List (List ℕ) → Result Command ScriptKind
extend_of (parent ∷ out ∷ exp ∷ []) =
    on_word 2 (number_within most32 parent) (λ p.
    on_word 3 (number_within most16 out) (λ o.
    on_word 4 (number_within most8 exp) (λ e. Ok (command.Extend p o e))))
extend_of arguments = Err WordCount

-- `fetch SOURCE OWNER EPOCH`
abbrev pub fetch_of : List (List ℕ) → Result Command ScriptKind
fetch_of (source ∷ owner ∷ epoch ∷ []) =
    on_word 2 (as_named source) (λ s.
    on_word 3 (as_named owner) (λ o.
    on_word 4 (number_within most64 epoch) (λ e. Ok (command.Fetch s o e))))
fetch_of arguments = Err WordCount

-- `paths FROM TO`
abbrev pub paths_of : List (List ℕ) → Result Command ScriptKind
paths_of (from ∷ to ∷ []) = on_word 2 (as_named from) (λ f. on_word 3 (as_named to) (λ t. Ok (command.Paths f t)))
paths_of arguments = Err WordCount

-- `send LEVEL SRC DST NO,NO,NO BYTES`
abbrev pub send_of : List (List ℕ) → Result Command ScriptKind
send_of (level ∷ src ∷ dst ∷ numbers ∷ bytes ∷ []) =
    on_word 2 (level_named level) (λ l.
    on_word 3 (host_of src) (λ s.
    on_word 4 (host_of dst) (λ d.
    on_word 5 (segments_of numbers) (λ n.
    on_word 6 (bytes_of bytes) (λ b. Ok (command.Send l.0 l.1 s d n b))))))
send_of arguments = Err WordCount

-- `turn AS IF BYTES`
abbrev pub turn_of : List (List ℕ) → Result Command ScriptKind
turn_of (asn ∷ iface ∷ bytes ∷ []) =
    on_word 2 (as_named asn) (λ a.
    on_word 3 (number_within most16 iface) (λ i.
    on_word 4 (bytes_of bytes) (λ b. Ok (command.Turn a i b))))
turn_of arguments = Err WordCount

-- `arrive HOST BYTES`
abbrev pub arrive_of : List (List ℕ) → Result Command ScriptKind
arrive_of (host ∷ bytes ∷ []) =
    on_word 2 (host_of host) (λ h. on_word 3 (bytes_of bytes) (λ b. Ok (command.Arrive h b)))
arrive_of arguments = Err WordCount

-- `pass E`
abbrev pub pass_of : List (List ℕ) → Result Command ScriptKind
pass_of (emission ∷ []) = on_word 2 (number_within most32 emission) (λ e. Ok (command.Pass e))
pass_of arguments = Err WordCount

-- `carry E`
abbrev pub carry_of : List (List ℕ) → Result Command ScriptKind
carry_of (emission ∷ []) = on_word 2 (number_within most32 emission) (λ e. Ok (command.Carry e))
carry_of arguments = Err WordCount

-- `reveal AS` or `reveal HOST`
abbrev pub reveal_of : List (List ℕ) → Result Command ScriptKind
reveal_of (name ∷ []) = on_word 2 (holder_named name) (λ h. Ok (command.Reveal h))
reveal_of arguments = Err WordCount

-- `roll AS`
abbrev pub roll_of : List (List ℕ) → Result Command ScriptKind
roll_of (asn ∷ []) = on_word 2 (as_named asn) (λ a. Ok (command.Roll a))
roll_of arguments = Err WordCount

-- the command of a verb and the words after it
abbrev pub run_rule : List ℕ → List (List ℕ) → Result Command ScriptKind
run_rule verb arguments =
    if bytes_eq verb (codes "at") then at_of arguments
    else if bytes_eq verb (codes "originate") then originate_of arguments
    else if bytes_eq verb (codes "extend") then extend_of arguments
    else if bytes_eq verb (codes "fetch") then fetch_of arguments
    else if bytes_eq verb (codes "paths") then paths_of arguments
    else if bytes_eq verb (codes "send") then send_of arguments
    else if bytes_eq verb (codes "turn") then turn_of arguments
    else if bytes_eq verb (codes "arrive") then arrive_of arguments
    else if bytes_eq verb (codes "pass") then pass_of arguments
    else if bytes_eq verb (codes "carry") then carry_of arguments
    else if bytes_eq verb (codes "reveal") then reveal_of arguments
    else if bytes_eq verb (codes "roll") then roll_of arguments
    else Err UnknownVerb

-- the value of a word, or its refusal, but for memory
abbrev pub IsWord : {A : Type 0} → ℕ → Option A → Result A WordsError → Type 0
IsWord word told (Ok value) = told ≡ Some value
IsWord word told (Err (words_error.Refused kind)) = (told ≡ None) × (kind ≡ BadWord word)
IsWord word told (Err words_error.OutOfMemory) = ⊤

-- ---- what scripts hold

-- the host of a holder that is one fits its types
abbrev pub HolderFits : Holder → Type 0
HolderFits (holder.As a) = ⊤
HolderFits (holder.Host h) = IsHost h

-- The parts of a command fit their types, its bytes are bytes, and its packet is of a level and
-- version that exist.
abbrev pub IsSpelled : Command → Type 0
IsSpelled (command.At moment) = moment ≤ MAX_MOMENT
IsSpelled (command.Originate a out exp) = (out < 2 ^ 16) × (exp < 2 ^ 8)
IsSpelled (command.Extend parent out exp) = (out < 2 ^ 16) × (exp < 2 ^ 8)
IsSpelled (command.Fetch source owner epoch) = epoch < 2 ^ 64
IsSpelled (command.Paths from to) = ⊤
IsSpelled (command.Send version level src dst segments payload) =
    (is_first_byte (first_byte version level) ≡ true) × (IsHost src × (IsHost dst × IsBytes payload))
IsSpelled (command.Turn a iface bytes) = IsBytes bytes
IsSpelled (command.Arrive host bytes) = IsHost host × IsBytes bytes
IsSpelled (command.Pass emission) = ⊤
IsSpelled (command.Carry emission) = ⊤
IsSpelled (command.Reveal holder) = HolderFits holder
IsSpelled (command.Roll a) = ⊤

-- each command that a script spells is one
abbrev pub CommandsAreSpelled : Type 0
CommandsAreSpelled =
    (text : List ℕ) (commands : List Command) → commands_of run_rule text ≡ Ok commands
    → All IsSpelled commands
