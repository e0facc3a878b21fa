-- What the words of the command line ask for. A new command adds a case to each definition.
use Rattle.std.specs.Prelude.{ℕ, if◌then◌else◌, ◌||◌, Bool, false, List, [], ◌∷◌, ◌++◌, Option}
use Rattle.std.specs.Prelude.{Some, None, Result, Ok, Err, codes, bytes_eq, option_and_then}
use Rattle.std.specs.Prelude.{option_map, unwrap_or}
use Rattle.std.specs.List.{list_any}
use Rattle.std.specs.Option.{option_to_list}
use Rattle.clap.specs.Words.{Row, first_of}
use Rattle.hex.specs.Hex.{decode_sized}
use Rattle.hex.specs.declared.error.FromHexError.{FromHexError}
use Rattle.epic_num.specs.Names.{number_of, within}
use Rattle.epic_words.specs.RunCommand.{is_refused, rows_in, run_command}

-- the limits on the packets of each source AS
pub record Policing : Type 0 where
  -- the bytes that a source may pass within a span
  pub budget : ℕ
  -- the span, in microseconds
  pub span_us : ℕ

-- what is asked of `run`
pub record RunRequest : Type 0 where
  pub topology : List ℕ
  pub script : List ℕ
  -- the capture whose packets come after the script's commands
  pub capture : Option (List ℕ)
  -- the file to which each emission is saved
  pub save : Option (List ℕ)
  -- the file of what happened, and that of what was said of it
  pub ledger : Option (List ℕ)
  pub verdicts : Option (List ℕ)
  -- the report also says who made the fields of packets of level 1
  pub makers : Bool
  -- and which packets a source sent beyond its budget
  pub police : Option Policing

pub data Request : Type 0 where
  -- `hop KEY FILE`: the bytes of the key, the name of the file
  Hop : (key name : List ℕ) → Request
  -- `run TOPOLOGY SCRIPT` with its options
  Run : (request : RunRequest) → Request
  -- `gen SEED PACKETS`
  Gen : (seed packets : ℕ) → Request
  -- `judge TOPOLOGY LEDGER VERDICTS`: the names of the files
  Judge : (topology ledger verdicts : List ℕ) → Request

-- ---- the files of a command

-- the names of the files that are read, in the order of their first reads
abbrev pub reads_of : Request → List (List ℕ)
reads_of (Hop key name) = name ∷ []
reads_of (Run r) = r.topology ∷ r.script ∷ option_to_list r.capture
reads_of (Gen seed packets) = []
reads_of (Judge topology ledger verdicts) = topology ∷ ledger ∷ verdicts ∷ []

-- and of those that are written, in the order in which they are made
abbrev pub writes_of : Request → List (List ℕ)
writes_of (Hop key name) = []
writes_of (Run r) = option_to_list r.save ++ (option_to_list r.ledger ++ option_to_list r.verdicts)
writes_of (Gen seed packets) = []
writes_of (Judge topology ledger verdicts) = []

-- a name that is written stands among those that are read, or twice among those that are written
abbrev pub is_shared : List (List ℕ) → List (List ℕ) → Bool
is_shared reads [] = false
is_shared reads (name ∷ writes) =
    list_any (λ other. bytes_eq name other) (reads ++ writes) || is_shared reads writes

-- a file that the command writes has the name of another of its files
abbrev pub shares_files : Request → Bool
shares_files request = is_shared (reads_of request) (writes_of request)

-- ---- the words

-- the decimal number that a word writes, where it is in these bounds
unfoldable pub number_in : ℕ → ℕ → List ℕ → Option ℕ
number_in least most word = within least most (number_of word)

abbrev pub hop_request : List ℕ → Result (List ℕ) FromHexError → Option Request
hop_request name (Ok key) = Some (Hop key name)
hop_request name (Err error) = None

-- the words after `hop`: a key of 16 bytes in hexadecimal digits, and a name
unfoldable pub hop_of : List (List ℕ) → Option Request
hop_of (key ∷ name ∷ []) = hop_request name (decode_sized key 16)
hop_of words = None

-- the limits of two numbers, where both are there
abbrev pub policing : Option ℕ → Option ℕ → Option Policing
policing (Some budget) (Some span) = Some (record { budget = budget; span_us = span })
policing budget span = None

-- the values of `--budget` and `--span`, both or neither: a number of bytes up to 2^40, and one of
-- microseconds up to an hour; none where they are refused
unfoldable pub police_of : Option (List ℕ) → Option (List ℕ) → Option (Option Policing)
police_of None None = Some None
police_of (Some budget) (Some span) =
    option_map Some (policing (number_in 1 1099511627776 budget) (number_in 1 3600000000 span))
police_of budget span = None

-- the value of an argument that always has one
abbrev pub name_at : List ℕ → List Row → List ℕ
name_at id rows = unwrap_or (first_of id rows) []

-- what clap found, with these limits of a source
abbrev pub run_with : List Row → Option Policing → RunRequest
run_with rows police = record {
  topology = name_at (codes "topology") rows;
  script = name_at (codes "script") rows;
  capture = first_of (codes "capture") rows;
  save = first_of (codes "save") rows;
  ledger = first_of (codes "ledger") rows;
  verdicts = first_of (codes "verdicts") rows;
  makers = bytes_eq (name_at (codes "makers") rows) (codes "true");
  police = police;
}

-- what clap found asks for; none where its numbers are refused
abbrev pub run_request : List Row → Option RunRequest
run_request rows =
    option_map (run_with rows)
    (police_of (first_of (codes "budget") rows) (first_of (codes "span") rows))

-- the request, where no file that is written has the name of another
abbrev pub unless_shared : RunRequest → Option Request
unless_shared r = if shares_files (Run r) then None else Some (Run r)

-- the words after `run`: those that clap takes, where the numbers are in their bounds and no file
-- that is written has the name of another
unfoldable pub run_of : List (List ℕ) → Option Request
run_of words =
    if is_refused run_command words then None
    else option_and_then unless_shared (run_request (rows_in run_command words))

-- the request of two numbers, where both are there
abbrev pub gen_request : Option ℕ → Option ℕ → Option Request
gen_request None packets = None
gen_request (Some seed) None = None
gen_request (Some seed) (Some packets) = Some (Gen seed packets)

-- the words after `gen`: a decimal number of 64 bits, and one from 1 to 100,000
unfoldable pub gen_of : List (List ℕ) → Option Request
gen_of (seed ∷ packets ∷ []) =
    gen_request (number_in 0 0xffff_ffff_ffff_ffff seed) (number_in 1 100000 packets)
gen_of words = None

-- the words after `judge`: three names, of which some may be one
unfoldable pub judge_of : List (List ℕ) → Option Request
judge_of (topology ∷ ledger ∷ verdicts ∷ []) = Some (Judge topology ledger verdicts)
judge_of words = None

-- what the words after the program's name ask for; none where they are no command
unfoldable pub request_of : List (List ℕ) → Option Request
request_of [] = None
request_of (command ∷ words) =
    if bytes_eq command (codes "hop") then hop_of words
    else if bytes_eq command (codes "run") then run_of words
    else if bytes_eq command (codes "gen") then gen_of words
    else if bytes_eq command (codes "judge") then judge_of words
    else None

-- the first word is this one
abbrev pub is_command : List ℕ → List (List ℕ) → Bool
is_command word [] = false
is_command word (command ∷ words) = bytes_eq command word
