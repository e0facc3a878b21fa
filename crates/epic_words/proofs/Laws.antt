-- What clap's clauses say of a command that is `run_command`, and what its getters read.
use Rattle.std.specs.Prelude.{Bool, true, false, List, [], ◌∷◌, Option, Some, None, Result, Ok, Err}
use Rattle.std.specs.Prelude.{codes, option_and_then, option_map, unwrap_or}
use Rattle.std.proofs.Common.{◌≡◌, ◌∙◌, cond, inl, inr, refl, ap, ap₂, sym}
use Rattle.std.specs.Borrow.{Bor}
use Rattle.std.specs.List.{list_any}
use Rattle.clap.specs.Words.{App, HasKind, IsAmong, Kinds, Row, Text, fault_of, first_of}
use Rattle.clap.specs.Words.{first_value, found_of, is_simple, is_simple_and_free, kind_of}
use Rattle.clap.specs.Words.{matches_of, rows_of}
use Rattle.clap.specs.declared.error.Error.{Error}
use Rattle.clap.specs.declared.error.kind.ErrorKind.{ErrorKind}
use Rattle.clap.specs.declared.error.kind.ErrorKind.TheVariants.{OutOfMemory}
use Rattle.clap.specs.declared.parser.matches.ArgMatches.{ArgMatches}
use Rattle.clap.proofs.OnLiterals.{clap_on_literals}
use Rattle.clap.proofs.WalkLemmas.{first_value-rows}
use Rattle.epic_words.specs.Answers.{AsksFor, policing_in, run_in}
use Rattle.epic_words.specs.Request.{Request, Run, RunRequest, Policing, name_at, police_of, run_of}
use Rattle.epic_words.specs.Request.{run_request, run_with, shares_files, unless_shared}
use Rattle.epic_words.specs.declared.error.WordsError.{WordsError}
use Rattle.epic_words.specs.declared.error.WordsError.TheVariants as words_error
use Rattle.epic_words.specs.RunCommand.{is_refused, rows_in, run_command}

-- ---- clap's tests of the command

pub run_is_free : is_simple_and_free run_command ≡ true
unfolding clap_on_literals run_command
run_is_free = refl

pub run_is_simple : is_simple run_command ≡ true
unfolding clap_on_literals run_command
run_is_simple = refl

-- ---- what clap answers

-- words without a fault are taken
pub accepts : (a b : App) (words : List Text) → a ≡ b
    → fault_of a words ≡ [] → is_refused b words ≡ false
unfolding is_refused
accepts a b words e free = ap (λ (c : App). list_any (λ kind. true) (fault_of c words)) (sym e)
    ∙ ap (list_any (λ kind. true)) free

-- a kind among the faults
some_fault : (k : ErrorKind) (faults : Kinds) → IsAmong k faults
    → list_any (λ kind. true) faults ≡ true
some_fault k [] among = absurd among
some_fault k (x ∷ xs) among = refl

-- words with a fault are refused
pub refuses : (a b : App) (words : List Text) (k : ErrorKind) → a ≡ b
    → IsAmong k (fault_of a words) → is_refused b words ≡ true
unfolding is_refused
refuses a b words k e among =
    ap (λ (c : App). list_any (λ kind. true) (fault_of c words)) (sym e)
    ∙ some_fault k (fault_of a words) among

-- an error that isn't for want of memory is of a kind among the faults
pub fault_among : (faults : Kinds) (e : Error) → (kind_of e ≡ OutOfMemory → ⊥)
    → HasKind faults e → IsAmong (kind_of e) faults
fault_among faults e other (inl memory) = absurd (other memory)
fault_among faults e other (inr among) = among

-- what was found is what the command finds
pub finds : (a b : App) (words : List Text) (rows : List Row) → a ≡ b
    → rows ≡ matches_of a words → rows ≡ rows_in b words
unfolding rows_in
finds a b words rows e found = found ∙ ap (λ (c : App). matches_of c words) e

-- ---- what the getters read

-- the value of an argument that may be left out
pub value_read : (m : ArgMatches) (id : Text) (value : Option (Bor Text))
    → option_map (λ s. s.now) value ≡ first_value (found_of m) id
    → option_map (λ s. s.now) value ≡ first_of id (rows_of (found_of m))
value_read m id value e = e ∙ first_value-rows (found_of m) id

-- the value of one that has to be there
pub name_read : (m : ArgMatches) (id : Text) (value : Option (Bor Text)) (other name : Bor Text)
    → option_map (λ s. s.now) value ≡ first_value (found_of m) id
    → name ≡ unwrap_or value other → other.now ≡ [] → name.now ≡ name_at id (rows_of (found_of m))
name_read m id value other name e is none =
    ap (λ (s : Bor Text). s.now) is ∙ given value
    ∙ ap (λ (o : Option Text). unwrap_or o []) (value_read m id value e)
  where
    given : (v : Option (Bor Text)) → (unwrap_or v other).now
        ≡ unwrap_or (option_map (λ s. s.now) v) []
    given None = none
    given (Some s) = refl

-- ---- what is asked for

-- words that clap takes ask for what their numbers and names say
pub asked_by : (words : List Text) (rows : List Row) (budget span : Option Text)
    (numbers : Option (Option Policing)) → is_refused run_command words ≡ false
    → rows ≡ rows_in run_command words
    → budget ≡ first_of (codes "budget") rows → span ≡ first_of (codes "span") rows
    → police_of budget span ≡ numbers
    → run_of words ≡ option_and_then unless_shared (option_map (run_with rows) numbers)
unfolding run_of
asked_by words rows budget span numbers takes found b s is =
    ap (λ (refused : Bool). cond {A = Option Request} refused None
    (option_and_then unless_shared (run_request (rows_in run_command words)))) takes
    ∙ ap (λ (rs : List Row). option_and_then unless_shared (run_request rs)) (sym found)
    ∙ ap (λ (o : Option (Option Policing)).
    option_and_then unless_shared (option_map (run_with rows) o)) (sym (ap₂ police_of b s) ∙ is)

-- where the numbers are refused they ask for nothing
pub no_numbers : (words : List Text) (rows : List Row) (budget span : Option Text)
    (e : WordsError) → is_refused run_command words ≡ false → rows ≡ rows_in run_command words
    → budget ≡ first_of (codes "budget") rows → span ≡ first_of (codes "span") rows
    → AsksFor (λ police. option_map policing_in police) (police_of budget span) (Err e)
    → AsksFor run_in (run_of words) (Err e)
no_numbers words rows budget span words_error.Refused takes found b s none =
    asked_by words rows budget span None takes found b s none
no_numbers words rows budget span words_error.OutOfMemory takes found b s none = tt

-- no file that is written has the name of another
pub unshared : (r : RunRequest) → shares_files (Run r) ≡ false → unless_shared r ≡ Some (Run r)
unshared r is = ap (λ (b : Bool). cond {A = Option Request} b None (Some (Run r))) is
