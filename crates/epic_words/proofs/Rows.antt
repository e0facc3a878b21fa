-- What words ask for, row by row, each by computing.
use Rattle.std.specs.Prelude.{ℕ, List, [], ◌∷◌, Option, Some, None, codes, false, true}
use Rattle.std.proofs.Common.{◌≡◌, refl}
use Rattle.clap.proofs.OnLiterals.{clap_on_literals}
use Rattle.hex.specs.Hex.{decode_pairs}
use Rattle.epic_words.specs.Request.{Request, Hop, Run, Judge, RunRequest, hop_of, judge_of, number_in, police_of, request_of, run_of}
use Rattle.epic_words.specs.RunCommand.{is_refused, rows_in, run_command}

abbrev Word : Type 0
Word = List ℕ

-- the request of `run t s`
abbrev t_s : RunRequest
t_s = record {
  topology = codes "t";
  script = codes "s";
  capture = None;
  save = None;
  ledger = None;
  verdicts = None;
  makers = false;
  police = None;
}

-- the request of `run` with these names
abbrev runs_on : Word → Word → Option Word → Option Word → Option Request
runs_on topology script capture save = Some (Run (record t_s {
  topology = topology;
  script = script;
  capture = capture;
  save = save;
}))

-- the request of `run t s` with these options
abbrev runs : Option Word → Option Word → Option Request
runs capture save = runs_on (codes "t") (codes "s") capture save

-- what the words after `run` ask for
abbrev after_run : List Word → Option Request
after_run words = request_of (codes "run" ∷ words)

-- ---- the two names

names : after_run (codes "t" ∷ codes "s" ∷ []) ≡ runs None None
unfolding request_of run_of is_refused rows_in run_command police_of clap_on_literals
names = refl

none : after_run [] ≡ None
unfolding request_of run_of is_refused rows_in run_command police_of clap_on_literals
none = refl

one : after_run (codes "t" ∷ []) ≡ None
unfolding request_of run_of is_refused rows_in run_command police_of clap_on_literals
one = refl

three : after_run (codes "t" ∷ codes "s" ∷ codes "x" ∷ []) ≡ None
unfolding request_of run_of is_refused rows_in run_command police_of clap_on_literals
three = refl

-- an empty name is a name, and a lone `-` is one
empty_and_dash : after_run ([] ∷ codes "-" ∷ [])
    ≡ runs_on [] (codes "-") None None
unfolding request_of run_of is_refused rows_in run_command police_of clap_on_literals
empty_and_dash = refl

-- ---- options: before, between and after the names, with `=` and without

saved_after : after_run (codes "t" ∷ codes "s" ∷ codes "--save" ∷ codes "d" ∷ [])
    ≡ runs None (Some (codes "d"))
unfolding request_of run_of is_refused rows_in run_command police_of clap_on_literals
saved_after = refl

saved_between : after_run (codes "t" ∷ codes "--save=d" ∷ codes "s" ∷ [])
    ≡ runs None (Some (codes "d"))
unfolding request_of run_of is_refused rows_in run_command police_of clap_on_literals
saved_between = refl

both_before : after_run (codes "--save" ∷ codes "d" ∷ codes "--capture=c" ∷ codes "t"
    ∷ codes "s" ∷ [])
    ≡ runs (Some (codes "c")) (Some (codes "d"))
unfolding request_of run_of is_refused rows_in run_command police_of clap_on_literals
both_before = refl

empty_value : after_run (codes "t" ∷ codes "s" ∷ codes "--save=" ∷ []) ≡ runs None (Some [])
unfolding request_of run_of is_refused rows_in run_command police_of clap_on_literals
empty_value = refl

dash_values : after_run (codes "t" ∷ codes "s" ∷ codes "--save=-x" ∷ codes "--capture"
    ∷ codes "-" ∷ [])
    ≡ runs (Some (codes "-")) (Some (codes "-x"))
unfolding request_of run_of is_refused rows_in run_command police_of clap_on_literals
dash_values = refl

-- behind `--` each word is a name
behind_dashes : after_run (codes "--" ∷ codes "--save" ∷ codes "s" ∷ [])
    ≡ runs_on (codes "--save") (codes "s") None None
unfolding request_of run_of is_refused rows_in run_command police_of clap_on_literals
behind_dashes = refl

kept : after_run (codes "t" ∷ codes "--ledger" ∷ codes "l" ∷ codes "s" ∷ codes "--verdicts=v" ∷ [])
    ≡ Some (Run (record t_s { ledger = Some (codes "l"); verdicts = Some (codes "v") }))
unfolding request_of run_of is_refused rows_in run_command police_of clap_on_literals
kept = refl

-- ---- what clap refuses

no_value : after_run (codes "t" ∷ codes "s" ∷ codes "--save" ∷ []) ≡ None
unfolding request_of run_of is_refused rows_in run_command police_of clap_on_literals
no_value = refl

dashes_for_value : after_run (codes "t" ∷ codes "s" ∷ codes "--save" ∷ codes "--" ∷ codes "d"
    ∷ []) ≡ None
unfolding request_of run_of is_refused rows_in run_command police_of clap_on_literals
dashes_for_value = refl

option_for_value : after_run (codes "t" ∷ codes "s" ∷ codes "--save" ∷ codes "-x" ∷ []) ≡ None
unfolding request_of run_of is_refused rows_in run_command police_of clap_on_literals
option_for_value = refl

option_for_name : after_run (codes "-x" ∷ codes "s" ∷ []) ≡ None
unfolding request_of run_of is_refused rows_in run_command police_of clap_on_literals
option_for_name = refl

part_of_option : after_run (codes "t" ∷ codes "s" ∷ codes "--sav" ∷ codes "d" ∷ []) ≡ None
unfolding request_of run_of is_refused rows_in run_command police_of clap_on_literals
part_of_option = refl

twice : after_run (codes "t" ∷ codes "s" ∷ codes "--save=d" ∷ codes "--save=d" ∷ []) ≡ None
unfolding request_of run_of is_refused rows_in run_command police_of clap_on_literals
twice = refl

help : after_run (codes "t" ∷ codes "s" ∷ codes "--help" ∷ []) ≡ None
unfolding request_of run_of is_refused rows_in run_command police_of clap_on_literals
help = refl

short_help : after_run (codes "-h" ∷ []) ≡ None
unfolding request_of run_of is_refused rows_in run_command police_of clap_on_literals
short_help = refl

version : after_run (codes "--version" ∷ []) ≡ None
unfolding request_of run_of is_refused rows_in run_command police_of clap_on_literals
version = refl

-- ---- the flag

flagged : after_run (codes "t" ∷ codes "--makers" ∷ codes "s" ∷ []) ≡ Some (Run (record t_s { makers = true }))
unfolding request_of run_of is_refused rows_in run_command police_of clap_on_literals
flagged = refl

flag_twice : after_run (codes "t" ∷ codes "s" ∷ codes "--makers" ∷ codes "--makers" ∷ []) ≡ None
unfolding request_of run_of is_refused rows_in run_command police_of clap_on_literals
flag_twice = refl

flag_with_value : after_run (codes "t" ∷ codes "s" ∷ codes "--makers=true" ∷ []) ≡ None
unfolding request_of run_of is_refused rows_in run_command police_of clap_on_literals
flag_with_value = refl

flag_for_value : after_run (codes "t" ∷ codes "s" ∷ codes "--save" ∷ codes "--makers" ∷ []) ≡ None
unfolding request_of run_of is_refused rows_in run_command police_of clap_on_literals
flag_for_value = refl

-- ---- a budget and a span

policed : after_run (codes "t" ∷ codes "--budget" ∷ codes "400" ∷ codes "s" ∷ codes "--span=1000000" ∷ [])
    ≡ Some (Run (record t_s { police = Some (record { budget = 400; span_us = 1000000 }) }))
unfolding request_of run_of is_refused rows_in run_command police_of number_in clap_on_literals
policed = refl

most : police_of (Some (codes "1099511627776")) (Some (codes "3600000000"))
    ≡ Some (Some (record { budget = 1099511627776; span_us = 3600000000 }))
unfolding police_of number_in
most = refl

budget_alone : after_run (codes "t" ∷ codes "s" ∷ codes "--budget" ∷ codes "400" ∷ []) ≡ None
unfolding request_of run_of is_refused rows_in run_command police_of clap_on_literals
budget_alone = refl

span_alone : after_run (codes "t" ∷ codes "s" ∷ codes "--span" ∷ codes "5" ∷ []) ≡ None
unfolding request_of run_of is_refused rows_in run_command police_of clap_on_literals
span_alone = refl

budget_too_great : police_of (Some (codes "1099511627777")) (Some (codes "5")) ≡ None
unfolding police_of number_in
budget_too_great = refl

no_budget : police_of (Some (codes "0")) (Some (codes "5")) ≡ None
unfolding police_of number_in
no_budget = refl

budget_with_sign : police_of (Some (codes "+4")) (Some (codes "5")) ≡ None
unfolding police_of number_in
budget_with_sign = refl

span_too_great : police_of (Some (codes "5")) (Some (codes "3600000001")) ≡ None
unfolding police_of number_in
span_too_great = refl

no_span : police_of (Some (codes "5")) (Some (codes "0")) ≡ None
unfolding police_of number_in
no_span = refl

-- ---- names that are the same

-- nothing of this name is written
same_reads : after_run (codes "t" ∷ codes "t" ∷ codes "--capture" ∷ codes "t" ∷ [])
    ≡ runs_on (codes "t") (codes "t") (Some (codes "t")) None
unfolding request_of run_of is_refused rows_in run_command police_of clap_on_literals
same_reads = refl

saves_to_topology : after_run (codes "t" ∷ codes "s" ∷ codes "--save" ∷ codes "t" ∷ []) ≡ None
unfolding request_of run_of is_refused rows_in run_command police_of clap_on_literals
saves_to_topology = refl

saves_to_script : after_run (codes "t" ∷ codes "s" ∷ codes "--save" ∷ codes "s" ∷ []) ≡ None
unfolding request_of run_of is_refused rows_in run_command police_of clap_on_literals
saves_to_script = refl

saves_to_capture : after_run (codes "t" ∷ codes "s" ∷ codes "--capture=c" ∷ codes "--save=c"
    ∷ []) ≡ None
unfolding request_of run_of is_refused rows_in run_command police_of clap_on_literals
saves_to_capture = refl

ledger_to_saved : after_run (codes "t" ∷ codes "s" ∷ codes "--save=c" ∷ codes "--ledger=c" ∷ []) ≡ None
unfolding request_of run_of is_refused rows_in run_command police_of clap_on_literals
ledger_to_saved = refl

ledger_to_verdicts : after_run (codes "t" ∷ codes "s" ∷ codes "--verdicts=c" ∷ codes "--ledger=c" ∷ []) ≡ None
unfolding request_of run_of is_refused rows_in run_command police_of clap_on_literals
ledger_to_verdicts = refl

-- ---- the other words

no_words : request_of [] ≡ None
unfolding request_of
no_words = refl

no_command : request_of (codes "fly" ∷ codes "t" ∷ codes "s" ∷ []) ≡ None
unfolding request_of
no_command = refl

-- `run` has to be the first word
option_first : request_of (codes "--save=d" ∷ codes "run" ∷ codes "t" ∷ codes "s" ∷ []) ≡ None
unfolding request_of
option_first = refl

hop : request_of (codes "hop" ∷ codes "000102030405060708090a0b0c0d0E0F" ∷ codes "f" ∷ [])
    ≡ Some (Hop (0 ∷ 1 ∷ 2 ∷ 3 ∷ 4 ∷ 5 ∷ 6 ∷ 7 ∷ 8 ∷ 9 ∷ 10 ∷ 11 ∷ 12 ∷ 13 ∷ 14 ∷ 15 ∷ [])
    (codes "f"))
unfolding request_of hop_of decode_pairs
hop = refl

hop_bad_key : request_of (codes "hop" ∷ codes "zz" ∷ codes "f" ∷ []) ≡ None
unfolding request_of hop_of
hop_bad_key = refl

hop_with_option : request_of (codes "hop" ∷ codes "000102030405060708090a0b0c0d0e0f" ∷ codes "f"
    ∷ codes "--save=d" ∷ []) ≡ None
unfolding request_of hop_of
hop_with_option = refl

-- the files may have one name
judge : request_of (codes "judge" ∷ codes "t" ∷ codes "l" ∷ codes "l" ∷ []) ≡ Some (Judge (codes "t") (codes "l") (codes "l"))
unfolding request_of judge_of
judge = refl

judge_two : request_of (codes "judge" ∷ codes "t" ∷ codes "l" ∷ []) ≡ None
unfolding request_of judge_of
judge_two = refl

judge_four : request_of (codes "judge" ∷ codes "t" ∷ codes "l" ∷ codes "v" ∷ codes "v" ∷ []) ≡ None
unfolding request_of judge_of
judge_four = refl
