-- What the answers of the calls mean.
use Rattle.std.specs.Prelude.{◌≡◌, IfSome, Option, Some, None, Result, Ok, Err, ⊤}
use Rattle.std.specs.Option.{option_map}
use Rattle.epic_words.specs.Request.{Request, Hop, Run, Gen, Judge, Policing, RunRequest}
use Rattle.epic_words.specs.declared.hop.HopWords.{HopWords}
use Rattle.epic_words.specs.declared.police.PoliceWords.{PoliceWords}
use Rattle.epic_words.specs.declared.run.RunWords.{RunWords}
use Rattle.epic_words.specs.declared.generate.GenWords.{GenWords}
use Rattle.epic_words.specs.declared.judge.JudgeWords.{JudgeWords}
use Rattle.epic_words.specs.declared.asked.Asked.{Asked}
use Rattle.epic_words.specs.declared.asked.Asked.TheVariants as asked
use Rattle.epic_words.specs.declared.error.WordsError.{WordsError}
use Rattle.epic_words.specs.declared.error.WordsError.TheVariants.{Refused, OutOfMemory}

-- the request of the words of `hop`
abbrev pub hop_in : HopWords → Request
hop_in w = Hop w.key w.file.now

-- the limits of a source
abbrev pub policing_in : PoliceWords → Policing
policing_in w = record { budget = w.budget; span_us = w.span_us }

-- what the words of `run` name
abbrev pub names_in : RunWords → RunRequest
names_in w = record {
  topology = w.topology.now;
  script = w.script.now;
  capture = option_map (λ name. name.now) w.capture;
  save = option_map (λ name. name.now) w.save;
  ledger = option_map (λ name. name.now) w.ledger;
  verdicts = option_map (λ name. name.now) w.verdicts;
  makers = w.makers;
  police = option_map policing_in w.police;
}

-- the request of the words of `run`
abbrev pub run_in : RunWords → Request
run_in w = Run (names_in w)

-- P of the budget and the span, where `run` is asked for with them
abbrev pub IfPoliced : Asked → (PoliceWords → Type 0) → Type 0
IfPoliced (asked.Hop w) P = ⊤
IfPoliced (asked.Run w) P = IfSome w.police P
IfPoliced (asked.Gen w) P = ⊤
IfPoliced (asked.Judge w) P = ⊤

-- the request of the words of `gen`
abbrev pub gen_in : GenWords → Request
gen_in w = Gen w.seed w.packets

-- the request of the words of `judge`
abbrev pub judge_in : JudgeWords → Request
judge_in w = Judge w.topology.now w.ledger.now w.verdicts.now

-- the request of the words of a command
abbrev pub request_in : Asked → Request
request_in (asked.Hop w) = hop_in w
request_in (asked.Run w) = run_in w
request_in (asked.Gen w) = gen_in w
request_in (asked.Judge w) = judge_in w

-- the words ask for what was answered, or they are no command, or memory ran out
abbrev pub AsksFor : {W R : Type 0} → (W → R) → Option R → Result W WordsError → Type 0
AsksFor meaning request (Ok w) = request ≡ Some (meaning w)
AsksFor meaning request (Err Refused) = request ≡ None
AsksFor meaning request (Err OutOfMemory) = ⊤
