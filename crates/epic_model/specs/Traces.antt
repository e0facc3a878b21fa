-- What a step did: its answer, the state after it, and its passages in order. Each passage has the ledger before it.
use Rattle.std.specs.Prelude.{ℕ, ◌+◌, List, []}
use Rattle.epic_num.specs.declared.answer.Answer.{Answer}
use Rattle.epic_num.specs.declared.answer.Answer.TheVariants.{Refused}
use Rattle.epic_num.specs.declared.answer.Refusal.{Refusal}
use Rattle.epic_num.specs.declared.passed.Passed.{Passed}
use Rattle.epic_num.specs.declared.passed.Place.{Place}
use Rattle.epic_ledger.specs.History.{History}
use Rattle.epic_ledger.specs.OneMore.{with_event}
use Rattle.epic_ledger.specs.declared.event.Event.{Event}
use Rattle.epic_model.specs.Passing.{Happened}
use Rattle.epic_model.specs.State.{State}

-- a packet's bytes at a place, as they came in, the ledger before, and what became of them
pub record Passage : Type 0 where
  pub before : History
  pub place : Place
  pub came : List ℕ
  pub happened : Happened

-- a passage as an answer tells it
unfoldable pub shown : Passage → Passed
shown x = record { place = x.place; result = x.happened.result; emission = x.happened.emission; verdicts = record { items = x.happened.verdicts } }

pub record Stepped : Type 0 where
  pub answer : Answer
  pub state : State
  pub passages : List Passage

-- nothing happened but that there was a step
abbrev pub answered : State → Answer → Stepped
answered s answer = record { answer = answer; state = record s { steps = s.steps + 1 }; passages = [] }

abbrev pub refused : State → Refusal → Stepped
refused s refusal = answered s (Refused refusal)

-- one thing happened
abbrev pub recorded : State → Event → Answer → Stepped
recorded s e answer = record {
  answer = answer;
  state = record s { steps = s.steps + 1; history = with_event s.history e };
  passages = [];
}
