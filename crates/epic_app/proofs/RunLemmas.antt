-- A run, step by step.
use Rattle.std.proofs.Common.{◌≡◌, ℕ, suc, ◌+◌, ◌<◌, ◌≤◌, Bool, true, false, ◌||◌, ltb, cond, List, [], ◌∷◌, ◌++◌, length, take, drop, get_or, count_by, flat_map, refl, sym, ap, ◌∙◌, arith, append-nil, append_assoc, take_all, zero-add}
use Rattle.std.specs.List.{list_any}
use Rattle.std.proofs.lemmas.Bool.Decides.{nat_tests}
use Rattle.std.proofs.lemmas.List.{take_more, drop_more, drop_all, take-append-drop}
use Rattle.std.proofs.lemmas.List.Concat.{flat_map-append}
use Rattle.std.proofs.lemmas.List.Folds.{list_any-append}
use Rattle.std.proofs.lemmas.List.Sums.{sum_by-cons}
use Rattle.epic_num.specs.declared.command.Command.{Command}
use Rattle.epic_num.specs.declared.verdict.Verdict.{Verdict}
use Rattle.epic_topo.specs.Network.{Network}
use Rattle.epic_text.specs.declared.counts.Counts.{Counts}
use Rattle.epic_text.specs.Counts.{counted, counts_of, is_forged, is_collided}
use Rattle.epic_text.proofs.CountLemmas.{counts_of-last}
use Rattle.epic_model.specs.State.{State, start}
use Rattle.epic_model.specs.Steps.{next}
use Rattle.epic_world.specs.Run.{Done, done_by, run_from, state_after, run}
use Rattle.epic_app.specs.Kept.{Kept, opening}
use Rattle.epic_app.specs.Showing.{Showing}
use Rattle.epic_app.specs.Acts.{Act}
use Rattle.epic_app.specs.Along.{along}
use Rattle.epic_app.specs.Doing.{step_acts, steps_acts}
use Rattle.epic_app.specs.Noting.{shows_alarm}
use Rattle.epic_app.specs.RunReport.{all_verdicts, verdicts_in, is_alarm}
use Rattle.epic_app.specs.StepLines.{count_all}
use Rattle.epic_app.proofs.AlongLaws.{along-append, along-last}

-- ---- commands in two parts

pub run_from-append : (t : Network) (s : State) (xs ys : List Command) → run_from t s (xs ++ ys) ≡ run_from t s xs ++ run_from t (state_after t s xs) ys
unfolding run_from state_after
run_from-append t s [] ys = refl
run_from-append t s (c ∷ xs) ys = ap (λ ds. done_by t s c ∷ ds) (run_from-append t (next t s c).state xs ys)

pub state_after-append : (t : Network) (s : State) (xs ys : List Command) → state_after t s (xs ++ ys) ≡ state_after t (state_after t s xs) ys
unfolding state_after
state_after-append t s [] ys = refl
state_after-append t s (c ∷ xs) ys = state_after-append t (next t s c).state xs ys

pub length-run_from : (t : Network) (s : State) (cs : List Command) → length (run_from t s cs) ≡ length cs
unfolding run_from
length-run_from t s [] = refl
length-run_from t s (c ∷ cs) = ap suc (length-run_from t (next t s c).state cs)

-- one more command at the end
pub run_last : (t : Network) (s : State) (xs : List Command) (c : Command) → run_from t s (xs ++ c ∷ []) ≡ run_from t s xs ++ done_by t (state_after t s xs) c ∷ []
unfolding run_from
run_last t s xs c = run_from-append t s xs (c ∷ [])

pub state_last : (t : Network) (s : State) (xs : List Command) (c : Command) → state_after t s (xs ++ c ∷ []) ≡ (next t (state_after t s xs) c).state
unfolding state_after
state_last t s xs c = state_after-append t s xs (c ∷ [])

-- ---- their texts and verdicts

pub or_none : (b : Bool) → b || false ≡ b
or_none true = refl
or_none false = refl

pub or_assoc : (x y z : Bool) → x || (y || z) ≡ (x || y) || z
or_assoc true y z = refl
or_assoc false y z = refl

pub any_last : {A : Type 0} (f : A → Bool) (xs : List A) (y : A) → list_any f (xs ++ y ∷ []) ≡ list_any f xs || f y
any_last f xs y = list_any-append f xs (y ∷ []) ∙ ap (λ b. list_any f xs || b) (or_none (f y))

pub acts_last : (kept : List Kept) (show : Showing) (t : Network) (before : List Done) (s : State) (xs : List Command) (c : Command)
    → along (step_acts kept show t) before (run_from t s (xs ++ c ∷ []))
    ≡ along (step_acts kept show t) before (run_from t s xs) ++ step_acts kept show t (before ++ run_from t s xs) (done_by t (state_after t s xs) c)
acts_last kept show t before s xs c =
    ap (along (step_acts kept show t) before) (run_last t s xs c)
    ∙ along-last (step_acts kept show t) before (run_from t s xs) (done_by t (state_after t s xs) c)

pub verdicts_last : (t : Network) (s : State) (xs : List Command) (c : Command)
    → all_verdicts (run_from t s (xs ++ c ∷ [])) ≡ all_verdicts (run_from t s xs) ++ verdicts_in (next t (state_after t s xs) c).answer
unfolding all_verdicts done_by
verdicts_last t s xs c =
    ap (flat_map (λ (d : Done). verdicts_in d.answer)) (run_last t s xs c)
    ∙ (flat_map-append (λ (d : Done). verdicts_in d.answer) (run_from t s xs) (done_by t (state_after t s xs) c ∷ [])
    ∙ ap (λ vs. flat_map (λ (d : Done). verdicts_in d.answer) (run_from t s xs) ++ vs) (append-nil (verdicts_in (next t (state_after t s xs) c).answer)))

-- a maker among them is an alarm
pub alarms_last : (show : Showing) (t : Network) (s : State) (xs : List Command) (c : Command)
    → list_any (shows_alarm show t) (run_from t s (xs ++ c ∷ []))
    ≡ list_any (shows_alarm show t) (run_from t s xs) || shows_alarm show t (done_by t (state_after t s xs) c)
alarms_last show t s xs c =
    ap (list_any (shows_alarm show t)) (run_last t s xs c)
    ∙ any_last (shows_alarm show t) (run_from t s xs) (done_by t (state_after t s xs) c)

-- all acts, in those of a front of the commands and the rest
pub acts_front : (kept : List Kept) (show : Showing) (t : Network) (before : List Done) (s : State) (xs : List Command) (c : Command) (ys : List Command)
    → along (step_acts kept show t) before (run_from t s (xs ++ c ∷ ys))
    ≡ along (step_acts kept show t) before (run_from t s xs)
    ++ (step_acts kept show t (before ++ run_from t s xs) (done_by t (state_after t s xs) c)
    ++ along (step_acts kept show t) ((before ++ run_from t s xs) ++ done_by t (state_after t s xs) c ∷ []) (run_from t (next t (state_after t s xs) c).state ys))
unfolding run_from
acts_front kept show t before s xs c ys =
    ap (along (step_acts kept show t) before) (run_from-append t s xs (c ∷ ys))
    ∙ along-append (step_acts kept show t) before (run_from t s xs) (done_by t (state_after t s xs) c ∷ run_from t (next t (state_after t s xs) c).state ys)

-- ---- counts

pub count_all-counts : (steps : ℕ) (vs ws : List Verdict) → count_all (counts_of steps vs) ws ≡ counts_of steps (vs ++ ws)
unfolding count_all
count_all-counts steps vs [] = ap (counts_of steps) (sym (append-nil vs))
count_all-counts steps vs (w ∷ ws) =
    ap (λ c. count_all c ws) (sym (counts_of-last steps vs w))
    ∙ (count_all-counts steps (vs ++ w ∷ []) ws ∙ ap (counts_of steps) (append_assoc vs (w ∷ []) ws))

-- an alarm is counted
one_alarm : (b c : Bool) (m n : ℕ) (r : Bool) → ltb 0 m || ltb 0 n ≡ r → ltb 0 (cond b 1 0 + m) || ltb 0 (cond c 1 0 + n) ≡ (b || c) || r
one_alarm true c m n r is = grind (arith, nat_tests)
one_alarm false true m n r is = grind (arith, nat_tests)
one_alarm false false m n r is = rw (zero-add m, zero-add n) is

pub alarms : (vs : List Verdict) → (ltb 0 (count_by is_forged vs) || ltb 0 (count_by is_collided vs)) ≡ list_any is_alarm vs
alarms [] = refl
alarms (v ∷ vs) =
    rw (sum_by-cons (λ x. cond (is_forged x) 1 0) v vs, sum_by-cons (λ x. cond (is_collided x) 1 0) v vs)
    (one_alarm (is_forged v) (is_collided v) (count_by is_forged vs) (count_by is_collided vs) (list_any is_alarm vs) (alarms vs))

-- ---- loops

-- one verdict more is counted
pub count_step : (c : Counts) (vs : List Verdict) (i : ℕ) (d : Verdict) (now : Counts) (all : Counts) → i < length vs → now ≡ counted c (get_or vs i d)
    → count_all c (drop i vs) ≡ all → count_all now (drop (i + 1) vs) ≡ all
unfolding count_all
count_step c vs i d now all within is counts =
    ap (λ k. count_all k (drop (i + 1) vs)) is ∙ (sym (ap (count_all c) (drop_more vs i d within)) ∙ counts)

pub count_end : (c : Counts) (vs : List Verdict) (i : ℕ) (all : Counts) → length vs ≤ i → count_all c (drop i vs) ≡ all → c ≡ all
unfolding count_all
count_end c vs i all past counts = sym (ap (count_all c) (drop_all i vs past)) ∙ counts

-- the acts of the opening, and of the commands up to a place
abbrev pub acts_until : List Kept → Showing → Network → List Command → ℕ → List Act
acts_until kept show t cs i = opening kept ++ along (step_acts kept show t) [] (run_from t start (take i cs))

-- where the commands up to a place were done, one more command is
module _ (kept : List Kept) (show : Showing) (t : Network) (cs : List Command) (i : ℕ) (d : Command) (within : i < length cs) where
  next_front : take (i + 1) cs ≡ take i cs ++ get_or cs i d ∷ []
  next_front = take_more cs i d within

  pub next_state : state_after t start (take (i + 1) cs) ≡ (next t (state_after t start (take i cs)) (get_or cs i d)).state
  next_state = ap (state_after t start) next_front ∙ state_last t start (take i cs) (get_or cs i d)

  pub next_steps : run_from t start (take (i + 1) cs) ≡ run_from t start (take i cs) ++ done_by t (state_after t start (take i cs)) (get_or cs i d) ∷ []
  next_steps = ap (run_from t start) next_front ∙ run_last t start (take i cs) (get_or cs i d)

  pub next_verdicts : all_verdicts (run_from t start (take (i + 1) cs))
      ≡ all_verdicts (run_from t start (take i cs)) ++ verdicts_in (next t (state_after t start (take i cs)) (get_or cs i d)).answer
  next_verdicts = ap (λ xs. all_verdicts (run_from t start xs)) next_front ∙ verdicts_last t start (take i cs) (get_or cs i d)

  pub next_alarm : list_any (shows_alarm show t) (run_from t start (take (i + 1) cs))
      ≡ list_any (shows_alarm show t) (run_from t start (take i cs)) || shows_alarm show t (done_by t (state_after t start (take i cs)) (get_or cs i d))
  next_alarm = ap (λ xs. list_any (shows_alarm show t) (run_from t start xs)) next_front ∙ alarms_last show t start (take i cs) (get_or cs i d)

  -- all acts begin with those that were done and those of this command
  pub run_front : (more : List Act) × (steps_acts kept show t (run t cs) ≡ acts_until kept show t cs i
      ++ (step_acts kept show t (run_from t start (take i cs)) (done_by t (state_after t start (take i cs)) (get_or cs i d)) ++ more))
  unfolding steps_acts run
  run_front =
      let c = get_or cs i d in
      let s = state_after t start (take i cs) in
      let f = step_acts kept show t in
      let steps = run_from t start (take i cs) in
      let front = along f [] steps in
      let step = f steps (done_by t s c) in
      let rest = along f (steps ++ done_by t s c ∷ []) (run_from t (next t s c).state (drop (i + 1) cs)) in
      let whole : cs ≡ take i cs ++ c ∷ drop (i + 1) cs = sym (take-append-drop i cs) ∙ ap (λ ys. take i cs ++ ys) (drop_more cs i d within) in
      let all : along f [] (run_from t start cs) ≡ front ++ (step ++ rest) =
      ap (λ xs. along f [] (run_from t start xs)) whole ∙ acts_front kept show t [] start (take i cs) c (drop (i + 1) cs) in (
        rest,
        ap (λ acts. opening kept ++ acts) all ∙ sym (append_assoc (opening kept) front (step ++ rest)),
      )

-- all acts begin with the opening
pub run_opening : (kept : List Kept) (show : Showing) (t : Network) (cs : List Command) → (more : List Act) × (steps_acts kept show t (run t cs) ≡ opening kept ++ more)
unfolding steps_acts
run_opening kept show t cs = (_, refl)

-- after all commands they are all acts
pub run_whole : (kept : List Kept) (show : Showing) (t : Network) (cs : List Command) (i : ℕ) → length cs ≤ i
    → steps_acts kept show t (run t cs) ≡ acts_until kept show t cs i
unfolding steps_acts run
run_whole kept show t cs i past = ap (λ xs. opening kept ++ along (step_acts kept show t) [] (run_from t start xs)) (sym (take_all i cs past))
