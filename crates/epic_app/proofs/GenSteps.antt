-- The steps of a generated run: its report so far, and the lines at its end.
use Rattle.std.proofs.Common.{◌≡◌, ℕ, ◌+◌, ◌<◌, ◌≤◌, ltb, ◌||◌, List, [], ◌++◌, length, take, get_or, Some, sym, ap, subst, ◌∙◌, arith, take_all}
use Rattle.std.specs.List.{slice_get}
use Rattle.std.proofs.lemmas.Bool.Decides.{nat_tests}
use Rattle.std.proofs.lemmas.List.{take_more}
use Rattle.std.proofs.lemmas.Option.{get_or_from_slice_get, slice_get_within}
use Rattle.epic_num.specs.declared.command.Command.{Command}
use Rattle.epic_num.specs.declared.command.Command.TheVariants as command
use Rattle.epic_topo.specs.Network.{Network}
use Rattle.epic_text.specs.declared.counts.Counts.{Counts}
use Rattle.epic_text.specs.Counts.{counts_of, end_line}
use Rattle.epic_model.specs.State.{start}
use Rattle.epic_model.specs.World.{Fits}
use Rattle.epic_world.specs.Run.{done_by, run, run_from, state_after}
use Rattle.epic_world.specs.Stepped.{IsPossible}
use Rattle.epic_gen.specs.Script.{generated}
use Rattle.epic_app.specs.Showing.{Showing}
use Rattle.epic_app.specs.Along.{along}
use Rattle.epic_app.specs.Captures.{shown}
use Rattle.epic_app.specs.Generating.{digest_line, gen_text, plainly}
use Rattle.epic_app.specs.RunReport.{all_verdicts, has_alarm, run_text, step_text, steps_text}
use Rattle.epic_app.proofs.AlongLaws.{along-last}
use Rattle.epic_app.proofs.AllOf.{all_map}
use Rattle.epic_app.proofs.GenClaims.{all_fit}
use Rattle.epic_app.proofs.RunLemmas.{alarms, length-run_from, run_last}

-- the report with one step more
pub next_text : (show : Showing) (t : Network) (cs : List Command) (i : ℕ) (d : Command) → i < length cs
    → steps_text show t (run_from t start (take (i + 1) cs))
    ≡ steps_text show t (run_from t start (take i cs))
    ++ step_text show t (run_from t start (take i cs)) (done_by t (state_after t start (take i cs)) (get_or cs i d))
unfolding steps_text
next_text show t cs i d within =
    ap (λ xs. along (step_text show t) [] (run_from t start xs)) (take_more cs i d within)
    ∙ (ap (along (step_text show t) []) (run_last t start (take i cs) (get_or cs i d))
    ∙ along-last (step_text show t) [] (run_from t start (take i cs)) (done_by t (state_after t start (take i cs)) (get_or cs i d)))

-- a script's last step is shown under its own number
shown_same : (n : ℕ) → shown n n ≡ n
unfolding shown
shown_same n = grind (arith, nat_tests)

-- the lines at the end, of a script of n commands
pub gen_whole : (t : Network) (cs : List Command) (i n : ℕ) (k : Counts) (m : List ℕ) → length cs ≡ n → n ≤ i
    → k ≡ counts_of 0 (all_verdicts (run_from t start (take i cs))) → m ≡ steps_text (plainly n) t (run_from t start (take i cs))
    → end_line (record k { steps = n }) ++ digest_line (m ++ end_line (record k { steps = n })) ≡ gen_text t (run t cs)
unfolding gen_text run_text run
gen_whole t cs i n k m long past counts message =
    let all : take i cs ≡ cs = take_all i cs (omega (arith, long, past)) in
    let steps = run_from t start cs in
    let many : n ≡ length steps = sym (length-run_from t start cs ∙ long) in
    let counted : k ≡ counts_of 0 (all_verdicts steps) = counts ∙ ap (λ xs. counts_of 0 (all_verdicts (run_from t start xs))) all in
    let text : m ≡ steps_text (plainly (length steps)) t steps = message ∙ (ap (λ xs. steps_text (plainly n) t (run_from t start xs)) all ∙ ap (λ a. steps_text (plainly a) t steps) many) in
    let ended : end_line (record k { steps = n }) ≡ end_line (counts_of (length steps) (all_verdicts steps)) =
    ap (λ (c : Counts). end_line (record c { steps = n })) counted
    ∙ ap (λ a. end_line (counts_of a (all_verdicts steps))) many in
    let shows : end_line (record k { steps = n }) ≡ end_line (counts_of (shown (length steps) (length steps)) (all_verdicts steps)) =
    ended ∙ ap (λ a. end_line (counts_of a (all_verdicts steps))) (sym (shown_same (length steps))) in
    λ j. ended j ++ digest_line (text j ++ shows j)

-- and whether some verdict is forged or collided
pub gen_alarm : (t : Network) (cs : List Command) (i n : ℕ) (k : Counts) → length cs ≡ n → n ≤ i
    → k ≡ counts_of 0 (all_verdicts (run_from t start (take i cs))) → (ltb 0 k.forged || ltb 0 k.collided) ≡ has_alarm (run t cs)
unfolding has_alarm run
gen_alarm t cs i n k long past counts =
    let all : take i cs ≡ cs = take_all i cs (omega (arith, long, past)) in
    let counted : k ≡ counts_of 0 (all_verdicts (run_from t start cs)) = counts ∙ ap (λ xs. counts_of 0 (all_verdicts (run_from t start xs))) all in
    ap (λ (c : Counts). ltb 0 c.forged || ltb 0 c.collided) counted ∙ alarms (all_verdicts (run_from t start cs))

-- ---- each command is one that can be done

possible_so : (c : Command) → Fits c → IsPossible c
unfolding IsPossible
possible_so (command.At moment) is = is
possible_so (command.Originate a out exp) is = tt
possible_so (command.Extend parent out exp) is = tt
possible_so (command.Fetch source owner epoch) is = tt
possible_so (command.Paths from to) is = tt
possible_so (command.Send version level src dst segments payload) is = is.0
possible_so (command.Turn a iface bytes) is = tt
possible_so (command.Arrive host bytes) is = tt
possible_so (command.Pass emission) is = tt
possible_so (command.Carry emission) is = tt
possible_so (command.Reveal holder) is = tt
possible_so (command.Roll a) is = tt

pub possible_at : (seed packets place : ℕ) (c : Command) → packets ≤ 100000 → slice_get (generated seed packets) place ≡ Some c → IsPossible c
possible_at seed packets place c few is =
    let cs = generated seed packets in
    let all = all_map Fits IsPossible cs possible_so (all_fit seed packets few) in
    subst IsPossible (get_or_from_slice_get cs place c c is) (all place c (slice_get_within cs place c is))
