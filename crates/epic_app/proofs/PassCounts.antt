-- The verdicts of passes, counted one pass after the other.
use Rattle.std.proofs.Common.{◌≡◌, ℕ, ◌+◌, ◌<◌, ◌≤◌, List, [], ◌∷◌, ◌++◌, length, drop, get_or, flat_map, refl, sym, ap, ◌∙◌, length-append}
use Rattle.std.proofs.lemmas.List.{drop_more, drop_all}
use Rattle.epic_num.specs.declared.passed.Passed.{Passed}
use Rattle.epic_num.specs.declared.verdict.Verdict.{Verdict}
use Rattle.epic_text.specs.declared.counts.Counts.{Counts}
use Rattle.epic_text.specs.Counts.{counted}
use Rattle.epic_app.specs.StepLines.{count_all}

count_all-append : (c : Counts) (vs ws : List Verdict)
    → count_all c (vs ++ ws) ≡ count_all (count_all c vs) ws
unfolding count_all
count_all-append c [] ws = refl
count_all-append c (v ∷ vs) ws = count_all-append (counted c v) vs ws

abbrev all_of : List Passed → List Verdict
all_of passes = flat_map (λ (p : Passed). p.verdicts.items) passes

-- the verdicts of a pass and of those behind it
module _ (ps : List Passed) (i : ℕ) (d x : Passed) (vs : List Verdict) (within : i < length ps)
    (there : x ≡ get_or ps i d) (verdicts : vs ≡ x.verdicts.items) where
  rest : all_of (drop i ps) ≡ vs ++ all_of (drop (i + 1) ps)
  rest =
      ap (λ (xs : List Passed). all_of xs) (drop_more ps i d within)
      ∙ ap (λ (ws : List Verdict). ws ++ all_of (drop (i + 1) ps))
      (sym (verdicts ∙ ap (λ (y : Passed). y.verdicts.items) there))

  pub pass_long : length (all_of (drop i ps)) ≡ length vs + length (all_of (drop (i + 1) ps))
  pass_long = ap (λ (ws : List Verdict). length ws) rest
      ∙ length-append vs (all_of (drop (i + 1) ps))

  pub pass_step : (c now all : Counts) → now ≡ count_all c vs
      → count_all c (all_of (drop i ps)) ≡ all → count_all now (all_of (drop (i + 1) ps)) ≡ all
  pass_step c now all is counts =
      ap (λ (k : Counts). count_all k (all_of (drop (i + 1) ps))) is
      ∙ (sym (count_all-append c vs (all_of (drop (i + 1) ps)))
      ∙ (ap (count_all c) (sym rest) ∙ counts))

pub pass_end : (ps : List Passed) (i : ℕ) (c all : Counts) → length ps ≤ i
    → count_all c (all_of (drop i ps)) ≡ all → c ≡ all
unfolding count_all
pass_end ps i c all past counts =
    sym (ap (λ (xs : List Passed). count_all c (all_of xs)) (drop_all i ps past)) ∙ counts

pub pass_none : (ps : List Passed) (i : ℕ) → length ps ≤ i → length (all_of (drop i ps)) ≡ 0
pass_none ps i past = ap (λ (xs : List Passed). length (all_of xs)) (drop_all i ps past)
