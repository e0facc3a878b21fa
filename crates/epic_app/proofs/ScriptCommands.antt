-- A script has few commands.
use Rattle.std.proofs.Common.{◌≡◌, ℕ, ◌+◌, ◌≤◌, ltb, Bool, true, false, cond, List, [], ◌∷◌, length, Result, Ok, Err, refl, ap, arith}
use Rattle.std.proofs.lemmas.Bool.Decides.{nat_tests}
use Rattle.epic_text.specs.Script.{Fault, Rule, commands_after, commands_of, with_front}
use Rattle.epic_text.specs.Lines.{lines}
use Rattle.epic_text.specs.Script.{numbered}
use Rattle.epic_text.specs.declared.script.ScriptKind.{ScriptKind}
use Rattle.epic_text.specs.declared.script.ScriptKind.TheVariants.{TooMany}

abbrev commands_or_none : {C : Type 0} → Result (List C) Fault → List C
commands_or_none (Ok commands) = commands
commands_or_none (Err fault) = []

same_length : {C : Type 0} (xs ys : List C) → ◌≡◌ {A = Result (List C) Fault} (Ok xs) (Ok ys) → length xs ≡ length ys
same_length xs ys is = ap (λ r. length (commands_or_none r)) is

below : (count : ℕ) → ltb count 524288 ≡ true → count + 1 ≤ 524288
below count is = grind (arith, nat_tests)

few_after : {C : Type 0} (count : ℕ) (xs : List (ℕ × Result C ScriptKind)) (commands : List C) → count ≤ 524288
    → commands_after count xs ≡ Ok commands → count + length commands ≤ 524288
few_after count [] commands low is = omega (arith, low, same_length [] commands is)
few_after count ((line, Err kind) ∷ more) commands low is = absurd (cc)
few_after {C} count ((line, Ok c) ∷ more) commands low is =
    by (ltb count 524288) (commands_after (count + 1) more) refl refl (λ rest within e. few_after (count + 1) more rest within e) is
  where
    by : (b : Bool) (r : Result (List C) Fault) → ltb count 524288 ≡ b → commands_after (count + 1) more ≡ r
        → ((rest : List C) → count + 1 ≤ 524288 → commands_after (count + 1) more ≡ Ok rest → count + 1 + length rest ≤ 524288)
        → cond b (with_front (c ∷ []) r) (Err (line, TooMany)) ≡ Ok commands → count + length commands ≤ 524288
    by true (Ok rest) within e later same = omega (arith, later rest (below count within) e, same_length (c ∷ rest) commands same)
    by true (Err fault) within e later same = absurd (cc)
    by false r within e later same = absurd (cc)

pub few_commands : {C : Type 0} (rule : Rule C) (text : List ℕ) (commands : List C) → commands_of rule text ≡ Ok commands → length commands ≤ 524288
few_commands rule text commands is = omega (arith, few_after 0 (numbered rule 1 (lines text)) commands (omega arith) is)
