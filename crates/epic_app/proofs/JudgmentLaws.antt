-- What is said of two files is the judgment on them.
use Rattle.std.proofs.Common.{◌≡◌, ℕ, ◌+◌, ◌<◌, ◌≤◌, Bool, true, false, cond, ltb, not, List, [], ◌∷◌, length, get_or, Option, Some, None, Result, Ok, Err, refl, sym, ap, ◌∙◌, subst, arith}
use Rattle.std.specs.Bool.{Decides}
use Rattle.std.specs.List.{slice_get, position, position_or_len}
use Rattle.std.proofs.lemmas.Bool.Decides.{nat_tests}
use Rattle.std.proofs.lemmas.List.Quantifiers.{position-Some}
use Rattle.std.proofs.lemmas.List.Sums.{fails_before_first, position_or_len_is}
use Rattle.std.proofs.lemmas.Option.{get_or_from_slice_get, slice_get-get_or, slice_get_within}
use Rattle.epic_topo.specs.Network.{Network}
use Rattle.epic_judging.specs.declared.judged.Judged.{Judged}
use Rattle.epic_judging.specs.declared.judged.Judged.TheVariants.{Yes, No}
use Rattle.epic_judging.specs.declared.judged.JudgeError.{JudgeError}
use Rattle.epic_judging.specs.declared.judged.JudgeError.TheVariants.{Ledger, Verdicts, OutOfMemory}
use Rattle.epic_judging.specs.Judgment.{Claim, claims_in, AllTrue, FirstFalse, IsAnswer, IsJudgment, IsSaid, IsTrueClaim, TrueBefore}
use Rattle.epic_judging.specs.Laws.{JudgmentsAreDecided}
use Rattle.epic_app.specs.JudgeEnding.{Answers}
use Rattle.epic_app.specs.JudgeReport.{is_true, judgment, said, said_of}

-- ---- the first that isn't true

module _ (decided : JudgmentsAreDecided) (t : Network) where
  is_true-Decides : (c : Claim) → Decides (is_true t c) (IsTrueClaim t c)
  unfolding is_true
  is_true-Decides c = decided t c.facts c.acceptance c.line

  abbrev is_false : Claim → Bool
  is_false c = not (is_true t c)

  passed : (c : Claim) → is_false c ≡ false → IsTrueClaim t c
  passed c e = (is_true-Decides c).0 (by (is_true t c) e)
    where
      by : (b : Bool) → not b ≡ false → b ≡ true
      by true h = refl
      by false h = cc

  passes : (c : Claim) → IsTrueClaim t c → is_false c ≡ false
  passes c is = ap not ((is_true-Decides c).1 is)

  fails : (c : Claim) → is_false c ≡ true → IsTrueClaim t c → ⊥
  fails c e is = cc (e, passes c is)

  failed : (c : Claim) → (IsTrueClaim t c → ⊥) → is_false c ≡ true
  failed c none = by (is_true t c) refl
    where
      by : (b : Bool) → is_true t c ≡ b → not b ≡ true
      by true e = absurd (none ((is_true-Decides c).0 e))
      by false e = refl

  -- those before the first that fails are true
  true_before : (all : List Claim) (n : ℕ) → n ≤ position_or_len is_false all → TrueBefore t all n
  true_before all n most k c lt at =
      let here : get_or all k c ≡ c = get_or_from_slice_get all k c c at in
      passed c (subst (λ d. is_false d ≡ false) here (fails_before_first is_false all k c (omega arith)))

  all_pass : (all : List Claim) → position is_false all ≡ None → length all ≤ position_or_len is_false all
  all_pass all e = grind (arith, nat_tests)

  first_is : (all : List Claim) (n : ℕ) → position is_false all ≡ Some n → n ≤ position_or_len is_false all
  first_is all n e = grind (arith, nat_tests)

  said_is : (all : List Claim) (first : Option ℕ) → position is_false all ≡ first → IsSaid t all (said (length all) first)
  said_is all None e = (refl, true_before all (length all) (all_pass all e))
  said_is [] (Some n) e = absurd (cc)
  said_is (c ∷ more) (Some n) e =
      let all = c ∷ more in
      let first = position-Some is_false all n c e in (
        refl,
        record {
          index = n;
          claim = get_or all n c;
          number_is = omega arith;
          there = slice_get-get_or all n c first.0;
          is_false = fails (get_or all n c) first.1;
          before = true_before all n (first_is all n e);
        },
      )

  -- what is said is the judgment
  judgment_holds-of : (told : Result (List Claim) JudgeError) (answer : Judged) → said_of t told ≡ Ok answer → IsAnswer t told (Ok answer)
  judgment_holds-of (Err fault) answer e = absurd (cc)
  judgment_holds-of (Ok all) answer e =
      subst (λ r. IsAnswer t (Ok all) r) e (said_is all (position is_false all) refl)

  pub judgment_holds : (ledger verdicts : List ℕ) (answer : Judged) → judgment t ledger verdicts ≡ Ok answer → IsJudgment t ledger verdicts (Ok answer)
  unfolding judgment
  judgment_holds ledger verdicts answer e = judgment_holds-of (claims_in t ledger verdicts) answer e

  -- ---- and the judgment is what is said

  place_is : (all : List Claim) (n : ℕ) → position_or_len is_false all ≡ n → position is_false all ≡ cond (ltb n (length all)) (Some n) None
  place_is all n e = ap (λ (k : ℕ). cond {A = Option ℕ} (ltb k (length all)) (Some k) None) e

  none_at : (n : ℕ) → cond {A = Option ℕ} (ltb n n) (Some n) None ≡ None
  none_at n = grind (arith, nat_tests)

  some_at : (n m : ℕ) → n < m → cond {A = Option ℕ} (ltb n m) (Some n) None ≡ Some n
  some_at n m lt = grind (arith, nat_tests)

  passes_at : (all : List Claim) (n k : ℕ) (d : Claim) → TrueBefore t all n → k < n → k < length all → is_false (get_or all k d) ≡ false
  passes_at all n k d before lt within =
      passes (get_or all k d) (before k (get_or all k d) lt (slice_get-get_or all k d within))

  none_false : (all : List Claim) → AllTrue t all → position is_false all ≡ None
  none_false [] is = refl
  none_false (c ∷ more) is =
      let all = c ∷ more in
      let n = length all in
      place_is all n (position_or_len_is is_false all n c (omega arith) (λ k lt. passes_at all n k c is lt lt) (λ lt. absurd (omega arith))) ∙ none_at n

  first_false : (all : List Claim) (number : ℕ) (f : FirstFalse t all number) → position is_false all ≡ Some f.index
  first_false [] number f = absurd (omega (arith, slice_get_within [] f.index f.claim f.there))
  first_false (c ∷ more) number f =
      let all = c ∷ more in
      let inside = slice_get_within all f.index f.claim f.there in
      let here : get_or all f.index c ≡ f.claim = get_or_from_slice_get all f.index f.claim c f.there in
      let false_here : is_false (get_or all f.index c) ≡ true = subst (λ d. is_false d ≡ true) (sym here) (failed f.claim f.is_false) in
      place_is all f.index (position_or_len_is is_false all f.index c (omega (arith, inside)) (λ k lt. passes_at all f.index k c f.before lt (omega (arith, lt, inside))) (λ lt. false_here))
      ∙ some_at f.index (length all) inside

  answered-of : (told : Result (List Claim) JudgeError) (answer : Result Judged JudgeError) → IsAnswer t told answer → Answers (said_of t told) answer
  answered-of told (Err (Ledger line kind)) is = ap (said_of t) is
  answered-of told (Err (Verdicts line kind)) is = ap (said_of t) is
  answered-of told (Err OutOfMemory) is = tt
  answered-of (Err fault) (Ok answer) is = absurd is
  answered-of (Ok all) (Ok (Yes n)) (count, is) =
      ap (λ (o : Option ℕ). Ok (said (length all) o)) (none_false all is) ∙ ap (λ (m : ℕ). Ok (Yes m)) (sym count)
  answered-of (Ok all) (Ok (No n number)) (count, f) =
      let next : f.index + 1 ≡ number = omega (arith, f.number_is) in
      ap (λ (o : Option ℕ). Ok (said (length all) o)) (first_false all number f)
      ∙ (ap (λ (m : ℕ). Ok (No m (f.index + 1))) (sym count) ∙ ap (λ (m : ℕ). Ok (No n m)) next)

  pub answered : (ledger verdicts : List ℕ) (answer : Result Judged JudgeError) → IsJudgment t ledger verdicts answer → Answers (judgment t ledger verdicts) answer
  unfolding judgment
  answered ledger verdicts answer is = answered-of (claims_in t ledger verdicts) answer is
