-- Of two files there is one judgment.
use Rattle.std.proofs.Common.{◌≡◌, ◌≢◌, ◌⊎◌, inl, inr, ℕ, zero, suc, ◌<◌, Bool, true, false, List, [], ◌∷◌, length, refl, ap, sym, ◌∙◌, subst, arith}
use Rattle.std.specs.Prelude.{Result, Ok, Err}
use Rattle.std.specs.Bool.{Decides}
use Rattle.std.proofs.lemmas.Bool.{cases_order}
use Rattle.std.proofs.lemmas.Bool.Decides.{not_from_Decides}
use Rattle.std.proofs.lemmas.Option.{same_Some, slice_get_within}
use Rattle.epic_topo.specs.Network.{Network}
use Rattle.epic_record.specs.declared.item.Item.{Item}
use Rattle.epic_record.specs.declared.told.Told.{Told}
use Rattle.epic_record.specs.LedgerFile.{Fault, ledger_file}
use Rattle.epic_record.specs.VerdictFile.{verdict_file}
use Rattle.epic_record.specs.VerdictLines.{acceptances}
use Rattle.epic_judging.specs.declared.judged.Judged.{Judged}
use Rattle.epic_judging.specs.declared.judged.Judged.TheVariants.{Yes, No}
use Rattle.epic_judging.specs.declared.judged.JudgeError.{JudgeError}
use Rattle.epic_judging.specs.declared.judged.JudgeError.TheVariants.{Ledger, Verdicts, OutOfMemory}
use Rattle.epic_judging.specs.Judging.{told_true}
use Rattle.epic_judging.specs.Judgment.{Claim, claims_in, with_ledger, with_verdicts, IsTrueClaim, TrueBefore, AllTrue, FirstFalse, IsSaid, IsAnswer}
use Rattle.epic_judging.specs.Laws.{HasJudgment, JudgmentsExist, JudgmentsAreOne}
use Rattle.epic_judging.proofs.Meaning.{judgments_are_decided}

-- ---- there is one

abbrev claim_true : Network → Claim → Bool
claim_true t c = told_true t c.facts c.acceptance.packet c.acceptance.subject c.line

claim_true-Decides : (t : Network) (c : Claim) → Decides (claim_true t c) (IsTrueClaim t c)
claim_true-Decides t c = judgments_are_decided t c.facts c.acceptance c.line

-- a true claim before others
one_more : (t : Network) (c : Claim) (more : List Claim) (k : ℕ) → IsTrueClaim t c → TrueBefore t more k → TrueBefore t (c ∷ more) (suc k)
one_more t c more k is rest zero d lt at = subst (IsTrueClaim t) (same_Some c d at) is
one_more t c more k is rest (suc n) d lt at = rest n d (omega arith) at

-- all are true, or there is a first that isn't
scan : (t : Network) (all : List Claim) → AllTrue t all ⊎ ((n : ℕ) × FirstFalse t all n)
scan t [] = inl (λ n c lt at. absurd (cc))
scan t (c ∷ more) = by (claim_true t c) refl (scan t more)
  where
    by : (b : Bool) → claim_true t c ≡ b → AllTrue t more ⊎ ((n : ℕ) × FirstFalse t more n) → AllTrue t (c ∷ more) ⊎ ((n : ℕ) × FirstFalse t (c ∷ more) n)
    by false e rest =
        inr (
          1,
          record {
            index = 0;
            claim = c;
            number_is = refl;
            there = refl;
            is_false = not_from_Decides (claim_true t c) (claim_true-Decides t c) e;
            before = λ n d lt at. absurd (omega arith);
          },
        )
    by true e (inl rest) = inl (one_more t c more (length more) ((claim_true-Decides t c).0 e) rest)
    by true e (inr rest) =
        let f = rest.1 in
        inr (
          suc rest.0,
          record {
            index = suc f.index;
            claim = f.claim;
            number_is = ap suc f.number_is;
            there = f.there;
            is_false = f.is_false;
            before = one_more t c more f.index ((claim_true-Decides t c).0 e) f.before;
          },
        )

-- a fault of the files is never want of memory
no_memory-verdicts : (items : List Item) (r : Result (List Told) Fault) → with_verdicts items r ≡ Err OutOfMemory → ⊥
no_memory-verdicts items (Err fault) e = cc
no_memory-verdicts items (Ok lines) e = cc

no_memory : (verdicts : List ℕ) (r : Result (List Item) Fault) → with_ledger verdicts r ≡ Err OutOfMemory → ⊥
no_memory verdicts (Err fault) e = cc
no_memory verdicts (Ok items) e = no_memory-verdicts items (verdict_file (acceptances items) verdicts) e

no_memory-in : (t : Network) (ledger verdicts : List ℕ) → claims_in t ledger verdicts ≡ Err OutOfMemory → ⊥
unfolding claims_in
no_memory-in t ledger verdicts e = no_memory verdicts (ledger_file t ledger) e

pub judgments_exist : JudgmentsExist
judgments_exist t ledger verdicts = by (claims_in t ledger verdicts) refl
  where
    said : (all : List Claim) → claims_in t ledger verdicts ≡ Ok all → AllTrue t all ⊎ ((n : ℕ) × FirstFalse t all n) → HasJudgment t ledger verdicts
    said all e (inl is) = record {
      answer = Ok (Yes (length all));
      is_judgment = subst (λ r. IsAnswer t r (Ok (Yes (length all)))) (sym e) (refl, is);
      answers = λ h. cc;
    }
    said all e (inr is) = record {
      answer = Ok (No (length all) is.0);
      is_judgment = subst (λ r. IsAnswer t r (Ok (No (length all) is.0))) (sym e) (refl, is.1);
      answers = λ h. cc;
    }

    by : (r : Result (List Claim) JudgeError) → claims_in t ledger verdicts ≡ r → HasJudgment t ledger verdicts
    by (Err (Ledger line kind)) e = record { answer = Err (Ledger line kind); is_judgment = e; answers = λ h. cc }
    by (Err (Verdicts line kind)) e = record { answer = Err (Verdicts line kind); is_judgment = e; answers = λ h. cc }
    by (Err OutOfMemory) e = absurd (no_memory-in t ledger verdicts e)
    by (Ok all) e = said all e (scan t all)

-- ---- there is only one

fault_is : (t : Network) (r : Result (List Claim) JudgeError) (e : JudgeError) → IsAnswer t r (Err e) → (e ≡ OutOfMemory → ⊥) → r ≡ Err e
fault_is t r (Ledger line kind) is some = is
fault_is t r (Verdicts line kind) is some = is
fault_is t r OutOfMemory is some = absurd (some refl)

-- one that is true before the other's first false one would be false
apart : (t : Network) (all : List Claim) (n m : ℕ) (f : FirstFalse t all n) (g : FirstFalse t all m) → f.index < g.index → ⊥
apart t all n m f g lt = f.is_false (g.before f.index f.claim lt f.there)

said_one : (t : Network) (all : List Claim) (a b : Judged) → IsSaid t all a → IsSaid t all b → a ≡ b
said_one t all (Yes n) (Yes m) f g = ap Yes (f.0 ∙ sym g.0)
said_one t all (Yes n) (No m k) f g =
    let first = g.1 in
    absurd (first.is_false (f.1 first.index first.claim (slice_get_within all first.index first.claim first.there) first.there))
said_one t all (No n k) (Yes m) f g =
    let first = f.1 in
    absurd (first.is_false (g.1 first.index first.claim (slice_get_within all first.index first.claim first.there) first.there))
said_one t all (No n k) (No m l) f g =
    elim (cases_order f.1.index g.1.index) [
      | inl same ↦ λ i. No ((f.0 ∙ sym g.0) i) ((f.1.number_is ∙ (ap suc same ∙ sym g.1.number_is)) i)
      | inr order ↦ elim order [ inl lt ↦ absurd (apart t all k l f.1 g.1 lt) | inr lt ↦ absurd (apart t all l k g.1 f.1 lt) ]
    ]

answers_one : (t : Network) (r : Result (List Claim) JudgeError) (a b : Result Judged JudgeError) → IsAnswer t r a → IsAnswer t r b
    → a ≢ Err OutOfMemory → b ≢ Err OutOfMemory → a ≡ b
answers_one t r (Err e) (Err h) is other some more =
    let first = fault_is t r e is (λ k. some (ap Err k)) in
    let second = fault_is t r h other (λ k. more (ap Err k)) in
    ap Err (same_fault e h (sym first ∙ second))
  where
    same_fault : (x y : JudgeError) → ◌≡◌ {A = Result (List Claim) JudgeError} (Err x) (Err y) → x ≡ y
    same_fault x y k = cc
answers_one t r (Err e) (Ok b) is other some more =
    let first = fault_is t r e is (λ k. some (ap Err k)) in absurd (subst (λ q. IsAnswer t q (Ok b)) first other)
answers_one t r (Ok a) (Err h) is other some more =
    let second = fault_is t r h other (λ k. more (ap Err k)) in absurd (subst (λ q. IsAnswer t q (Ok a)) second is)
answers_one t (Err e) (Ok a) (Ok b) is other some more = absurd is
answers_one t (Ok all) (Ok a) (Ok b) is other some more = ap Ok (said_one t all a b is other)

pub judgments_are_one : JudgmentsAreOne
judgments_are_one t ledger verdicts a b is other some more = answers_one t (claims_in t ledger verdicts) a b is other some more
