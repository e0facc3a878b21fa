-- One claim more.
use Rattle.std.proofs.Common.{◌≡◌, inl, inr, ℕ, ◌+◌, ◌<◌, Bool, true, false, List, [], ◌∷◌, ◌++◌, map, length, refl, sym, ap, subst, ◌∙◌, arith, append_assoc, length-append}
use Rattle.std.specs.Prelude.{Option, Some, None, slice_get, Result, Ok, Err}
use Rattle.std.specs.Bool.{Decides}
use Rattle.std.proofs.lemmas.Bool.{cases_order}
use Rattle.std.proofs.lemmas.Bool.Decides.{not_from_Decides}
use Rattle.std.proofs.lemmas.Option.{same_Some, slice_get_within}
use Rattle.epic_num.proofs.ChainLaws.{slice_get-append, slice_get-seam}
use Rattle.epic_topo.specs.Network.{Network}
use Rattle.epic_ledger.specs.Facts.{Facts}
use Rattle.epic_text.specs.Lines.{parts}
use Rattle.epic_record.specs.declared.item.Item.{Item}
use Rattle.epic_record.specs.declared.item.Item.TheVariants as items
use Rattle.epic_record.specs.declared.told.Told.{Told}
use Rattle.epic_record.specs.LedgerFile.{Fault}
use Rattle.epic_record.specs.VerdictFile.{told_after, with_told}
use Rattle.epic_record.specs.VerdictLines.{Acceptance, accepted_by}
use Rattle.epic_judging.specs.Judging.{told_true}
use Rattle.epic_judging.specs.Judgment.{AllTrue, Claim, FirstFalse, IsTrueClaim, claims}
use Rattle.epic_judging.specs.Laws.{JudgmentsAreDecided}
use Rattle.epic_judge.specs.BothFiles.{IsFirst, claims_after}
use Rattle.epic_judge.specs.Reaching.{AreJudged, IsFew, Judges, Reached, first_after}

-- ---- the first that is false

-- a claim that was there
old_one : (judged : List Claim) (c d : Claim) (n : ℕ) → n < length judged → slice_get (judged ++ c ∷ []) n ≡ Some d → slice_get judged n ≡ Some d
old_one judged c d n lt at = sym (slice_get-append judged (c ∷ []) n lt) ∙ at

-- the one that is new
new_one : (judged : List Claim) (c d : Claim) (n : ℕ) → n ≡ length judged → slice_get (judged ++ c ∷ []) n ≡ Some d → c ≡ d
new_one judged c d n last at = same_Some c d (sym (slice_get-seam judged c) ∙ (ap (slice_get (judged ++ c ∷ [])) (sym last) ∙ at))

all_more : (t : Network) (judged : List Claim) (c : Claim) → AllTrue t judged → IsTrueClaim t c → AllTrue t (judged ++ c ∷ [])
all_more t judged c all is n d lt at =
    elim (cases_order n (length judged)) [
      | inl same ↦ subst (IsTrueClaim t) (new_one judged c d n same at) is
      | inr order ↦
          elim order [
            | inl less ↦ all n d less (old_one judged c d n less at)
            | inr more ↦ absurd (omega (arith, lt, more, length-append judged (c ∷ [])))
          ]
    ]

first_false : (t : Network) (judged : List Claim) (c : Claim) (number : ℕ) → AllTrue t judged → (IsTrueClaim t c → ⊥) → number ≡ length judged + 1 → FirstFalse t (judged ++ c ∷ []) number
first_false t judged c number all is_false count = record {
  index = length judged;
  claim = c;
  number_is = omega (arith, count);
  there = slice_get-seam judged c;
  is_false = is_false;
  before = λ n d lt at. all n d lt (old_one judged c d n lt at);
}

still_false : (t : Network) (judged : List Claim) (c : Claim) (number : ℕ) → FirstFalse t judged number → FirstFalse t (judged ++ c ∷ []) number
still_false t judged c number f =
    let within = slice_get_within judged f.index f.claim f.there in
    record {
      index = f.index;
      claim = f.claim;
      number_is = f.number_is;
      there = slice_get-append judged (c ∷ []) f.index within ∙ f.there;
      is_false = f.is_false;
      before = λ n d lt at. f.before n d lt (old_one judged c d n (omega (arith, lt, within)) at);
    }

first_more : (t : Network) (judged : List Claim) (c : Claim) (first : Option ℕ) (number : ℕ) (b : Bool) → Decides b (IsTrueClaim t c) → number ≡ length judged + 1
    → IsFirst t judged first → IsFirst t (judged ++ c ∷ []) (first_after first number b)
first_more t judged c (Some k) number b decides count h = still_false t judged c k h
first_more t judged c None number true decides count h = all_more t judged c h (decides.0 refl)
first_more t judged c None number false decides count h = first_false t judged c number h (not_from_Decides false decides refl) count

-- ---- the claims of one line of the ledger file

-- what is told of the claims up to a line, and with it
pub record Taken (t : Network) (f : Facts) (accepted : List Acceptance) (at next : Reached) (judged : List Claim) : Type 0 where
  pub all : List Claim
  pub told : (rows : List (Facts × Acceptance)) (others : List Acceptance)
      → claims_after judged (map (λ a. (f, a)) accepted ++ rows) (told_after (at.number + 1) (accepted ++ others) (parts at.rest))
      ≡ claims_after all rows (told_after (next.number + 1) others (parts next.rest))
  pub count : next.number ≡ length all
  pub first : IsFirst t all next.first
  pub few : IsFew next

shift : (judged : List Claim) (f : Facts) (a : Acceptance) (line : Told) (rows : List (Facts × Acceptance)) (r : Result (List Told) Fault)
    → claims_after judged ((f, a) ∷ rows) (with_told line r) ≡ claims_after (judged ++ record { facts = f; acceptance = a; line = line } ∷ []) rows r
shift judged f a line rows (Err fault) = refl
shift judged f a line rows (Ok lines) = ap Ok (sym (append_assoc judged (record { facts = f; acceptance = a; line = line } ∷ []) (claims rows lines)))

module _ (decided : JudgmentsAreDecided) (t : Network) (f : Facts) (at next : Reached) (judged : List Claim) (count : at.number ≡ length judged) (first : IsFirst t judged at.first) (few : IsFew at) where
  taken_none : next ≡ at → Taken t f [] at next judged
  taken_none same = subst (λ r. Taken t f [] at r judged) (sym same) (record { all = judged; told = λ rows others. refl; count = count; first = first; few = few })

  taken_one : (a : Acceptance) → Judges t f a at next → Taken t f (a ∷ []) at next judged
  taken_one a j =
      let c : Claim = record { facts = f; acceptance = a; line = j.line } in
      let more : at.number + 1 ≡ length judged + 1 = ap (λ n. n + 1) count in
      record {
        all = judged ++ c ∷ [];
        told = λ rows others.
            ap (claims_after judged ((f, a) ∷ rows)) (j.told others)
            ∙ shift judged f a j.line rows (told_after (next.number + 1) others (parts next.rest));
        count = j.number ∙ (more ∙ sym (length-append judged (c ∷ [])));
        first =
            subst (IsFirst t (judged ++ c ∷ [])) (sym j.first)
            (first_more t judged c at.first (at.number + 1) (told_true t f a.packet a.subject j.line) (decided t f a j.line) more first);
        few = omega (arith, few, j.number, j.shorter);
      }

  pub taken : (item : Item) → AreJudged t f (accepted_by item) at next → Taken t f (accepted_by item) at next judged
  taken (items.Event e) h = taken_none h
  taken (items.Emission number due bytes) h = taken_none h
  taken (items.AcceptHop a generation hop bytes) h = taken_one _ h
  taken (items.AcceptDest host bytes) h = taken_one _ h
