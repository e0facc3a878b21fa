-- The words of verdicts stand behind others.
use Rattle.std.proofs.Common.{◌≡◌, ℕ, ◌<◌, ◌==◌, Bool, true, false, cond, List, ◌∷◌, ◌++◌, length, codes, decimal, ap, sym, ◌∙◌, arith, append_assoc}
use Rattle.epic_num.specs.declared.verdict.Verdict.{Verdict}
use Rattle.epic_num.specs.declared.verdict.Verdict.TheVariants.{Proved, Unclaimed, Opened, Forged, Collided}
use Rattle.epic_layout.specs.Contents.{Contents}
use Rattle.epic_topo.specs.Network.{Network}
use Rattle.epic_audit.specs.ForgedText.{words_text, forged_words}
use Rattle.epic_text.specs.VerdictText.{verdict_words, proved_words}
use Rattle.epic_text.proofs.LineLemmas.{words_text-cons}

cond_some : (b : Bool) (xs ys : List (List ℕ)) → 0 < length xs → 0 < length ys → 0 < length (cond b xs ys)
cond_some true xs ys x y = x
cond_some false xs ys x y = y

proved_some : (issue send : ℕ) → 0 < length (proved_words issue send)
proved_some issue send =
    cond_some (issue == 0) _ _ (omega arith) (cond_some (send == 0) _ _ (omega arith) (omega arith))

some_words : (t : Network) (p : Contents) (v : Verdict) → 0 < length (verdict_words t p v)
unfolding verdict_words forged_words
some_words t p (Proved issue send) = proved_some issue send
some_words t p Unclaimed = omega arith
some_words t p (Opened step) = omega arith
some_words t p (Forged forgery) = omega arith
some_words t p (Collided collision) = omega arith

-- the words of a hop's line
pub hop_front : (t : Network) (p : Contents) (v : Verdict) (hop : ℕ) → (codes "hop " ++ (decimal hop ++ codes " ")) ++ words_text (verdict_words t p v) ≡ words_text (codes "hop" ∷ decimal hop ∷ verdict_words t p v)
hop_front t p v hop =
    ap (λ m. codes "hop " ++ m) (append_assoc (decimal hop) (codes " ") (words_text (verdict_words t p v)) ∙ sym (words_text-cons (decimal hop) (verdict_words t p v) (some_words t p v)))

-- the words of a destination's line
pub dest_front : (t : Network) (p : Contents) (v : Verdict) → codes "dest " ++ words_text (verdict_words t p v) ≡ words_text (codes "dest" ∷ verdict_words t p v)
dest_front t p v = sym (words_text-cons (codes "dest") (verdict_words t p v) (some_words t p v))
