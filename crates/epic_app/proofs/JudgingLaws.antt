-- The lines of verdicts on hops and of passes.
use Rattle.std.proofs.Common.{◌≡◌, ℕ, suc, ◌+◌, ◌-◌, ◌≤◌, List, [], ◌∷◌, ◌++◌, length, take, drop, get_or, refl, sym, ap, ◌∙◌, append_assoc, append-nil, arith}
use Rattle.epic_num.specs.declared.name.AsId.{AsId}
use Rattle.epic_num.specs.declared.verdict.Verdict.{Verdict}
use Rattle.epic_layout.specs.Contents.{Contents}
use Rattle.epic_layout.specs.Layout.{parse}
use Rattle.epic_topo.specs.Network.{Network}
use Rattle.epic_record.specs.Passing.{hops_from}
use Rattle.epic_record.specs.VerdictLines.{acceptances, hop_verdict_line, verdict_line, verdict_text}
use Rattle.epic_app.specs.Noting.{Coming}
use Rattle.epic_app.specs.Telling.{hop_lines, pass_verdicts, passes_verdicts}

-- one a generation
pub lines_are : (t : Network) (a : AsId) (came : List ℕ) (j : ℕ) (gs : List ℕ) (vs : List Verdict)
    → hop_lines t (parse came) j (length gs) vs ≡ verdict_text t (acceptances (hops_from a j came gs)) vs
unfolding hop_lines verdict_text acceptances verdict_line
lines_are t a came j [] vs = refl
lines_are t a came j (g ∷ gs) [] = refl
lines_are t a came j (g ∷ gs) (v ∷ vs) = ap (λ text. hop_verdict_line t (parse came) j v ++ text) (lines_are t a came (j + 1) gs vs)

pub verdicts_more : (t : Network) (x : Coming) (xs : List Coming) → passes_verdicts t (x ∷ xs) ≡ pass_verdicts t x ++ passes_verdicts t xs
unfolding passes_verdicts
verdicts_more t x xs = refl

pub no_verdicts : (t : Network) → passes_verdicts t [] ≡ []
unfolding passes_verdicts
no_verdicts t = refl

-- two hops
pub lines_two : (t : Network) (p : Contents) (j n : ℕ) (vs : List Verdict) (d e : Verdict) → n ≡ 2 → 1 ≤ length (take (length vs - 1) (drop 1 vs))
    → hop_lines t p j n vs ≡ hop_verdict_line t p j (get_or vs 0 d) ++ hop_verdict_line t p (j + 1) (get_or (take (length vs - 1) (drop 1 vs)) 0 e)
unfolding hop_lines
lines_two t p j n [] d e two some = absurd (omega (arith, some))
lines_two t p j n (v ∷ []) d e two some = absurd (omega (arith, some))
lines_two t p j n (v ∷ w ∷ vs) d e two some =
    let count : length (v ∷ w ∷ vs) - 1 ≡ suc (length vs) = omega arith in
    ap (λ k. hop_lines t p j k (v ∷ w ∷ vs)) two
    ∙ (ap (λ text. hop_verdict_line t p j v ++ text) (append-nil (hop_verdict_line t p (j + 1) w))
    ∙ sym (ap (λ k. hop_verdict_line t p j v ++ hop_verdict_line t p (j + 1) (get_or (take k (w ∷ vs)) 0 e)) count))

-- a text with two lines more
pub two_more : (old mid new a b all : List ℕ) → mid ≡ old ++ a → new ≡ mid ++ b → all ≡ a ++ b → new ≡ old ++ all
two_more old mid new a b all first second is =
    second ∙ (ap (λ text. text ++ b) first ∙ (append_assoc old a b ∙ ap (λ text. old ++ text) (sym is)))
