-- The lines of passes, one after the other.
use Rattle.std.proofs.Common.{◌≡◌, ℕ, ◌+◌, ◌<◌, ◌≤◌, List, ◌∷◌, ◌++◌, length, drop, get_or, ap, sym, ◌∙◌, subst, append_assoc, append-nil}
use Rattle.std.proofs.lemmas.List.{drop_more, drop_all}
use Rattle.epic_num.specs.declared.passed.Passed.{Passed}
use Rattle.epic_topo.specs.Network.{Network}
use Rattle.epic_text.specs.Notes.{Noted, noted_of}
use Rattle.epic_text.specs.Report.{IsToldCarry, passed_text, carried_text}

-- the pass at a place stands before those after it
pass_front : (ps : List Passed) (i : ℕ) (pass : Passed) → i < length ps → pass ≡ get_or ps i pass
    → drop i ps ≡ pass ∷ drop (i + 1) ps
pass_front ps i pass below is =
    drop_more ps i pass below ∙ ap (λ (q : Passed). q ∷ drop (i + 1) ps) (sym is)

-- the passes after one are told over what it emitted
pub carry_told : (t : Network) (emissions : ℕ → List ℕ) (came emitted : List ℕ) (i : ℕ)
    (ps : List Passed) (pass : Passed)
    → i < length ps → pass ≡ get_or ps i pass → emitted ≡ emissions pass.emission
    → IsToldCarry t emissions came (drop i ps) → IsToldCarry t emissions emitted (drop (i + 1) ps)
carry_told t emissions came emitted i ps pass below is bytes told =
    let front = subst (IsToldCarry t emissions came) (pass_front ps i pass below is) told in
    subst (λ (b : List ℕ). IsToldCarry t emissions b (drop (i + 1) ps)) (sym bytes) (front.1)

-- the next pass was printed
pub carry_step : (t : Network) (emissions : ℕ → List ℕ) (step : ℕ) (came emitted : List ℕ) (notes : List Noted) (i : ℕ)
    (ps : List Passed) (pass : Passed) (all lines more : List ℕ)
    → i < length ps → pass ≡ get_or ps i pass → emitted ≡ emissions pass.emission
    → all ≡ lines ++ carried_text t emissions step came notes i (drop i ps)
    → more ≡ lines ++ passed_text t step came emitted (noted_of notes i) pass
    → all ≡ more ++ carried_text t emissions step emitted notes (i + 1) (drop (i + 1) ps)
unfolding carried_text
carry_step t emissions step came emitted notes i ps pass all lines more below is bytes so_far next =
    let rest = drop (i + 1) ps in
    let lines_of : List ℕ → List ℕ = λ b. passed_text t step came b (noted_of notes i) pass in
    so_far
    ∙ ap (λ (qs : List Passed). lines ++ carried_text t emissions step came notes i qs) (pass_front ps i pass below is)
    ∙ ap (λ (b : List ℕ). lines ++ (lines_of b ++ carried_text t emissions step b notes (i + 1) rest)) (sym bytes)
    ∙ sym (append_assoc lines (lines_of emitted) (carried_text t emissions step emitted notes (i + 1) rest))
    ∙ ap (λ (m : List ℕ). m ++ carried_text t emissions step emitted notes (i + 1) rest) (sym next)

-- all were
pub carry_end : (t : Network) (emissions : ℕ → List ℕ) (step : ℕ) (came : List ℕ) (notes : List Noted) (i : ℕ)
    (ps : List Passed) (all lines : List ℕ)
    → length ps ≤ i → all ≡ lines ++ carried_text t emissions step came notes i (drop i ps) → all ≡ lines
unfolding carried_text
carry_end t emissions step came notes i ps all lines past so_far =
    so_far
    ∙ ap (λ (qs : List Passed). lines ++ carried_text t emissions step came notes i qs) (drop_all i ps past)
    ∙ append-nil lines
