-- The lines of handled hops, one after the other.
use Rattle.std.proofs.Common.{◌≡◌, ℕ, ◌+◌, ◌<◌, ◌≤◌, List, ◌++◌, length, drop, get_or, ap, sym, ◌∙◌, append_assoc, append-nil}
use Rattle.std.proofs.lemmas.List.{drop_more, drop_all}
use Rattle.epic_num.specs.declared.verdict.Verdict.{Verdict}
use Rattle.epic_layout.specs.Contents.{Contents}
use Rattle.epic_topo.specs.Network.{Network}
use Rattle.epic_text.specs.Notes.{Noted, behind_hop}
use Rattle.epic_text.specs.Report.{hop_line, hop_lines}

-- the next line was printed, with its note
pub hop_step : (t : Network) (step : ℕ) (p : Contents) (notes : Noted) (i : ℕ) (vs : List Verdict) (d : Verdict) (all lines more then : List ℕ) → i < length vs
    → all ≡ lines ++ hop_lines t step p notes i (drop i vs)
    → more ≡ lines ++ hop_line t step p (p.current + i) (get_or vs i d)
    → then ≡ more ++ behind_hop notes i
    → all ≡ then ++ hop_lines t step p notes (i + 1) (drop (i + 1) vs)
hop_step t step p notes i vs d all lines more then below so_far next noted =
    let rest = hop_lines t step p notes (i + 1) (drop (i + 1) vs) in
    let line = hop_line t step p (p.current + i) (get_or vs i d) in
    let note = behind_hop notes i in
    so_far
    ∙ ap (λ ws. lines ++ hop_lines t step p notes i ws) (drop_more vs i d below)
    ∙ sym (append_assoc lines line (note ++ rest))
    ∙ ap (λ m. m ++ (note ++ rest)) (sym next)
    ∙ sym (append_assoc more note rest)
    ∙ ap (λ m. m ++ rest) (sym noted)

-- all lines were
pub hop_end : (t : Network) (step : ℕ) (p : Contents) (notes : Noted) (i : ℕ) (vs : List Verdict) (all lines : List ℕ) → length vs ≤ i
    → all ≡ lines ++ hop_lines t step p notes i (drop i vs) → all ≡ lines
hop_end t step p notes i vs all lines past so_far =
    so_far ∙ ap (λ ws. lines ++ hop_lines t step p notes i ws) (drop_all i vs past) ∙ append-nil lines
