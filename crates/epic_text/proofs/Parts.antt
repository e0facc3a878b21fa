-- The first part of a text and the others.
use Rattle.std.proofs.Common.{◌≡◌, ℕ, ◌+◌, ◌<◌, ◌≤◌, false, Some, None, List, [], ◌∷◌, length, take, drop, refl, ap, ◌∙◌, subst, cond, ltb, arith}
use Rattle.std.proofs.lemmas.Bool.Decides.{nat_tests}
use Rattle.std.proofs.lemmas.List.Quantifiers.{position-Some}
use Rattle.std.proofs.lemmas.List.Sums.{position_or_len_is, fails_before_first}
use Rattle.std.proofs.lemmas.List.Splits.{slice_split_first, slice_split_none, length-slice_split}
use Rattle.std.specs.List.{slice_split, position, position_or_len, All}
use Rattle.epic_text.specs.Lines.{is_line_feed, without_empty_last, parts}

without_empty_last-cons : (part : List ℕ) (more : List (List ℕ)) → 0 < length more →
    without_empty_last (part ∷ more) ≡ part ∷ without_empty_last more
without_empty_last-cons part [] h = absurd (omega (arith, h))
without_empty_last-cons part (next ∷ more) h = refl

-- a line feed ends the first part
pub parts_some : (text : List ℕ) (i : ℕ) → position is_line_feed text ≡ Some i →
    parts text ≡ take i text ∷ parts (drop (i + 1) text)
parts_some text i found =
    let f = position-Some is_line_feed text i 0 found in
    let within : i ≤ length text = omega (arith, f.0) in
    let e = position_or_len_is is_line_feed text i 0 within f.2 (λ _. f.1) in
    let before : position_or_len is_line_feed text < length text = omega (arith, f.0, e) in
    let split : slice_split is_line_feed text ≡ take i text ∷ slice_split is_line_feed (drop (i + 1) text) =
    subst (λ k. slice_split is_line_feed text ≡ take k text ∷ slice_split is_line_feed (drop (k + 1) text)) e (slice_split_first is_line_feed text 0 before) in
    let more : 0 < length (slice_split is_line_feed (drop (i + 1) text)) = omega (arith, length-slice_split is_line_feed (drop (i + 1) text)) in
    ap without_empty_last split ∙ without_empty_last-cons (take i text) (slice_split is_line_feed (drop (i + 1) text)) more

no_position : (k n : ℕ) → cond (ltb k n) (Some k) None ≡ None → n ≤ k
no_position k n h = grind (arith, nat_tests)

only_part : (text : List ℕ) → 0 < length text → without_empty_last (text ∷ []) ≡ text ∷ []
only_part [] h = absurd (omega (arith, h))
only_part (byte ∷ text) h = grind (arith, nat_tests)

-- without a line feed the text is the only part
pub parts_none : (text : List ℕ) → position is_line_feed text ≡ None → 0 < length text → parts text ≡ text ∷ []
parts_none text absent some =
    let past : length text ≤ position_or_len is_line_feed text = no_position _ _ absent in
    let none : All (λ byte. is_line_feed byte ≡ false) text = λ k d h. fails_before_first is_line_feed text k d (omega (arith, past, h)) in
    ap without_empty_last (slice_split_none is_line_feed text none) ∙ only_part text some
