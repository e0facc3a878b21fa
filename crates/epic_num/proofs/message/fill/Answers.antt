use Rattle.std.proofs.Common.{◌≡◌, ◌+◌, ◌<◌, ◌≤◌, ◌++◌, ℕ, List, [], ◌∷◌, length, get_or, take, drop, sum_by, flat_map, Bor, ap, sym, ◌∙◌, arith, add-one, append_assoc, length-append}
use Rattle.std.proofs.Math.Seq.{drop-cons}
use Rattle.std.proofs.lemmas.List.{take_at, length-take-le}
use Rattle.std.proofs.lemmas.List.Sums.{sum_by-cons}
use Rattle.epic_num.proofs.message.fill.Goals as goal

-- a part that was put at the end of what was written is what comes next
put_next : (old new part rest whole : List ℕ) (at : ℕ) → at + length part ≤ length old → new ≡ take at old ++ (part ++ drop (at + length part) old) → take at old ++ (part ++ rest) ≡ whole → take (at + length part) new ++ rest ≡ whole
put_next old new part rest whole at room made next =
    let at_end : length (take at old ++ part) ≡ at + length part = omega (arith, length-append (take at old) part, length-take-le at old (omega arith)) in
    let front : take (at + length part) new ≡ take at old ++ part =
    ap (take (at + length part)) (made ∙ sym (append_assoc (take at old) part (drop (at + length part) old)))
    ∙ take_at (take at old ++ part) (drop (at + length part) old) (at + length part) at_end in
    ap (λ f. f ++ rest) front ∙ (append_assoc (take at old) part rest ∙ next)

-- the parts from one on are that one and those after it
next_part : (parts : List (Bor (List ℕ))) (i : ℕ) (d : Bor (List ℕ)) → i < length parts → drop i parts ≡ get_or parts i d ∷ drop (i + 1) parts
next_part parts i d h = rw add-one (drop-cons parts i d h)

next_length : (parts : List (Bor (List ℕ))) (i : ℕ) (d : Bor (List ℕ)) → i < length parts → sum_by (λ p. length p.now) (drop i parts) ≡ length (get_or parts i d).now + sum_by (λ p. length p.now) (drop (i + 1) parts)
next_length parts i d h = ap (sum_by (λ p. length p.now)) (next_part parts i d h) ∙ sum_by-cons (λ (p : Bor (List ℕ)). length p.now) (get_or parts i d) (drop (i + 1) parts)

next_bytes : (parts : List (Bor (List ℕ))) (i : ℕ) (d : Bor (List ℕ)) → i < length parts → flat_map (λ p. p.now) (drop i parts) ≡ (get_or parts i d).now ++ flat_map (λ p. p.now) (drop (i + 1) parts)
next_bytes parts i d h = ap (flat_map (λ p. p.now)) (next_part parts i d h)

pub loop-part-preserved : goal.loop-part-preserved
loop-part-preserved c =
    let long = next_length c.args.parts.now c.loop-part.part-index (record { ref_ptr = (0, 0); now = [] }) c.loop-part-test.true in
    let more = next_bytes c.args.parts.now c.loop-part.part-index (record { ref_ptr = (0, 0); now = [] }) c.loop-part-test.true in
    record {
      left = omega arith;
      written =
          put_next c.loop-part.bytes c.put.new.bytes _ _ _ c.loop-part.at (omega arith) c.put.ensures
          (ap (λ t. take c.loop-part.at c.loop-part.bytes ++ t) (sym more) ∙ c.loop-part.invariant.written);
    }
