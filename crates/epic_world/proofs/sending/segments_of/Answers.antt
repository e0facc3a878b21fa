use Rattle.std.proofs.Common.{◌≡◌, ◌+◌, ◌++◌, ◌∷◌, take, drop, length, get_or, sym, ap, ◌∙◌, arith}
use Rattle.std.specs.Prelude.{Ok}
use Rattle.std.proofs.lemmas.List.{take_more, drop_more, take-append-drop}
use Rattle.epic_model.specs.Steps.{segments_of}
use Rattle.epic_world.proofs.Sent.{segment_more, segment_none, are_formed}
use Rattle.epic_world.proofs.sending.segments_of.Goals as goal

pub loop-number-init : goal.loop-number-init
unfolding segments_of
loop-number-init c = (ap (λ xs. Ok xs) (sym c.new-segments.ensures), ap length c.new-segments.ensures)

pub returns-in-Err-clause-value : goal.returns-in-Err-clause-value
returns-in-Err-clause-value c =
    let bs = c.args.beacons.now.beacons in
    let numbers = c.args.numbers.now in
    let i = c.loop-number.number-index in
    let whole : take i numbers ++ get_or numbers i 0 ∷ drop (i + 1) numbers ≡ numbers = ap (λ rest. take i numbers ++ rest) (sym (drop_more numbers i 0 (omega arith))) ∙ take-append-drop i numbers in
    sym (ap (segments_of bs) (sym whole) ∙ segment_none bs (take i numbers) c.loop-number.segments.items (get_or numbers i 0) c.in-Err.field-0 (drop (i + 1) numbers) c.loop-number.invariant.0 (sym c.in-Err.ensures))

pub loop-number-preserved : goal.loop-number-preserved
loop-number-preserved c =
    let bs = c.args.beacons.now.beacons in
    let numbers = c.args.numbers.now in
    let i = c.loop-number.number-index in (
      ap (segments_of bs) (take_more numbers i 0 (omega arith))
          ∙ (segment_more bs (take i numbers) c.loop-number.segments.items (get_or numbers i 0) c.in-Ok.segment c.loop-number.invariant.0 (sym c.in-Ok.ensures)
          ∙ ap (λ xs. Ok xs) (sym c.push.ensures.items)),
      c.push.ensures.len ∙ ap (λ n. n + 1) c.loop-number.invariant.1,
    )

pub returns-clause-well_formed : goal.returns-clause-well_formed
returns-clause-well_formed c =
    are_formed c.args.beacons.now.beacons c.segments_are_chains.ensures.chains c.len-count.ensures.chains (take c.loop-number.number-index c.args.numbers.now)
    c.loop-number.segments.items c.loop-number.invariant.0
