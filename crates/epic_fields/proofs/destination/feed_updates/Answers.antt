use Rattle.std.proofs.Common.{◌≤◌, length, ap, ◌∙◌, arith}
use Rattle.epic_layout.specs.Contents.{field_bytes}
use Rattle.epic_fields.proofs.FedLemmas.{concat-map, fed, fed_all}
use Rattle.epic_fields.proofs.destination.feed_updates.Goals as goal

pub returns : goal.returns
returns c =
    let updates = c.args.updates.now in
    let past : length updates ≤ c.loop-update.update-index = grind (arith, c.loop-update-test.false) in
    fed_all field_bytes updates c.loop-update.update-index c.args.state.now c.loop-update.state past c.loop-update.invariant
    ∙ ap (fed c.args.state.now) (concat-map field_bytes updates)
