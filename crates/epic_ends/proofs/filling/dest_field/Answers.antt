use Rattle.std.proofs.Common.{ap, ◌∙◌}
use Rattle.epic_layout.specs.Contents.{hop_count}
use Rattle.epic_layout.specs.Spelling.{update_count}
use Rattle.epic_ends.proofs.Filled.{covered_count}
use Rattle.epic_ends.proofs.filling.dest_field.Goals as goal

pub dest_field-requires-clause-count : goal.dest_field-requires-clause-count
dest_field-requires-clause-count c =
    covered_count c.first_byte.result c.args.updates.now _ (hop_count c.args.packet.now) c.requires.count c.covered.ensures
    ∙ ap (λ n. update_count n (hop_count c.args.packet.now)) c.first_byte.ensures
