use Rattle.std.proofs.Common.{ap, ◌∙◌, sym}
use Rattle.epic_layout.specs.Pieces.{piece}
use Rattle.epic_layout.proofs.Cuts.{IsBytes-from}
use Rattle.epic_layout.proofs.Spelled.{segment_bytes-at}
use Rattle.epic_view.proofs.reading.segment_head.Goals as goal

pub returns : goal.returns
returns c =
    let b = c.args.bytes.now in
    c.bytes_at.ensures ∙ ap (λ n. piece b n 8) c.segment_start.ensures ∙ sym (segment_bytes-at b c.args.segment (IsBytes-from b c.type_inv.bytes) c.requires.view.sound c.requires.there)
