use Rattle.std.proofs.Common.{◌+◌, ◌≤◌, length, ◌∙◌, sym, ap, arith}
use Rattle.epic_layout.specs.Pieces.{piece}
use Rattle.epic_layout.specs.Layout.{hop_offset}
use Rattle.epic_layout.proofs.Cuts.{IsBytes-from}
use Rattle.epic_layout.proofs.Offsets.{hop_there}
use Rattle.epic_layout.proofs.Spelled.{hop_bytes-at}
use Rattle.epic_view.proofs.reading.hop_head.Goals as goal

pub returns : goal.returns
returns c =
    let b = c.args.bytes.now in
    let at = hop_offset b c.args.hop in
    let there : at + 13 ≤ length b = omega (arith, hop_there b c.args.hop c.requires.view.sound c.requires.there) in
    c.bytes_at.ensures ∙ ap (λ n. piece b n 13) c.hop_at.ensures.offset ∙ sym (hop_bytes-at b at (IsBytes-from b c.type_inv.bytes) there)
