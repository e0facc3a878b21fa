use Rattle.std.proofs.Common.{map, ap, sym, ◌∙◌}
use Rattle.std.specs.List.{range_with_len}
use Rattle.epic_layout.specs.Decoding.{packet_hop_at}
use Rattle.epic_layout.proofs.Decoded.{segment_made}
use Rattle.epic_layout.proofs.decoding.segment_from.Goals as goal

pub returns : goal.returns
returns c =
    let b = c.args.bytes.now in
    let head = c.segment_head_at-head.ensures in
    let hops = c.hops_from-hops.result in
    let items = c.hops_from-hops.ensures ∙ ap (λ s. map (packet_hop_at b) (range_with_len c.args.passed s.count)) head in
    (λ k. record { against = (head k).against; ts_path = (head k).ts_path; hops = hops })
    ∙ sym (segment_made b c.args.i c.args.passed hops items c.requires.passed)
