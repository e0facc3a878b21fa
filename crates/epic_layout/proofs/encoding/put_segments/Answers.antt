use Rattle.std.proofs.Common.{ap, subst, ◌<◌, ◌^◌, ◌++◌, ◌∙◌}
use Rattle.std.proofs.lemmas.List.Elements.{All-more}
use Rattle.epic_layout.specs.declared.packet.PacketSegment.{PacketSegment}
use Rattle.epic_layout.specs.Packets.{segment_head_of}
use Rattle.epic_layout.specs.Spelling.{segment_bytes}
use Rattle.epic_layout.proofs.Encoded.{rows_step}
use Rattle.epic_layout.proofs.encoding.put_segments.Goals as goal

pub loop-segment-preserved : goal.loop-segment-preserved
loop-segment-preserved c =
    let xs = c.args.segments.now in
    let i = c.loop-segment.segment-index in
    let x = c.segment-item.result in
    let row = λ (s : PacketSegment). segment_bytes (segment_head_of s) in
    let Fits : PacketSegment → Type 0 = λ s. s.ts_path < 2 ^ 32 in
    record {
      put = rows_step row _ _ _ xs i x c.loop-segment-test.true c.loop-segment.invariant.put (c.in_ok-put_segment.ensures.put ∙ ap (λ h. c.loop-segment.out.items ++ segment_bytes h) c.segment_head.ensures ∙ ap (λ s. c.loop-segment.out.items ++ row s) c.segment-item.is);
      fits = All-more Fits xs i x c.loop-segment-test.true c.loop-segment.invariant.fits (subst Fits c.segment-item.is (subst (λ h. h.ts_path < 2 ^ 32) c.segment_head.ensures c.in_ok-put_segment.ensures.fits));
    }
