use Rattle.std.proofs.Common.{◌<◌, ◌^◌}
use Rattle.std.proofs.lemmas.List.Elements.{All-more}
use Rattle.epic_layout.specs.declared.head.SegmentHead.{SegmentHead}
use Rattle.epic_layout.specs.Spelling.{segment_bytes}
use Rattle.epic_layout.proofs.Encoded.{rows_step}
use Rattle.epic_layout.proofs.writing.put_heads.Goals as goal

pub loop-head-preserved : goal.loop-head-preserved
loop-head-preserved c =
    let xs = c.args.segments.now in
    let i = c.loop-head.head-index in
    let Fits : SegmentHead → Type 0 = λ s. s.ts_path < 2 ^ 32 in
    record {
      put = rows_step segment_bytes _ _ _ xs i _ c.loop-head-test.true c.loop-head.invariant.put c.in_ok-put_segment.ensures.put;
      fits = All-more Fits xs i _ c.loop-head-test.true c.loop-head.invariant.fits c.in_ok-put_segment.ensures.fits;
    }
