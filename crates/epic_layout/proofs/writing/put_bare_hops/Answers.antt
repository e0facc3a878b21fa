use Rattle.std.proofs.Common.{◌++◌}
use Rattle.std.proofs.lemmas.List.Elements.{All-more}
use Rattle.epic_layout.specs.declared.head.HopHead.{HopHead}
use Rattle.epic_layout.specs.Contents.{IsHop}
use Rattle.epic_layout.specs.Spelling.{hop_bytes}
use Rattle.epic_layout.proofs.Encoded.{rows_step}
use Rattle.epic_layout.proofs.writing.put_bare_hops.Goals as goal

pub loop-head-preserved : goal.loop-head-preserved
loop-head-preserved c =
    let xs = c.args.hops.now in
    let i = c.loop-head.head-index in
    let row = λ (h : HopHead). hop_bytes h ++ c.args.zeros.now in
    record {
      put = rows_step row _ _ _ xs i _ c.loop-head-test.true c.loop-head.invariant.put c.in_ok-put_hop.ensures.put;
      fits = All-more IsHop xs i _ c.loop-head-test.true c.loop-head.invariant.fits c.in_ok-put_hop.ensures.fits;
    }
