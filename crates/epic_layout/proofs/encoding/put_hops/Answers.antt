use Rattle.std.proofs.lemmas.List.Elements.{All-more}
use Rattle.epic_layout.specs.Packets.{FitsRow, row_of}
use Rattle.epic_layout.proofs.Encoded.{rows_step}
use Rattle.epic_layout.proofs.encoding.put_hops.Goals as goal

pub loop-hop-preserved : goal.loop-hop-preserved
loop-hop-preserved c =
    let xs = c.args.hops.now in
    let i = c.loop-hop.hop-index in
    record {
      put = rows_step row_of _ _ _ xs i _ c.loop-hop-test.true c.loop-hop.invariant.put c.in_ok-put_row.ensures.put;
      fits = All-more FitsRow xs i _ c.loop-hop-test.true c.loop-hop.invariant.fits c.in_ok-put_row.ensures.fits;
    }
