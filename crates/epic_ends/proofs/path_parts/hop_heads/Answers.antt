use Rattle.std.proofs.Common.{◌∙◌, arith}
use Rattle.std.proofs.Math.ListN.{length-set}
use Rattle.epic_layout.specs.PathRoutes.{hop_head}
use Rattle.epic_ends.proofs.PathLists.{heads_more}
use Rattle.epic_ends.proofs.path_parts.hop_heads.Goals as goal

pub loop-j-preserved : goal.loop-j-preserved
loop-j-preserved c =
    let size = c.loop-j.invariant.size in
    record {
      written = heads_more hop_head c.loop-j.heads c.args.hops.now c.loop-j.j _ _ (omega arith) c.loop-j-test.true c.hop_head.ensures c.loop-j.invariant.written;
      size = length-set c.loop-j.heads c.loop-j.j c.hop_head.result ∙ size;
    }
