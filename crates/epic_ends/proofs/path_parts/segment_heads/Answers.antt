use Rattle.std.proofs.Common.{ap, ◌∙◌, arith}
use Rattle.std.proofs.Math.ListN.{length-set}
use Rattle.epic_layout.specs.PathRoutes.{head_of}
use Rattle.epic_ends.proofs.PathLists.{heads_more}
use Rattle.epic_ends.proofs.path_parts.segment_heads.Goals as goal

pub loop-i-preserved : goal.loop-i-preserved
loop-i-preserved c =
    let size = c.loop-i.invariant.size in
    record {
      written = heads_more head_of c.loop-i.heads c.args.legs.now c.loop-i.i c.index-legs-i.result _ (omega arith) c.loop-i-test.true
          (c.head_of.ensures ∙ ap head_of c.index-legs-i.is) c.loop-i.invariant.written;
      size = length-set c.loop-i.heads c.loop-i.i c.head_of.result ∙ size;
    }
