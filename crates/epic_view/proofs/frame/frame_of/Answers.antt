use Rattle.epic_layout.proofs.Shapes.{shape_sizes}
use Rattle.epic_view.proofs.frame.frame_of.Goals as goal

pub returns : goal.returns
returns c =
    let sizes = shape_sizes c.args.bytes.now c.args.checked c.requires.shape in
    record {
      sound = c.requires.sound;
      shape_is = c.requires.shape;
      segments_is = sizes.0;
      hops_is = sizes.1;
      header_is = sizes.2;
      hops_at_is = c.segment_start.ensures;
      hop_len_is = c.row_len.ensures.value;
    }
