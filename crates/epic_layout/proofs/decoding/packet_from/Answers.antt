use Rattle.std.proofs.Common.{ap, ◌∙◌, drop}
use Rattle.std.proofs.lemmas.List.{take_rest}
use Rattle.epic_layout.specs.Pieces.{byte}
use Rattle.epic_layout.specs.Decoding.{packet_in}
use Rattle.epic_layout.proofs.Shapes.{shape_header, shape_version, shape_level}
use Rattle.epic_layout.proofs.decoding.packet_from.Goals as goal

pub returns : goal.returns
unfolding packet_in
returns c =
    let b = c.args.bytes.now in
    let s = c.args.shape in
    let version = shape_version b s c.requires.shape in
    let level = shape_level b s c.requires.shape in
    let src = c.host_at.ensures in
    let dst = c.host_at-2.ensures in
    let ts = c.u64_at.ensures in
    let segments = c.from_vec.ensures ∙ c.in_ok-segments.ensures in
    let dest_field = c.dest_field-dest_field.ensures in
    let payload = c.from_vec-2.ensures ∙ c.in_ok-payload.ensures.items ∙ take_rest b s.header ∙ ap (λ n. drop n b) (shape_header b s c.requires.shape) in
    λ i. record {
      version = version i;
      level = level i;
      current = byte b 7;
      src = src i;
      dst = dst i;
      ts = ts i;
      segments = segments i;
      dest_field = dest_field i;
      payload = payload i;
    }
