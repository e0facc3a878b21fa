use Rattle.std.proofs.Common.{[], ◌∷◌, ◌++◌, length, ap, ◌∙◌}
use Rattle.std.specs.List.{flat_map}
use Rattle.epic_layout.specs.Contents.{shape}
use Rattle.epic_layout.specs.Spelling.{path_bytes, segment_bytes, hop_bytes}
use Rattle.epic_fields.proofs.FedLemmas.{fed, fed_twice}
use Rattle.epic_fields.proofs.destination.feed_path.Goals as goal

pub returns : goal.returns
unfolding path_bytes shape
returns c =
    let route = c.args.packet.now.route in
    let heads = flat_map segment_bytes route.segments in
    let hops = flat_map hop_bytes route.hops in
    fed_twice c.args.state.now c.update.new.self c.feed_hops.new.state (length route.segments ∷ []) (heads ++ hops)
    (c.update.ensures ∙ ap (λ s. fed c.args.state.now (s.segments ∷ [])) c.shape.ensures.shape)
    (fed_twice c.update.new.self c.feed_segments.new.state c.feed_hops.new.state heads hops c.feed_segments.ensures c.feed_hops.ensures)
