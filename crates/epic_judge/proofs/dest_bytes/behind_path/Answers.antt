use Rattle.std.proofs.Common.{[], ◌∷◌, ◌++◌, length, sym, ap, ◌∙◌}
use Rattle.std.specs.Prelude.{option_copied}
use Rattle.std.specs.List.{flat_map}
use Rattle.epic_layout.specs.Contents.{shape}
use Rattle.epic_layout.specs.Spelling.{path_bytes, segment_bytes, hop_bytes}
use Rattle.epic_judge.specs.Compared.{behind}
use Rattle.epic_judge.proofs.ByPieces.{behind_joined}
use Rattle.epic_judge.proofs.dest_bytes.behind_path.Goals as goal

pub returns : goal.returns
unfolding path_bytes shape
returns c =
    let route = c.args.packet.now.route in
    let rest = option_copied c.args.rest in
    let heads = flat_map segment_bytes route.segments in
    let hops = flat_map hop_bytes route.hops in
    c.behind_hops.ensures
    ∙ (ap (behind hops) (c.behind_segments-heads.ensures ∙ ap (behind heads) (c.behind-hops.ensures ∙ ap (λ s. behind (s.segments ∷ []) rest) c.shape.ensures.shape))
    ∙ (sym (behind_joined heads hops (behind (length route.segments ∷ []) rest))
    ∙ sym (behind_joined (length route.segments ∷ []) (heads ++ hops) rest)))
