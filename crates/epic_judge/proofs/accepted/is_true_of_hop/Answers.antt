use Rattle.std.proofs.Common.{◌<◌, sym, subst, ◌∙◌}
use Rattle.epic_layout.specs.Contents.{Contents, hop_count}
use Rattle.epic_judge.proofs.Placed.{looked, not_looked, hop_known, hop_packet, hop_within}
use Rattle.epic_judge.proofs.accepted.is_true_of_hop.Goals as goal

pub is_true_at_hop-requires-clause-known : goal.is_true_at_hop-requires-clause-known
is_true_at_hop-requires-clause-known c =
    hop_known c.args.index.now.network c.args.index.now.history c.args.a c.args.generation c.args.hop c.args.bytes.now c.requires.placed

pub is_true_at_hop-requires-clause-within : goal.is_true_at_hop-requires-clause-within
is_true_at_hop-requires-clause-within c =
    subst (λ (p : Contents). c.args.hop < hop_count p) (sym (looked c.args.bytes.now c.in-Ok.packet (sym c.in-Ok.is ∙ c.look.ensures)))
    (hop_within c.args.index.now.network c.args.index.now.history c.args.a c.args.generation c.args.hop c.args.bytes.now c.requires.placed)

pub unreachable-requires : goal.unreachable-requires
unreachable-requires c =
    not_looked c.args.bytes.now _
    (hop_packet c.args.index.now.network c.args.index.now.history c.args.a c.args.generation c.args.hop c.args.bytes.now c.requires.placed)
    (sym c.in-Err.is ∙ c.look.ensures)
