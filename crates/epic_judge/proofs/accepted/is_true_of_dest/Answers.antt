use Rattle.std.proofs.Common.{sym, subst, ◌∙◌}
use Rattle.std.specs.Prelude.{IsTrue}
use Rattle.epic_layout.specs.Contents.{Contents}
use Rattle.epic_topo.specs.Network.{has}
use Rattle.epic_judge.proofs.Placed.{looked, not_looked, dest_known, dest_packet}
use Rattle.epic_judge.proofs.accepted.is_true_of_dest.Goals as goal

pub is_true_at_dest-requires-clause-known : goal.is_true_at_dest-requires-clause-known
is_true_at_dest-requires-clause-known c =
    subst (λ (p : Contents). IsTrue (has c.args.index.now.network p.dst.asn)) (sym (looked c.args.bytes.now c.in-Ok.packet (sym c.in-Ok.is ∙ c.look.ensures)))
    (dest_known c.args.index.now.network c.args.index.now.history c.args.host c.args.bytes.now c.requires.placed)

pub unreachable-requires : goal.unreachable-requires
unreachable-requires c =
    not_looked c.args.bytes.now _
    (dest_packet c.args.index.now.network c.args.index.now.history c.args.host c.args.bytes.now c.requires.placed)
    (sym c.in-Err.is ∙ c.look.ensures)
