use Rattle.std.proofs.Common.{ap, ◌∙◌}
use Rattle.std.specs.Ordering.{is_eq}
use Rattle.std.proofs.lemmas.Map.Text.{is_eq-slice_cmp}
use Rattle.epic_layout.specs.Layout.{parse}
use Rattle.epic_layout.specs.Spelling.{path_bytes}
use Rattle.epic_view.proofs.packet_ref.PacketRef.path_order.Goals as goal

pub returns-clause-ties : goal.returns-clause-ties
returns-clause-ties c =
    rw (← c.self.view_is, ← c.other.view_is)
    (ap is_eq c.path_order.ensures ∙ is_eq-slice_cmp (path_bytes (parse c.self.inside.bytes.now).route) (path_bytes (parse c.other.inside.bytes.now).route))
