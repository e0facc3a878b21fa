use Rattle.std.proofs.Common.{ap, subst, sym, ◌≡◌, ◌∙◌, map}
use Rattle.epic_layout.specs.Contents.{field_bytes}
use Rattle.epic_layout.specs.Layout.{parse}
use Rattle.epic_ends.specs.Filling.{filled}
use Rattle.epic_ends.proofs.Filled.{filled_in}
use Rattle.epic_ends.proofs.filling.fill_tagged.Goals as goal

pub returns-clause-packet : goal.returns-clause-packet
returns-clause-packet c =
    let p = parse c.args.bytes.now in
    let fields = c.tags_of-tags.result.fields.items in
    let lent = c.as_slice.result.now in
    let dest = c.tags_of-tags.result.dest_field in
    filled_in p _ _ _ (map field_bytes lent) dest c.put_fields.ensures.packet c.put_dest_field.ensures.packet
    (subst (λ q. filled c.args.topo.now c.args.hops.now q ≡ record q { fields = map field_bytes fields; dest_field = dest }) c.of.ensures c.tags_of-tags.ensures.filled
    ∙ ap (λ fs. record p { fields = map field_bytes fs; dest_field = dest }) (sym c.as_slice.ensures.value))
