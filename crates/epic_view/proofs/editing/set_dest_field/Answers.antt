use Rattle.std.proofs.Common.{◌≡◌, ◌-◌, length, ap, sym, ◌∙◌, arith, rules}
use Rattle.epic_layout.specs.Layout.{dest_offset}
use Rattle.epic_view.specs.Pieces.{with_piece}
use Rattle.epic_layout.proofs.Fields.{header_tagged}
use Rattle.epic_layout.proofs.Soundness.{faultless}
use Rattle.epic_layout.proofs.Spelled.{spelling-parse}
use Rattle.epic_view.proofs.Edits.{dest_whole}
use Rattle.epic_view.proofs.editing.set_dest_field.Goals as goal

pub returns : goal.returns
returns c =
    let b = c.args.bytes.now in
    let v = c.args.field.now in
    let sixteen : length v ≡ 16 = search rules in
    let place : c.args.frame.shape.header - 16 ≡ dest_offset b = omega (arith, c.requires.view.header_is, header_tagged b c.requires.tagged) in
    let edit : c.put.new.bytes ≡ with_piece b (dest_offset b) v = c.put.ensures.replaced ∙ ap (λ n. with_piece b n v) place in
    let new = c.put.new.bytes in
    let whole = dest_whole b c.put.new.bytes c.args.frame v c.requires.view c.requires.tagged sixteen edit in
    record { view = whole.0; bytes = edit; packet = whole.1; spelled = sym (spelling-parse new c.put.ensures.fits whole.0.sound); faultless = faultless new whole.0.sound }
