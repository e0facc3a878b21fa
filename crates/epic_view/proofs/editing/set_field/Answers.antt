use Rattle.std.proofs.Common.{◌≡◌, ◌+◌, ◌≤◌, length, ap, sym, ◌∙◌, arith, rules}
use Rattle.std.proofs.lemmas.List.{length-take-le}
use Rattle.epic_layout.specs.Pieces.{byte}
use Rattle.epic_layout.specs.Layout.{field_offset}
use Rattle.epic_num.specs.Levels.{width_of}
use Rattle.epic_layout.proofs.Offsets.{width_most}
use Rattle.epic_layout.specs.Contents.{field_bytes}
use Rattle.epic_view.specs.Pieces.{with_piece}
use Rattle.epic_layout.proofs.Soundness.{faultless}
use Rattle.epic_layout.proofs.Spelled.{spelling-parse}
use Rattle.epic_view.proofs.Edits.{field_whole}
use Rattle.epic_view.proofs.editing.set_field.Goals as goal

pub returns : goal.returns
returns c =
    let b = c.args.bytes.now in
    let v = field_bytes c.args.field.now in
    let six : length c.args.field.now.bytes ≡ 6 = search rules in
    let fits : c.args.field.now.width ≤ length c.args.field.now.bytes = omega (arith, six, c.requires.width, width_most (byte b 0)) in
    let size : length v ≡ width_of (byte b 0) = length-take-le c.args.field.now.width c.args.field.now.bytes fits ∙ c.requires.width in
    let edit : c.put.new.bytes ≡ with_piece b (field_offset b c.args.hop) v = c.put.ensures.replaced ∙ ap (λ n. with_piece b (n + 13) v) c.hop_at-at.ensures.offset in
    let new = c.put.new.bytes in
    let whole = field_whole b c.put.new.bytes c.args.frame c.args.hop v c.requires.view c.requires.there size edit in
    record { view = whole.0; bytes = edit; packet = whole.1; spelled = sym (spelling-parse new c.put.ensures.fits whole.0.sound); faultless = faultless new whole.0.sound }
