use Rattle.std.proofs.Common.{◌+◌, set, refl, sym, arith}
use Rattle.epic_layout.specs.Pieces.{byte}
use Rattle.epic_layout.specs.Contents.{advanced}
use Rattle.epic_layout.specs.Layout.{parse}
use Rattle.epic_layout.proofs.Soundness.{faultless}
use Rattle.epic_layout.proofs.Spelled.{spelling-parse}
use Rattle.epic_view.proofs.Edits.{view_kept, advance_body, advance_current, advance_edited, advance_sizes}
use Rattle.epic_view.proofs.editing.advance.Goals as goal

pub returns : goal.returns
unfolding parse advanced
returns c =
    let b = c.args.bytes.now in
    let m = byte b 7 + c.args.n in
    let s = c.requires.view.sound in
    let new = set b 7 m in
    let view = view_kept b new 7 1 c.args.frame c.requires.view (advance_body b m s) (omega (arith, advance_current b m s, c.requires.there)) (advance_sizes b m s) in
    record {
      view = view;
      bytes = refl;
      packet = advance_edited b m s;
      spelled = sym (spelling-parse new c.are_bytes.ensures view.sound);
      faultless = faultless new view.sound;
    }
