use Rattle.std.proofs.Common.{◌≡◌, ◌*◌, ◌<◌, ◌↔◌, IsTrue, false, refl, ap, sym, ◌∙◌, arith}
use Rattle.std.proofs.lemmas.Bool.{false≢true}
use Rattle.epic_layout.specs.Pieces.{byte, piece}
use Rattle.epic_layout.specs.Layout.{hops_in}
use Rattle.epic_layout.proofs.Cuts.{IsBytes-from}
use Rattle.epic_layout.proofs.SamePath.{SamePieces, path_from_pieces, pieces_from_path}
use Rattle.epic_view.proofs.reading.same_path.Goals as goal

-- the answer is no
no_answer : (P : Type 0) → (P → ⊥) → IsTrue false ↔ P
no_answer P not_so = (λ f. absurd (false≢true f), λ p. absurd (not_so p))

pub returns-then-left_frame-right_frame : goal.returns-then-left_frame-right_frame
returns-then-left_frame-right_frame c = no_answer _ (λ e.
    let s = pieces_from_path c.args.left.now c.args.right.now (IsBytes-from _ c.type_inv.left) (IsBytes-from _ c.type_inv.right) c.requires.left_view.sound c.requires.right_view.sound e in
    c.if-left_frame-right_frame.true (c.requires.left_view.segments_is ∙ s.segments ∙ sym c.requires.right_view.segments_is))

pub returns-then-left_frame-right_frame-2 : goal.returns-then-left_frame-right_frame-2
returns-then-left_frame-right_frame-2 c = no_answer _ (λ e.
    let s = pieces_from_path c.args.left.now c.args.right.now (IsBytes-from _ c.type_inv.left) (IsBytes-from _ c.type_inv.right) c.requires.left_view.sound c.requires.right_view.sound e in
    c.if-left_frame-right_frame-2.true (c.requires.left_view.hops_is ∙ s.hops ∙ sym c.requires.right_view.hops_is))

pub returns-then-not-same_piece : goal.returns-then-not-same_piece
returns-then-not-same_piece c = no_answer _ (λ e.
    let l = c.args.left.now in
    let r = c.args.right.now in
    let s = pieces_from_path l r (IsBytes-from _ c.type_inv.left) (IsBytes-from _ c.type_inv.right) c.requires.left_view.sound c.requires.right_view.sound e in
    let width = ap (λ n. 8 * n) c.requires.left_view.segments_is in
    false≢true (c.if-not-same_piece.ensures.1 (ap (piece l 40) width ∙ s.heads ∙ ap (piece r 40) (sym width))))

pub returns-then-not-same_piece-2 : goal.returns-then-not-same_piece-2
returns-then-not-same_piece-2 c = no_answer _ (λ e.
    let l = c.args.left.now in
    let r = c.args.right.now in
    let s = pieces_from_path l r (IsBytes-from _ c.type_inv.left) (IsBytes-from _ c.type_inv.right) c.requires.left_view.sound c.requires.right_view.sound e in
    let there : c.loop-hop.hop < hops_in l = omega (arith, c.requires.left_view.hops_is) in
    false≢true (c.if-not-same_piece-2.ensures.1 (ap (λ n. piece l n 13) c.hop_at-at.ensures.offset ∙ s.each c.loop-hop.hop there ∙ ap (λ n. piece r n 13) (sym c.hop_at-other.ensures.offset))))

pub returns : goal.returns
returns c =
    let l = c.args.left.now in
    let r = c.args.right.now in
    let width = ap (λ n. 8 * n) (sym c.requires.left_view.segments_is) in
    let heads : piece l 40 (8 * byte l 6) ≡ piece r 40 (8 * byte l 6) = ap (piece l 40) width ∙ c.if-not-same_piece.ensures.0 refl ∙ ap (piece r 40) (sym width) in
    let s : SamePieces l r = record {
      segments = sym c.requires.left_view.segments_is ∙ c.if-left_frame-right_frame.false ∙ c.requires.right_view.segments_is;
      hops = sym c.requires.left_view.hops_is ∙ c.if-left_frame-right_frame-2.false ∙ c.requires.right_view.hops_is;
      heads = heads;
      each = λ j h. c.loop-hop.invariant j (omega (arith, c.requires.left_view.hops_is));
    } in
    (λ _. path_from_pieces l r (IsBytes-from _ c.type_inv.left) (IsBytes-from _ c.type_inv.right) c.requires.left_view.sound c.requires.right_view.sound s, λ _. refl)
