use Rattle.std.proofs.Common.{List, ap, sym, subst, ◌≤◌, ◌++◌, ◌∙◌}
use Rattle.std.specs.List.{All, flat_map}
use Rattle.std.proofs.lemmas.List.Elements.{All-more}
use Rattle.epic_layout.specs.declared.packet.PacketHop.{PacketHop}
use Rattle.epic_layout.specs.declared.packet.PacketSegment.{PacketSegment}
use Rattle.epic_layout.specs.Packets.{FitsRow, row_of}
use Rattle.epic_layout.proofs.Encoded.{rows_step}
use Rattle.epic_layout.proofs.encoding.put_all_hops.Goals as goal

pub put_hops-requires : goal.put_hops-requires
put_hops-requires c =
    let Narrow : List PacketHop → Type 0 = λ hs. All (λ h. h.field.width ≤ 6) hs in
    subst Narrow (ap (λ s. s.hops.items) (sym c.segment-item.is) ∙ sym c.deref.ensures.0) (c.requires c.loop-segment.segment-index c.segment-item.result c.loop-segment-test.true)

pub loop-segment-preserved : goal.loop-segment-preserved
loop-segment-preserved c =
    let xs = c.args.segments.now in
    let i = c.loop-segment.segment-index in
    let x = c.segment-item.result in
    let hops = λ (s : PacketSegment). s.hops.items in
    let same = c.deref.ensures.0 ∙ ap hops c.segment-item.is in
    record {
      put = rows_step (λ s. flat_map row_of (hops s)) _ _ _ xs i x c.loop-segment-test.true c.loop-segment.invariant.put (c.in_ok-put_hops.ensures.put ∙ ap (λ hs. c.loop-segment.out.items ++ flat_map row_of hs) same);
      fits = All-more (λ s. All FitsRow (hops s)) xs i x c.loop-segment-test.true c.loop-segment.invariant.fits (subst (All FitsRow) same c.in_ok-put_hops.ensures.fits);
    }
