use Rattle.std.proofs.Common.{◌≡◌, [], ◌++◌, ◌∙◌, ap, sym, subst, ◌≤◌, ◌<◌, ◌^◌, if◌then◌else◌}
use Rattle.std.specs.List.{All, flat_map}
use Rattle.epic_num.specs.Levels.{is_tagged}
use Rattle.epic_layout.specs.Packets.{segment_head_of, row_of, contents_of, FitsRow}
use Rattle.epic_layout.specs.Spelling.{segment_bytes, size_bytes, end_bytes, spelling, Spells}
use Rattle.epic_layout.proofs.Encoded.{FitsTypes, valid_narrow, valid_parts, encoded, IsPacket-contents}
use Rattle.epic_layout.proofs.Faultless.{Spells-spelling}
use Rattle.epic_layout.proofs.encoding.encode.Goals as goal
use Rattle.epic_layout.proofs.encoding.encode.Goals.{In_ok-put}

pub put_all_hops-requires : goal.put_all_hops-requires
put_all_hops-requires c = subst (λ ss. All (λ s. All (λ h. h.field.width ≤ 6) s.hops.items) ss) (sym c.as_slice-segments.ensures) (valid_narrow c.args.packet.now c.requires)

-- what was written
written : (c : In_ok-put) → c.put.new.out.items ≡ spelling (contents_of c.args.packet.now)
unfolding end_bytes contents_of
written c =
    let p = c.args.packet.now in
    let segments = c.as_slice-segments.ensures in
    encoded p _ _ _ _ _ _
    (c.in_ok-put_packet_sizes.ensures ∙ ap (λ o. o ++ size_bytes (contents_of p)) c.in_ok-out.ensures)
    c.in_ok-put_ends.ensures.put
    (c.in_ok-put_segments.ensures.put ∙ ap (λ ss. c.put_ends.new.out.items ++ flat_map (λ s. segment_bytes (segment_head_of s)) ss) segments)
    (c.in_ok-put_all_hops.ensures.put ∙ ap (λ ss. c.put_segments.new.out.items ++ flat_map (λ s. flat_map row_of s.hops.items) ss) segments)
    (c.in_ok-put_dest.ensures.put ∙ ap (λ f. c.put_all_hops.new.out.items ++ (if is_tagged f then p.dest_field else [])) c.first_byte-first.ensures)
    (c.in_ok-put.ensures ∙ ap (λ o. c.put_dest.new.out.items ++ o) c.as_slice-payload.ensures)

pub returns-clause-spelled : goal.returns-clause-spelled
returns-clause-spelled c = written c

pub returns-clause-spells : goal.returns-clause-spells
returns-clause-spells c =
    let p = c.args.packet.now in
    let segments = c.as_slice-segments.ensures in
    let fits : FitsTypes p = record {
      src = c.in_ok-put_ends.ensures.src;
      dst = c.in_ok-put_ends.ensures.dst;
      ts = c.in_ok-put_ends.ensures.ts;
      segments = subst (λ ss. All (λ s. s.ts_path < 2 ^ 32) ss) segments c.in_ok-put_segments.ensures.fits;
      hops = subst (λ ss. All (λ s. All FitsRow s.hops.items) ss) segments c.in_ok-put_all_hops.ensures.fits;
      dest = c.in_ok-put_dest.ensures.size;
    } in
    subst (λ o. Spells o (contents_of p)) (sym (written c)) (Spells-spelling (contents_of p) (IsPacket-contents p (valid_parts p c.requires) fits))
