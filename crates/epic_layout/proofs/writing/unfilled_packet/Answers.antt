use Rattle.std.proofs.Common.{◌≡◌, ℕ, [], ◌∷◌, ◌++◌, ◌≤◌, length, take, replicate, ap, sym, ◌∙◌, subst, arith}
use Rattle.std.specs.List.{flat_map}
use Rattle.std.specs.Prelude.{None}
use Rattle.std.proofs.lemmas.List.{length-take-le}
use Rattle.epic_num.specs.Levels.{width_of, is_first_byte}
use Rattle.epic_layout.specs.declared.head.HopHead.{HopHead}
use Rattle.epic_layout.specs.Contents.{IsPacket, unfilled, header_len}
use Rattle.epic_layout.specs.Layout.{fault}
use Rattle.epic_layout.specs.Spelling.{hop_bytes, sizes_bytes, size_bytes, end_bytes, spelling}
use Rattle.epic_layout.proofs.Offsets.{width_most}
use Rattle.epic_layout.proofs.Faultless.{Spells-spelling}
use Rattle.epic_layout.proofs.Written.{zeros_wide, IsPacket-unfilled, written}
use Rattle.epic_layout.proofs.writing.unfilled_packet.Goals as goal
use Rattle.epic_layout.proofs.writing.unfilled_packet.Goals.{In_ok-put}

pub slice_bounds-zeros-end : goal.slice_bounds-zeros-end
slice_bounds-zeros-end c = omega (arith, c.width_of.ensures, width_most c.args.first)

pub slice_bounds-put_bare_hops-end : goal.slice_bounds-put_bare_hops-end
slice_bounds-put_bare_hops-end c =
    let few : c.width_of.result ≤ 6 = omega (arith, c.width_of.ensures, width_most c.args.first) in
    sym (length-take-le {A = ℕ} c.width_of.result (0 ∷ 0 ∷ 0 ∷ 0 ∷ 0 ∷ 0 ∷ []) few)

-- what is written is within the limits
packet : (c : In_ok-put) → IsPacket (unfilled c.args.first c.args.src c.args.dst c.args.ts (record { segments = c.args.segments.now; hops = c.args.hops.now }) c.args.payload.now)
packet c =
    IsPacket-unfilled _ _ _ _ _ _ _ c.requires.exists c.requires.segments c.requires.hops c.requires.payload (record {
      source = c.in_ok-put_ends.ensures.src;
      dest = c.in_ok-put_ends.ensures.dst;
      time = c.in_ok-put_ends.ensures.ts;
      heads = c.in_ok-put_heads.ensures.fits;
      rows = c.in_ok-put_bare_hops.ensures.fits;
    })

-- and is its spelling
bytes : (c : In_ok-put) → c.put.new.out.items ≡ spelling (unfilled c.args.first c.args.src c.args.dst c.args.ts (record { segments = c.args.segments.now; hops = c.args.hops.now }) c.args.payload.now)
unfolding unfilled size_bytes end_bytes header_len
bytes c =
    let first = c.args.first in
    let zeros : take {A = ℕ} c.width_of.result (0 ∷ 0 ∷ 0 ∷ 0 ∷ 0 ∷ 0 ∷ []) ≡ replicate (width_of first) 0 = ap (λ w. take {A = ℕ} w (replicate 6 0)) c.width_of.ensures ∙ zeros_wide first in
    written first c.args.src c.args.dst c.args.ts c.args.segments.now c.args.hops.now c.args.payload.now _ _ _ _ _ _
    (c.in_ok-put_sizes.ensures ∙ (λ i. c.in_ok-out.ensures i ++ sizes_bytes first (c.header_len_of-header.ensures i) (length c.args.payload.now) (length c.args.segments.now) 0))
    c.in_ok-put_ends.ensures.put
    c.in_ok-put_heads.ensures.put
    (c.in_ok-put_bare_hops.ensures.put ∙ (λ i. c.put_heads.new.out.items ++ flat_map (λ (h : HopHead). hop_bytes h ++ zeros i) c.args.hops.now))
    c.in_ok-put_dest.ensures.put
    c.in_ok-put.ensures

pub returns-clause-packet : goal.returns-clause-packet
returns-clause-packet c = packet c

pub returns-clause-spelled : goal.returns-clause-spelled
returns-clause-spelled c = bytes c

pub returns-clause-faultless : goal.returns-clause-faultless
returns-clause-faultless c = subst (λ b. fault is_first_byte b ≡ None) (sym (bytes c)) (Spells-spelling _ (packet c)).faultless
