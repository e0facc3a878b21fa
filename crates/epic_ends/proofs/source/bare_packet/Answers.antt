use Rattle.std.proofs.Common.{◌≡◌, ◌≤◌, ap, sym, subst, ◌∙◌, length, map, take}
use Rattle.std.specs.Prelude.{IfOk}
use Rattle.epic_layout.specs.Contents.{AreSegments, IsPacket, unfilled}
use Rattle.epic_layout.specs.PathRoutes.{head_of, hop_head}
use Rattle.epic_layout.specs.Route.{hops_of}
use Rattle.epic_layout.specs.Spelling.{spelling}
use Rattle.epic_ends.proofs.PathLists.{are_segments, few_hops, hops_counted, same_route}
use Rattle.epic_ends.proofs.source.bare_packet.Goals as goal

pub hop_heads-requires : goal.hop_heads-requires
hop_heads-requires c = subst (λ hs. length hs ≤ 32) (sym c.requires.hops) (few_hops c.args.path.now.legs.items c.args.path.now.lawful)

pub unfilled_packet-requires-clause-segments : goal.unfilled_packet-requires-clause-segments
unfilled_packet-requires-clause-segments c =
    subst AreSegments (sym (c.segment_heads.ensures ∙ ap (map head_of) c.as_slice-legs.ensures.value)) (are_segments c.args.path.now.legs.items c.args.path.now.lawful)

pub unfilled_packet-requires-clause-hops : goal.unfilled_packet-requires-clause-hops
unfilled_packet-requires-clause-hops c =
    ap hops_of (c.segment_heads.ensures ∙ ap (map head_of) c.as_slice-legs.ensures.value)
    ∙ (hops_counted c.args.path.now.legs.items ∙ ap length (sym (c.hop_heads.ensures ∙ ap (map hop_head) c.requires.hops)))

pub returns-clause-packet : goal.returns-clause-packet
returns-clause-packet c =
    subst (λ r. IfOk c.unfilled_packet.result (λ _. IsPacket (unfilled c.args.first c.args.src c.args.dst c.args.ts r c.args.payload.now)))
    (same_route c.args.path.now.legs.items _ _ (c.segment_heads.ensures ∙ ap (map head_of) c.as_slice-legs.ensures.value) (c.hop_heads.ensures ∙ ap (map hop_head) c.requires.hops))
    c.unfilled_packet.ensures.packet

pub returns-clause-spelled : goal.returns-clause-spelled
returns-clause-spelled c =
    subst (λ r. IfOk c.unfilled_packet.result (λ bytes. bytes.items ≡ spelling (unfilled c.args.first c.args.src c.args.dst c.args.ts r c.args.payload.now)))
    (same_route c.args.path.now.legs.items _ _ (c.segment_heads.ensures ∙ ap (map head_of) c.as_slice-legs.ensures.value) (c.hop_heads.ensures ∙ ap (map hop_head) c.requires.hops))
    c.unfilled_packet.ensures.spelled
