use Rattle.std.proofs.Common.{◌≡◌, ap, sym, subst, ◌∙◌, length}
use Rattle.std.specs.Prelude.{IsTrue}
use Rattle.epic_layout.specs.Contents.{Contents, IsPacket, hop_count, unfilled}
use Rattle.epic_layout.specs.Spelling.{spelling}
use Rattle.epic_topo.specs.Network.{has}
use Rattle.epic_ends.specs.Sending.{packet_over}
use Rattle.epic_ends.proofs.Filled.{says, sent_is}
use Rattle.epic_ends.proofs.Made.{length_route}
use Rattle.epic_ends.proofs.source.packet.Goals as goal

pub fill-requires-clause-destination : goal.fill-requires-clause-destination
unfolding unfilled
fill-requires-clause-destination c =
    subst (λ (q : Contents). IsTrue (has c.args.topo.now q.dst.asn)) (sym (says c.in_ok-bytes.bytes.items _ c.in_ok-bytes.ensures.spelled c.in_ok-bytes.ensures.packet)) c.requires.destination

pub fill-requires-clause-count : goal.fill-requires-clause-count
unfolding unfilled
fill-requires-clause-count c =
    ap length (c.as_slice-hops.ensures.value ∙ c.hops_of-all.ensures)
    ∙ (sym (length_route c.args.path.now.legs.items)
    ∙ ap (λ (q : Contents). hop_count q) (sym (says c.in_ok-bytes.bytes.items _ c.in_ok-bytes.ensures.spelled c.in_ok-bytes.ensures.packet)))

pub fill-requires-clause-packet : goal.fill-requires-clause-packet
fill-requires-clause-packet c =
    subst IsPacket (sym (says c.in_ok-bytes.bytes.items _ c.in_ok-bytes.ensures.spelled c.in_ok-bytes.ensures.packet)) c.in_ok-bytes.ensures.packet

pub fill-requires-clause-spelled : goal.fill-requires-clause-spelled
fill-requires-clause-spelled c =
    c.in_ok-bytes.ensures.spelled ∙ ap spelling (sym (says c.in_ok-bytes.bytes.items _ c.in_ok-bytes.ensures.spelled c.in_ok-bytes.ensures.packet))

pub returns-clause-spelled : goal.returns-clause-spelled
returns-clause-spelled c =
    let t = c.args.topo.now in
    let legs = c.args.path.now.legs.items in
    c.fill.ensures.spelled
    ∙ ap spelling (sent_is t legs c.args.first c.src.result c.args.dst c.args.ts c.args.payload.now c.in_ok-bytes.bytes.items _ c.as_slice-hops.result.now
    c.in_ok-bytes.ensures.spelled c.in_ok-bytes.ensures.packet (c.as_slice-hops.ensures.value ∙ c.hops_of-all.ensures) c.fill.ensures.packet
    ∙ ap (λ src. packet_over t (λ h. h.sigma) legs c.args.first src c.args.dst c.args.ts c.args.payload.now) c.src.ensures)

pub returns-clause-read : goal.returns-clause-read
returns-clause-read c =
    let t = c.args.topo.now in
    let legs = c.args.path.now.legs.items in
    record {
      faultless = c.fill.ensures.faultless;
      says = sent_is t legs c.args.first c.src.result c.args.dst c.args.ts c.args.payload.now c.in_ok-bytes.bytes.items _ c.as_slice-hops.result.now
          c.in_ok-bytes.ensures.spelled c.in_ok-bytes.ensures.packet (c.as_slice-hops.ensures.value ∙ c.hops_of-all.ensures) c.fill.ensures.packet
          ∙ ap (λ src. packet_over t (λ h. h.sigma) legs c.args.first src c.args.dst c.args.ts c.args.payload.now) c.src.ensures;
    }

pub fill-requires-clause-source : goal.fill-requires-clause-source
unfolding unfilled
fill-requires-clause-source c =
    sym c.src.ensures
    ∙ ap (λ (q : Contents). q.src) (sym (says c.in_ok-bytes.bytes.items _ c.in_ok-bytes.ensures.spelled c.in_ok-bytes.ensures.packet))
