use Rattle.std.proofs.Common.{◌≤◌, [], arith, refl}
use Rattle.std.proofs.lemmas.List.Elements.{All-nil, All-cons}
use Rattle.epic_layout.specs.Route.{hops_of}
use Rattle.epic_layout.specs.declared.head.SegmentHead.{SegmentHead}
use Rattle.epic_layout.proofs.tests.writes_a_packet_without_fields.Goals as goal

pub unfilled_packet-requires-clause-segments : goal.unfilled_packet-requires-clause-segments
unfolding hops_of
unfilled_packet-requires-clause-segments g c = record {
  some_segment = omega arith;
  few_segments = omega arith;
  least = All-cons (λ (s : SegmentHead). 2 ≤ s.count) _ [] (omega arith) (All-nil (λ (s : SegmentHead). 2 ≤ s.count));
  most = All-cons (λ (s : SegmentHead). s.count ≤ 16) _ [] (omega arith) (All-nil (λ (s : SegmentHead). s.count ≤ 16));
  few_hops = omega arith;
}
