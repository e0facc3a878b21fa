use Rattle.std.proofs.Common.{refl, arith}
use Rattle.epic_layout.specs.Contents.{hop_count}
use Rattle.epic_ledger.specs.Facts.{Sent, facts_of}
use Rattle.epic_index.specs.Sources.{source_keys, source_keys_at}
use Rattle.epic_index.proofs.ByNumber.{next_keys, last_keys}
use Rattle.epic_index.proofs.sources.add_hops.Goals as goal

pub loop-hop-init : goal.loop-hop-init
unfolding source_keys
loop-hop-init c = record { rows = λ emission. refl; spare = omega (arith, c.requires) }

pub add_hop-requires : goal.add_hop-requires
add_hop-requires c = omega (arith, c.loop-hop.invariant.spare, c.shape-hops.ensures.packet.route.few_hops)

pub loop-hop-preserved : goal.loop-hop-preserved
loop-hop-preserved c = record {
  rows = λ emission.
      (let s : Sent = record { emission = emission; segments = c.args.segments.now; packet = c.args.packet.now } in
      next_keys _ _ _ (source_keys_at (facts_of c.args.ledger.now.history).issues s) (hop_count c.args.packet.now) c.loop-hop.hop c.args.number (omega arith)
      (c.loop-hop.invariant.rows emission) (c.add_hop.ensures.rows emission));
  spare = omega (arith, c.loop-hop.invariant.spare, c.add_hop.ensures.spare);
}

pub returns : goal.returns
returns c = λ emission.
    (let s : Sent = record { emission = emission; segments = c.args.segments.now; packet = c.args.packet.now } in
    last_keys _ _ (source_keys_at (facts_of c.args.ledger.now.history).issues s) (hop_count c.args.packet.now) c.loop-hop.hop c.args.number (omega arith)
    (c.loop-hop.invariant.rows emission))
