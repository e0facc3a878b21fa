use Rattle.std.proofs.Common.{◌++◌, length, ◌∙◌, ap, arith}
use Rattle.epic_beacon.specs.Segments.{last_hops, segment_to}
use Rattle.epic_beacon.proofs.Issued.{position_few}
use Rattle.epic_beacon.proofs.segment.segment_to.Goals as goal

pub returns : goal.returns
unfolding segment_to
returns c i = record {
  kind = c.args.last.now.kind;
  hops = record {
    items =
        (c.push_hops.ensures.items
        ∙ ap (λ xs. xs ++ last_hops c.args.beacons.now c.args.last.now.name.body.pos c.args.number) c.new-hops.ensures) i;
  };
}

pub push_hops-requires : goal.push_hops-requires
push_hops-requires c =
    let few = position_few c.args.beacons.now c.args.number c.args.last.now c.requires.chained c.requires.there in
    let none = ap length c.new-hops.ensures in
    omega arith
