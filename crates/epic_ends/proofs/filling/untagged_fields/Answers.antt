use Rattle.std.proofs.Common.{arith}
use Rattle.epic_num.specs.Levels.{width_of}
use Rattle.epic_ends.proofs.Filled.{one_untagged, all_fields, long_more, wide_more}
use Rattle.epic_ends.proofs.filling.untagged_fields.Goals as goal

pub loop-j-preserved : goal.loop-j-preserved
loop-j-preserved c = record {
  fields = λ t. one_untagged t c.args.hops.now c.args.packet.now c.loop-j.j _ c.loop-j.fields.items _ c.untagged_field.result c.loop-j-test.true
      (c.loop-j.invariant.fields t) c.untagged_field.ensures.bytes c.push.ensures.items;
  widths = wide_more (width_of c.args.packet.now.first) c.loop-j.fields.items _ _ c.loop-j.invariant.widths c.untagged_field.ensures.width c.push.ensures.items;
  count = long_more c.loop-j.fields.items _ _ c.loop-j.j c.loop-j.invariant.count c.push.ensures.items;
}

pub returns-clause-fields : goal.returns-clause-fields
returns-clause-fields c = λ t. all_fields t c.args.hops.now c.args.packet.now _ c.loop-j.j (omega arith) (c.loop-j.invariant.fields t)
