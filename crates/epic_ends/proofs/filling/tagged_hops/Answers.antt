use Rattle.std.proofs.Common.{arith, ◌∙◌}
use Rattle.epic_num.specs.Levels.{width_of}
use Rattle.epic_ends.proofs.Filled.{one_field, one_update, all_fields, all_updates, long_more, wide_more}
use Rattle.epic_ends.proofs.filling.tagged_hops.Goals as goal

pub loop-j-preserved : goal.loop-j-preserved
loop-j-preserved c =
    let inv = c.loop-j.invariant in
    let made = c.tagged_hop.ensures in
    record {
      same = made.same ∙ inv.same;
      fields = one_field c.args.topo.now c.args.hops.now c.args.packet.now c.loop-j.j _ c.loop-j.fields.items _ _ c.loop-j-test.true inv.fields made.field c.push.ensures.items;
      field_widths = wide_more (width_of c.args.packet.now.first) c.loop-j.fields.items _ _ inv.field_widths made.field_width c.push.ensures.items;
      field_count = long_more c.loop-j.fields.items _ _ c.loop-j.j inv.field_count c.push.ensures.items;
      updates = one_update c.args.topo.now c.args.hops.now c.args.packet.now c.loop-j.j _ c.loop-j.updates.items _ _ c.loop-j-test.true inv.updates made.update c.push-in-loop-j.ensures.items;
      update_widths = wide_more (width_of c.args.packet.now.first) c.loop-j.updates.items _ _ inv.update_widths made.update_width c.push-in-loop-j.ensures.items;
      update_count = long_more c.loop-j.updates.items _ _ c.loop-j.j inv.update_count c.push-in-loop-j.ensures.items;
    }

pub returns-clause-fields : goal.returns-clause-fields
returns-clause-fields c = all_fields c.args.topo.now c.args.hops.now c.args.packet.now _ c.loop-j.j (omega arith) c.loop-j.invariant.fields

pub returns-clause-updates : goal.returns-clause-updates
returns-clause-updates c = all_updates c.args.topo.now c.args.hops.now c.args.packet.now _ c.loop-j.j (omega arith) c.loop-j.invariant.updates
