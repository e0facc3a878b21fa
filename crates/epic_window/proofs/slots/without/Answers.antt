use Rattle.std.proofs.Common.{arith}
use Rattle.epic_window.proofs.SlotLaws.{in_slots-more, in_slots-none}
use Rattle.epic_window.proofs.slots.without.Goals as goal

pub loop-past-init : goal.loop-past-init
loop-past-init c = omega (arith, in_slots-none c.args.slots.now.entries c.args.asn c.args.from)

pub loop-past-preserved : goal.loop-past-preserved
loop-past-preserved c = omega (arith, in_slots-more c.args.slots.now.entries c.args.asn c.args.from c.loop-past.past)
