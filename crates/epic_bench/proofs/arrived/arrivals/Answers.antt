use Rattle.std.proofs.Common.{refl, arith}
use Rattle.epic_window.proofs.SameEntries.{Same-refl}
use Rattle.epic_bench.specs.Arrived.{taken}
use Rattle.epic_bench.specs.declared.way.TheConstants.{NOW}
use Rattle.epic_bench.proofs.Taking.{taken_more}
use Rattle.epic_bench.proofs.arrived.arrivals.Goals as goal

pub loop-i-init : goal.loop-i-init
unfolding taken
loop-i-init c = record {
  host = c.requires.host;
  profile = c.requires.profile;
  latest = c.requires.latest;
  entries = Same-refl c.args.topo.now.profile NOW c.args.dest.now.window.entries;
  accepted_is = refl;
  few = omega arith;
  room = omega (arith, c.requires.room);
}

pub loop-i-preserved : goal.loop-i-preserved
loop-i-preserved c =
    taken_more c.args.topo.now c.args.dest.now.window.entries c.args.packets.now c.args.rounds c.loop-i.i c.loop-i.accepted
    c.accepted_by-accepted.result c.loop-i.dest c.arrive-answer.new.self c.packet_at-bytes.result c.arrive-answer.result c.loop-i.invariant
    c.packet_at-bytes.ensures c.arrive-answer.ensures.answer c.arrive-answer.ensures.window c.arrive-answer.ensures.host c.accepted_by-accepted.ensures
