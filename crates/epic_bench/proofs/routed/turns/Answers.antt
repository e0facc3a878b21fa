use Rattle.std.proofs.Common.{refl, arith}
use Rattle.epic_window.proofs.SameEntries.{Same-refl}
use Rattle.epic_bench.specs.Routed.{met}
use Rattle.epic_bench.specs.declared.way.TheConstants.{NOW}
use Rattle.epic_bench.proofs.Routing.{met_more}
use Rattle.epic_bench.proofs.routed.turns.Goals as goal

pub loop-i-init : goal.loop-i-init
unfolding met
loop-i-init c = record {
  asn = c.requires.asn;
  profile = c.requires.profile;
  latest = c.requires.latest;
  entries = Same-refl c.args.topo.now.profile NOW c.args.router.now.window.entries;
  accepted_is = refl;
  few = omega arith;
  room = omega (arith, c.requires.room);
}

pub loop-i-preserved : goal.loop-i-preserved
loop-i-preserved c =
    met_more c.args.topo.now c.args.router.now.window.entries c.args.packets.now c.args.rounds c.loop-i.i c.loop-i.accepted c.accepted_by-accepted.result
    c.loop-i.router c.turn-answer.new.self c.packet_at-bytes.result c.turn-answer.result c.loop-i.invariant c.packet_at-bytes.ensures
    c.turn-answer.ensures.answer c.turn-answer.ensures.window c.turn-answer.ensures.asn c.accepted_by-accepted.ensures.value c.accepted_by-accepted.ensures.bound
