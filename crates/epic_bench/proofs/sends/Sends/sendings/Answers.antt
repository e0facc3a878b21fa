use Rattle.std.proofs.Common.{◌∙◌, arith}
use Rattle.epic_keys.specs.Fetches.{is_fetched}
use Rattle.epic_bench.specs.Sends.{sent}
use Rattle.epic_bench.proofs.Sending.{sent_is_few, sent_is_open, sent_next}
use Rattle.epic_bench.proofs.sends.Sends.sendings.Goals as goal

pub loop-init : goal.loop-init
unfolding sent
loop-init c = λ i. record { source = c.new.ensures i; count = 0; packet = (c.from_vec.ensures ∙ c.new-2.ensures.items) i }

pub send_one-requires-clause-last : goal.send_one-requires-clause-last
send_one-requires-clause-last c =
    sent_is_open c.args.self.now.topo (is_fetched c.args.self.now.keys) c.args.self.now.path.legs.items c.loop.counter c.loop.sending c.loop.invariant
    (omega (arith, c.loop-test.true, c.ranges.rounds))

pub send_one-requires-clause-count : goal.send_one-requires-clause-count
send_one-requires-clause-count c =
    sent_is_few c.args.self.now.topo (is_fetched c.args.self.now.keys) c.args.self.now.path.legs.items c.loop.counter c.loop.sending c.loop.invariant
    (omega (arith, c.loop-test.true, c.ranges.rounds))

pub loop-preserved : goal.loop-preserved
loop-preserved c =
    sent_next c.args.self.now.topo (is_fetched c.args.self.now.keys) c.args.self.now.path.legs.items c.loop.counter c.loop.sending c.send_one.new.sending
    c.loop.invariant c.in_ok-send_one.ensures.ok
