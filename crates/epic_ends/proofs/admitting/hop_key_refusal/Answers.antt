use Rattle.std.proofs.Common.{sym, ◌∙◌}
use Rattle.epic_ends.proofs.FirstRows.{no_keys, one_key, key_told}
use Rattle.epic_ends.proofs.admitting.hop_key_refusal.Goals as goal

pub loop-hop-init : goal.loop-hop-init
loop-hop-init c = no_keys _ _

pub returns-in-Some : goal.returns-in-Some
returns-in-Some c =
    sym (key_told _ c.args.epoch c.args.hops.now c.loop-hop.hop-index _ c.in-Some.refusal c.loop-hop-test.true c.loop-hop.invariant (sym c.owner_refusal.ensures ∙ c.in-Some.is))

pub loop-hop-preserved : goal.loop-hop-preserved
loop-hop-preserved c =
    one_key _ c.args.epoch c.args.hops.now c.loop-hop.hop-index _ c.loop-hop-test.true c.loop-hop.invariant ∙ (sym c.owner_refusal.ensures ∙ c.in_default.is)
