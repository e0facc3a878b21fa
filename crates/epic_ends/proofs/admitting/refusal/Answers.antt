use Rattle.std.proofs.Common.{ap, sym, ◌∙◌}
use Rattle.epic_ends.proofs.FirstRows.{expiry_told, keys_decide, none_refused}
use Rattle.epic_ends.proofs.admitting.refusal.Goals as goal

pub returns-in-Some-expiry_refusal : goal.returns-in-Some-expiry_refusal
returns-in-Some-expiry_refusal c =
    expiry_told _ c.args.epoch c.args.path.now.legs.items c.args.first c.args.src c.args.dst c.args.payload.now c.args.now c.as_slice-hops.result.now
    (c.as_slice-hops.ensures.value ∙ c.hops_of-all.ensures) (sym c.end_refusal.ensures ∙ c.in_default.is)
    c.in-Some-expiry_refusal.refusal (sym c.expiry_refusal.ensures ∙ c.in-Some-expiry_refusal.is)

pub returns-then-is_tagged : goal.returns-then-is_tagged
returns-then-is_tagged c =
    keys_decide _ c.args.epoch c.args.path.now.legs.items c.args.first c.args.src c.args.dst c.args.payload.now c.args.now c.as_slice-hops.result.now
    (c.as_slice-hops.ensures.value ∙ c.hops_of-all.ensures) (sym c.end_refusal.ensures ∙ c.in_default.is)
    c.key_refusal.result (sym c.expiry_refusal.ensures ∙ c.in_default-expiry_refusal.is) (sym c.is_tagged.ensures ∙ c.if-is_tagged.true) c.key_refusal.ensures

pub returns-else-is_tagged : goal.returns-else-is_tagged
returns-else-is_tagged c =
    none_refused _ c.args.epoch c.args.path.now.legs.items c.args.first c.args.src c.args.dst c.args.payload.now c.args.now c.as_slice-hops.result.now
    (c.as_slice-hops.ensures.value ∙ c.hops_of-all.ensures) (sym c.end_refusal.ensures ∙ c.in_default.is)
    (sym c.expiry_refusal.ensures ∙ c.in_default-expiry_refusal.is) (sym c.is_tagged.ensures ∙ c.if-is_tagged.false)
