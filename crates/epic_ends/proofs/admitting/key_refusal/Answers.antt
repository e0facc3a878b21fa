use Rattle.std.proofs.Common.{◌∷◌, [], sym, ◌∙◌}
use Rattle.epic_ends.proofs.FirstRows.{keys_before, keys_behind}
use Rattle.epic_ends.proofs.admitting.key_refusal.Goals as goal

pub returns-in-Some : goal.returns-in-Some
returns-in-Some c = keys_before _ c.args.epoch _ (c.args.destination ∷ []) c.in-Some.refusal (sym c.hop_key_refusal.ensures ∙ c.in-Some.is)

pub returns : goal.returns
returns c = c.owner_refusal.ensures ∙ keys_behind _ c.args.epoch _ (c.args.destination ∷ []) (sym c.hop_key_refusal.ensures ∙ c.in_default.is)
