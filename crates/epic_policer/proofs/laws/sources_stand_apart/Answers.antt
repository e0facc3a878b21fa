use Rattle.std.proofs.Common.{refl, sym, ◌∙◌, ap, []}
use Rattle.epic_policer.specs.Offers.{answers}
use Rattle.epic_policer.proofs.Alone.{alone}
use Rattle.epic_policer.proofs.laws.sources_stand_apart.Goals as goal

pub returns : goal.returns
returns c policy source ps qs e =
    alone policy source ps [] [] (λ now. refl) ∙ ap (answers policy []) e ∙ sym (alone policy source qs [] [] (λ now. refl))
