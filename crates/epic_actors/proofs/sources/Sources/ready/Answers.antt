use Rattle.std.proofs.Common.{sym, subst, ap, ◌∙◌}
use Rattle.std.specs.Prelude.{IsSome, is_some}
use Rattle.epic_actors.specs.Sources.{SourcesStandFor, source_of}
use Rattle.epic_actors.proofs.SourceTables.{found, put_here, none_lost, new_stands, none_of}
use Rattle.epic_actors.proofs.sources.Sources.ready.Goals as goal

pub returns-then-contains_key-clause-made : goal.returns-then-contains_key-clause-made
returns-then-contains_key-clause-made c =
    subst (λ v. IsSome (source_of v c.args.host)) c.self.view_is
    (ap is_some (found c.self.inside.by_name c.args.host) ∙ (sym c.contains_key.ensures ∙ c.if-contains_key.true))

pub returns-in-Ok-clause-made : goal.returns-in-Ok-clause-made
returns-in-Ok-clause-made c = ap is_some (put_here c.self.inside.by_name c.insert.new.self c.args.host c.new.result c.in-Ok.ensures.updates)

pub returns-in-Ok-clause-kept : goal.returns-in-Ok-clause-kept
returns-in-Ok-clause-kept c =
    λ d h. none_lost c.self.inside.by_name c.insert.new.self c.args.host c.new.result c.in-Ok.ensures.updates d (subst (λ v. IsSome (source_of v d)) (sym c.self.view_is) h)

pub returns-in-Ok-clause-stand : goal.returns-in-Ok-clause-stand
returns-in-Ok-clause-stand c =
    let was = none_of _ (ap is_some (found c.self.inside.by_name c.args.host) ∙ (sym c.contains_key.ensures ∙ c.if-contains_key.false)) in
    λ h stand. new_stands c.self.inside.by_name c.insert.new.self c.args.host c.new.result c.in-Ok.ensures.updates c.new.ensures was h
    (subst (λ v. SourcesStandFor v h) (sym c.self.view_is) stand)

pub returns-clause-succeeds : goal.returns-clause-succeeds
returns-clause-succeeds c =
    λ h. sym c.if-contains_key.false ∙ (c.contains_key.ensures ∙ (ap is_some (sym (found c.self.inside.by_name c.args.host))
    ∙ (ap (λ v. is_some (source_of v c.args.host)) c.self.view_is ∙ h)))
