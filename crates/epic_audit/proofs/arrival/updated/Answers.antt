use Rattle.std.proofs.Common.{sym, ◌∙◌, ap}
use Rattle.epic_num.specs.declared.verdict.ForgedKind.TheVariants as kind
use Rattle.epic_num.specs.declared.verdict.Verdict.TheVariants.{Forged}
use Rattle.epic_audit.specs.Searches.{updated_lines}
use Rattle.epic_audit.proofs.Passed.{twins_are}
use Rattle.epic_audit.proofs.arrival.updated.Goals as goal

pub returns-in-Some : goal.returns-in-Some
returns-in-Some c =
    ap (updated_lines c.args.topo.now c.args.packet.now c.args.hop.now)
    (sym c.in-Some.is ∙ (c.first_twin.ensures ∙ twins_are c.args.topo.now c.args.ledger.now.history c.args.packet.now c.args.hop.now))

pub returns-in-None : goal.returns-in-None
returns-in-None c =
    (λ i. Forged (record { kind = kind.Update; hop = c.args.hop.now.hop; key = c.field_name.ensures i; generation = c.args.hop.now.name.generation }))
    ∙ ap (updated_lines c.args.topo.now c.args.packet.now c.args.hop.now)
    (sym c.in-None.is ∙ (c.first_twin.ensures ∙ twins_are c.args.topo.now c.args.ledger.now.history c.args.packet.now c.args.hop.now))
