use Rattle.epic_fields.proofs.Stamps.{tags_stamp, formulas_stamp, dest_stamp}
use Rattle.epic_fields.proofs.laws.tags_look_at_no_field.Goals as goal

pub returns-clause-hops : goal.returns-clause-hops
returns-clause-hops c = tags_stamp

pub returns-clause-formulas : goal.returns-clause-formulas
returns-clause-formulas c = formulas_stamp

pub returns-clause-destinations : goal.returns-clause-destinations
returns-clause-destinations c = dest_stamp
