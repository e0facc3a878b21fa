use Rattle.std.proofs.Common.{◌≡◌, ◌≤◌, length, refl, sym, subst, arith}
use Rattle.epic_ledger.specs.Parts.{Row}
use Rattle.epic_ledger.specs.declared.emissions.Span.{Span}
use Rattle.epic_ledger.proofs.InRow.{emissions_push, row_push}
use Rattle.epic_ledger.proofs.emissions.Emissions.push.Goals as goal

pub invariant_of-self : goal.invariant_of-self
invariant_of-self c =
    let spans = c.self.inside.spans in
    let row = c.self.inside.row in
    let bytes = c.args.bytes.now in
    let s : Span = record { place = c.args.place; start = c.len-start.result; len = length bytes } in
    let spare = subst (λ (r : Row). 1 ≤ r.spare) (sym c.self.view_is) c.requires.room in
    let byte_spare = subst (λ (r : Row). length bytes ≤ r.byte_spare) (sym c.self.view_is) c.requires.byte_room in
    let starts : c.len-start.result ≡ length row.items = omega (arith, row.ok.0) in
    rw (c.in-Ok.ensures.items, c.push_reserved.ensures.items)
    (row_push row.items bytes spans.items s c.self.invariant starts refl c.requires.faultless
    (omega (arith, spare)) (omega (arith, byte_spare)))

pub returns-clause-emissions : goal.returns-clause-emissions
returns-clause-emissions c =
    let spans = c.self.inside.spans in
    let row = c.self.inside.row in
    let bytes = c.args.bytes.now in
    let s : Span = record { place = c.args.place; start = c.len-start.result; len = length bytes } in
    let starts : c.len-start.result ≡ length row.items = omega (arith, row.ok.0) in
    rw (c.in-Ok.ensures.items, c.push_reserved.ensures.items, ← c.self.view_is)
    (emissions_push row.items bytes spans.items s c.self.invariant.within starts refl)
