use Rattle.std.proofs.Common.{◌≡◌, ◌-◌, sym, ◌∙◌, ap, subst}
use Rattle.std.specs.Prelude.{Some, None, option_map, slice_get}
use Rattle.epic_ledger.specs.History.{emission_at}
use Rattle.epic_ledger.specs.Parts.{Row}
use Rattle.epic_ledger.specs.Rows.{emission_in, emissions_in}
use Rattle.epic_ledger.proofs.InRow.{emission_at-row, faultless_at}
use Rattle.epic_ledger.proofs.emissions.Emissions.get.Goals as goal

pub returns-in-Some-clause-faultless : goal.returns-in-Some-clause-faultless
unfolding emission_in
returns-in-Some-clause-faultless c =
    let row = c.self.inside.row.items in
    let spans = c.self.inside.spans.items in
    let told : Some c.in-Some.span ≡ slice_get c.as_slice.result.now (c.args.number - 1) = c.in-Some.ensures in
    let found : slice_get spans (c.args.number - 1) ≡ Some c.in-Some.span = rw c.as_slice.ensures.value at (sym told) in
    let at : emission_at (emissions_in row spans) c.args.number ≡ Some (emission_in row c.in-Some.span) =
    emission_at-row row spans c.args.number c.if-number-eq0.false ∙ ap (option_map (emission_in row)) found
    in rw (c.bytes_in.ensures, c.as_slice-in-Some.ensures.value)
    (faultless_at (emissions_in row spans) c.args.number (emission_in row c.in-Some.span) c.self.invariant.packets at)

pub returns-in-None-clause-value : goal.returns-in-None-clause-value
returns-in-None-clause-value c =
    let row = c.self.inside.row.items in
    let spans = c.self.inside.spans.items in
    let told : None ≡ slice_get c.as_slice.result.now (c.args.number - 1) = c.in-None.ensures in
    let missed : slice_get spans (c.args.number - 1) ≡ None = rw c.as_slice.ensures.value at (sym told) in
    subst (λ (r : Row). None ≡ emission_at r.emissions c.args.number) c.self.view_is
    (sym (emission_at-row row spans c.args.number c.if-number-eq0.false ∙ ap (option_map (emission_in row)) missed))
