use Rattle.std.proofs.Common.{ℕ, ◌+◌, ◌*◌, ◌^◌, arith, ap, option_map, sym}
use Rattle.epic_num.specs.Names.{as_from, as_part_of, dash, isd_of, parted}
use Rattle.std.proofs.lemmas.List.{take_rest}
use Rattle.epic_num.proofs.Misspelt.{IsMisspelt-option_map, after_misspelt, before_misspelt, unmarked}
use Rattle.epic_num.proofs.OneSpelling.{as_part_has_text, isd_unmarked}
use Rattle.epic_num.proofs.Parts.{parted_both}
use Rattle.epic_num.proofs.read_parts.as_number.Goals as goal

abbrev sum_of : ℕ × ℕ → ℕ
sum_of p = p.0 * 2 ^ 48 + p.1

pub returns-in_default-clause-err : goal.returns-in_default-clause-err
unfolding as_from
returns-in_default-clause-err c =
    IsMisspelt-option_map sum_of (parted dash (isd_of c.args.least) (as_part_of c.args.least)) c.args.text.now c.end_of.result
    (unmarked dash (isd_of c.args.least) (as_part_of c.args.least) (isd_unmarked c.args.least) (as_part_has_text c.args.least (omega (arith, c.requires))) c.args.text.now c.isd.result c.end_of.result (sym c.in_default.ensures)
    c.isd.ensures.ok c.isd.ensures.err c.end_of.ensures.ok c.end_of.ensures.err)

pub returns-in-Err-default-clause-err : goal.returns-in-Err-default-clause-err
unfolding as_from
returns-in-Err-default-clause-err c =
    IsMisspelt-option_map sum_of (parted dash (isd_of c.args.least) (as_part_of c.args.least)) c.args.text.now c.in-Err-default.at
    (before_misspelt dash (isd_of c.args.least) (as_part_of c.args.least) (isd_unmarked c.args.least) (as_part_has_text c.args.least (omega (arith, c.requires))) c.args.text.now c.in-Some.i c.in-Err-default.at (sym c.in-Some.ensures)
    c.in-Err-default.ensures.err)

pub returns-in-Ok-Err-clause-err : goal.returns-in-Ok-Err-clause-err
unfolding as_from
returns-in-Ok-Err-clause-err c =
    IsMisspelt-option_map sum_of (parted dash (isd_of c.args.least) (as_part_of c.args.least)) c.args.text.now (c.in-Some.i + 1 + c.in-Ok-Err.at)
    (after_misspelt dash (isd_of c.args.least) (as_part_of c.args.least) (isd_unmarked c.args.least) (as_part_has_text c.args.least (omega (arith, c.requires))) c.args.text.now c.in-Some.i c.in-Ok-Err.at c.in-Ok-Err.field-0-0
    (sym c.in-Some.ensures) c.in-Ok-Err.ensures.ok (rw (take_rest c.args.text.now (c.in-Some.i + 1)) at c.in-Ok-Err.ensures'.err))

pub returns-in-Ok-Ok-clause-ok : goal.returns-in-Ok-Ok-clause-ok
unfolding as_from
returns-in-Ok-Ok-clause-ok c =
    ap (option_map sum_of) (parted_both dash (isd_of c.args.least) (as_part_of c.args.least) c.args.text.now c.in-Some.i c.in-Ok-Ok.isd
    c.in-Ok-Ok.part (sym c.in-Some.ensures) c.in-Ok-Ok.ensures.ok (rw (take_rest c.args.text.now (c.in-Some.i + 1)) at c.in-Ok-Ok.ensures'.ok))
