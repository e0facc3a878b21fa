use Rattle.std.proofs.Common.{ℕ, ◌+◌, ◌*◌, ◌^◌, ap, option_map, refl, sym}
use Rattle.epic_num.specs.Names.{colon, group_of, groups_of, low_groups_of, parted}
use Rattle.std.proofs.lemmas.List.{take_rest}
use Rattle.epic_num.proofs.Misspelt.{IsMisspelt-option_map, after_misspelt, before_misspelt, unmarked}
use Rattle.epic_num.proofs.OneSpelling.{group_unmarked, low_groups_has_text}
use Rattle.epic_num.proofs.Parts.{parted_both}
use Rattle.epic_num.proofs.read_parts.groups.Goals as goal

abbrev sum_of : ℕ × ℕ → ℕ
sum_of p = p.0 * 2 ^ 32 + p.1

pub returns-in_default-clause-err : goal.returns-in_default-clause-err
unfolding groups_of
returns-in_default-clause-err c =
    IsMisspelt-option_map sum_of (parted colon (group_of 1) low_groups_of) c.args.text.now c.end_of.result
    (unmarked colon (group_of 1) low_groups_of (group_unmarked 1 colon refl) low_groups_has_text c.args.text.now c.group.result c.end_of.result (sym c.in_default.ensures)
    c.group.ensures.ok c.group.ensures.err c.end_of.ensures.ok c.end_of.ensures.err)

pub returns-in-Err-default-clause-err : goal.returns-in-Err-default-clause-err
unfolding groups_of
returns-in-Err-default-clause-err c =
    IsMisspelt-option_map sum_of (parted colon (group_of 1) low_groups_of) c.args.text.now c.in-Err-default.at
    (before_misspelt colon (group_of 1) low_groups_of (group_unmarked 1 colon refl) low_groups_has_text c.args.text.now c.in-Some.i c.in-Err-default.at (sym c.in-Some.ensures)
    c.in-Err-default.ensures.err)

pub returns-in-Ok-Err-clause-err : goal.returns-in-Ok-Err-clause-err
unfolding groups_of
returns-in-Ok-Err-clause-err c =
    IsMisspelt-option_map sum_of (parted colon (group_of 1) low_groups_of) c.args.text.now (c.in-Some.i + 1 + c.in-Ok-Err.at)
    (after_misspelt colon (group_of 1) low_groups_of (group_unmarked 1 colon refl) low_groups_has_text c.args.text.now c.in-Some.i c.in-Ok-Err.at c.in-Ok-Err.field-0-0
    (sym c.in-Some.ensures) c.in-Ok-Err.ensures.ok (rw (take_rest c.args.text.now (c.in-Some.i + 1)) at c.in-Ok-Err.ensures'.err))

pub returns-in-Ok-Ok-clause-ok : goal.returns-in-Ok-Ok-clause-ok
unfolding groups_of
returns-in-Ok-Ok-clause-ok c =
    ap (option_map sum_of) (parted_both colon (group_of 1) low_groups_of c.args.text.now c.in-Some.i c.in-Ok-Ok.high
    c.in-Ok-Ok.low (sym c.in-Some.ensures) c.in-Ok-Ok.ensures.ok (rw (take_rest c.args.text.now (c.in-Some.i + 1)) at c.in-Ok-Ok.ensures'.ok))
