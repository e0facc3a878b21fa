use Rattle.std.proofs.Common.{ℕ, ◌+◌, arith, ap, option_map, sym}
use Rattle.epic_num.specs.declared.name.HostId.{HostId}
use Rattle.epic_num.specs.Names.{as_from, comma, host_from, number_within, parted}
use Rattle.std.proofs.lemmas.List.{take_rest}
use Rattle.epic_num.proofs.Fronts.{HasText}
use Rattle.epic_num.proofs.Misspelt.{IsMisspelt-option_map, after_misspelt, before_misspelt, unmarked}
use Rattle.epic_num.proofs.OneSpelling.{as_unmarked, number_has_text}
use Rattle.epic_num.proofs.Parts.{parted_both}
use Rattle.epic_num.proofs.read_parts.host.Goals as goal

abbrev host_at : ℕ × ℕ → HostId
host_at p = record { asn = record { 0 = p.0 }; host = p.1 }

abbrev most : ℕ
most = 0xffff_ffff

host_number : HasText (number_within most)
host_number = number_has_text most (omega arith)

pub returns-in_default-clause-err : goal.returns-in_default-clause-err
unfolding host_from
returns-in_default-clause-err c =
    IsMisspelt-option_map host_at (parted comma (as_from c.args.least) (number_within most)) c.args.text.now c.end_of.result
    (unmarked comma (as_from c.args.least) (number_within most) (as_unmarked c.args.least) host_number c.args.text.now c.as_number.result c.end_of.result (sym c.in_default.ensures)
    c.as_number.ensures.ok c.as_number.ensures.err c.end_of.ensures.ok c.end_of.ensures.err)

pub returns-in-Err-default-clause-err : goal.returns-in-Err-default-clause-err
unfolding host_from
returns-in-Err-default-clause-err c =
    IsMisspelt-option_map host_at (parted comma (as_from c.args.least) (number_within most)) c.args.text.now c.in-Err-default.at
    (before_misspelt comma (as_from c.args.least) (number_within most) (as_unmarked c.args.least) host_number c.args.text.now c.in-Some.i c.in-Err-default.at (sym c.in-Some.ensures)
    c.in-Err-default.ensures.err)

pub returns-in-Ok-Err-clause-err : goal.returns-in-Ok-Err-clause-err
unfolding host_from number_within
returns-in-Ok-Err-clause-err c =
    IsMisspelt-option_map host_at (parted comma (as_from c.args.least) (number_within most)) c.args.text.now (c.in-Some.i + 1 + c.in-Ok-Err.at)
    (after_misspelt comma (as_from c.args.least) (number_within most) (as_unmarked c.args.least) host_number c.args.text.now c.in-Some.i c.in-Ok-Err.at c.in-Ok-Err.field-0-0
    (sym c.in-Some.ensures) c.in-Ok-Err.ensures.ok (rw (take_rest c.args.text.now (c.in-Some.i + 1)) at c.in-Ok-Err.ensures'.err))

pub returns-in-Ok-Ok-clause-ok : goal.returns-in-Ok-Ok-clause-ok
unfolding host_from number_within
returns-in-Ok-Ok-clause-ok c =
    ap (option_map host_at) (parted_both comma (as_from c.args.least) (number_within most) c.args.text.now c.in-Some.i c.in-Ok-Ok.a
    c.in-Ok-Ok.host (sym c.in-Some.ensures) c.in-Ok-Ok.ensures.ok (rw (take_rest c.args.text.now (c.in-Some.i + 1)) at c.in-Ok-Ok.ensures'.ok))
