use Rattle.std.proofs.Common.{◌≡◌, ◌∙◌, ap, codes, sym}
use Rattle.std.proofs.lemmas.Result.{err_from_is_err_and}
use Rattle.epic_words.specs.Answers.{names_in}
use Rattle.epic_words.specs.Request.{RunRequest, unless_shared}
use Rattle.epic_words.proofs.Laws.{asked_by, no_numbers, unshared, value_read}
use Rattle.epic_words.proofs.run.run_words.Goals as goal

pub returns-in_err-police-clause-asks : goal.returns-in_err-police-clause-asks
returns-in_err-police-clause-asks c =
    let m = c.in_ok-matches.matches in
    let takes = c.in_ok-matches.ensures.takes in
    let budget = value_read m (codes "budget") c.get_str.result c.get_str.ensures in
    let span = value_read m (codes "span") c.get_str-2.result c.get_str-2.ensures in
    let p = err_from_is_err_and c.from_residual-in_err-police.result
    c.from_residual-in_err-police.ensures.1 in
    rw (p.1, p.2) (no_numbers _ _ _ _ _ takes.0 takes.1 budget span c.in_err-police.ensures.value)

pub returns-clause-asks : goal.returns-clause-asks
returns-clause-asks c =
    let m = c.in_ok-matches.matches in
    let takes = c.in_ok-matches.ensures.takes in
    let budget = value_read m (codes "budget") c.get_str.result c.get_str.ensures in
    let span = value_read m (codes "span") c.get_str-2.result c.get_str-2.ensures in
    asked_by _ _ _ _ _ takes.0 takes.1 budget span c.in_ok-police.ensures.value
    ∙ ap (λ (r : RunRequest). unless_shared r) (sym c.names-names.ensures.value)
    ∙ unshared (names_in c.names-names.result) (sym c.shares_files.ensures ∙ c.if-shares_files.false)
