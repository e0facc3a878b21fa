use Rattle.std.proofs.Common.{ap, ap₂, true, ◌∙◌}
use Rattle.std.proofs.lemmas.Result.{IfOk-weaker}
use Rattle.clap.specs.Words.{with_rule}
use Rattle.clap.specs.Simple.{app_of_fields, on_top}
use Rattle.epic_words.specs.RunCommand.{run_command}
use Rattle.epic_words.proofs.command.run_command.Goals as goal

pub returns : goal.returns
unfolding run_command
returns c =
    let named = ap app_of_fields c.no_binary_name.ensures
    ∙ ap (on_top (λ s. record s { no_binary_name = true })) c.new.ensures.app in
    let unhelped = ap app_of_fields c.disable_help_flag.ensures
    ∙ ap (on_top (λ s. record s { disable_help_flag = true })) named in
    let bare = ap app_of_fields c.disable_version_flag-bare.ensures
    ∙ ap (on_top (λ s. record s { disable_version_flag = true })) unhelped in
    let topology = c.in_ok-arg.ensures.shape c.positional.ensures.local
    ∙ ap₂ with_rule bare c.positional.ensures.rule in
    let script = c.in_ok-arg-2.ensures.shape c.positional-2.ensures.local
    ∙ ap₂ with_rule topology c.positional-2.ensures.rule in
    let capture = c.in_ok-arg-3.ensures.shape c.option.ensures.local
    ∙ ap₂ with_rule script c.option.ensures.rule in
    let save = c.in_ok-arg-4.ensures.shape c.option-2.ensures.local
    ∙ ap₂ with_rule capture c.option-2.ensures.rule in
    let ledger = c.in_ok-arg-5.ensures.shape c.option-3.ensures.local
    ∙ ap₂ with_rule save c.option-3.ensures.rule in
    let verdicts = c.in_ok-arg-6.ensures.shape c.option-4.ensures.local
    ∙ ap₂ with_rule ledger c.option-4.ensures.rule in
    let makers = c.in_ok-arg-7.ensures.shape c.flag.ensures.local
    ∙ ap₂ with_rule verdicts c.flag.ensures.rule in
    let budget = c.in_ok-arg-8.ensures.shape c.option-5.ensures.local
    ∙ ap₂ with_rule makers c.option-5.ensures.rule in
    IfOk-weaker c.arg-9.result _ _ (λ command adds. adds.shape c.option-6.ensures.local
    ∙ ap₂ with_rule budget c.option-6.ensures.rule) c.arg-9.ensures
