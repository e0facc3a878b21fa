use Rattle.std.proofs.Common.{ap, ◌∙◌}
use Rattle.clap.specs.Words.{is_simple, is_simple_and_free}
use Rattle.epic_words.proofs.Laws.{accepts, finds, fault_among, refuses, run_is_free, run_is_simple}
use Rattle.epic_words.proofs.command.parse.Goals as goal

pub returns-in-Ok-try_get_matches_from-clause-takes :
    goal.returns-in-Ok-try_get_matches_from-clause-takes
returns-in-Ok-try_get_matches_from-clause-takes c =
    let is = c.in-Ok.ensures in
    let ok = c.in-Ok-try_get_matches_from.ensures in (
      accepts _ _ _ is (ok.kinds (ap is_simple_and_free is ∙ run_is_free)),
      finds _ _ _ _ is ((ok.matches (ap is_simple is ∙ run_is_simple)).0),
    )

pub returns : goal.returns
returns c =
    let is = c.in-Ok.ensures in
    let kinds = c.in-Err.ensures.kinds (ap is_simple_and_free is ∙ run_is_free) in
    record {
      takes = tt;
      refuses = λ same. refuses _ _ _ _ is (fault_among _ c.in-Err.error
          (λ e. c.in_default-kind.not-OutOfMemory (c.kind.ensures ∙ e)) kinds);
    }
