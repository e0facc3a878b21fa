use Rattle.std.proofs.Common.{rules}
use Rattle.std.proofs.lemmas.Map.Made.{filter_same_pairs}
use Rattle.epic_window.specs.Counts.{is_kept}
use Rattle.epic_window.proofs.sweep.keep_turns.Goals as goal

pub returns-clause-entries : goal.returns-clause-entries
unfolding is_kept
returns-clause-entries c = filter_same_pairs _ (is_kept c.args.first) _ (λ k v b w f' t. search rules) _ _ c.retain.ensures.filtered
