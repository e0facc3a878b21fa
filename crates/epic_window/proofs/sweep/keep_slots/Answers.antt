use Rattle.std.proofs.Common.{rules}
use Rattle.std.specs.Prelude.{nat_le}
use Rattle.std.proofs.lemmas.Map.Made.{filter_same_pairs}
use Rattle.epic_window.proofs.sweep.keep_slots.Goals as goal

pub returns-clause-entries : goal.returns-clause-entries
returns-clause-entries c = filter_same_pairs _ (λ s. nat_le c.args.first s.0.bucket) _ (λ k v b w f' t. search rules) _ _ c.retain.ensures.filtered
