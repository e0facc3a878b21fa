use Rattle.std.proofs.Common.{◌≡◌, ap, rules}
use Rattle.std.specs.Ordering.{is_lt}
use Rattle.std.proofs.lemmas.List.Sorted.{answers_always}
use Rattle.epic_path.specs.Routes.{path_cmp}
use Rattle.epic_path.proofs.OrderLaws.{path_weak}
use Rattle.epic_path.proofs.paths.sort.Goals as goal

pub returns-clause-sorted : goal.returns-clause-sorted
returns-clause-sorted c =
    c.sort_unstable_by.ensures.sorted (λ p q. is_lt (path_cmp p q)) path_weak
    (answers_always _ (λ a r. is_lt r ≡ is_lt (path_cmp a.0.now a.1.0.now)) _ (λ f a r f' k. let same : r ≡ path_cmp a.0.now a.1.0.now = search rules in ap is_lt same))
