use Rattle.std.proofs.Common.{◌∙◌, ap, rules}
use Rattle.std.specs.Cmp.{nat_eq_equiv, on_equiv}
use Rattle.std.specs.Map.{lookup}
use Rattle.std.specs.Prelude.{◌==◌, nat_lt}
use Rattle.std.proofs.lemmas.Map.Entries.{lookup-filter-values}
use Rattle.std.proofs.lemmas.Map.Made.{filter_same_pairs}
use Rattle.epic_num.specs.declared.name.AsId.{AsId}
use Rattle.epic_window.specs.Counts.{total_of}
use Rattle.epic_window.specs.declared.totals.Total.{Total}
use Rattle.epic_window.proofs.Sweeping.{totals_kept}
use Rattle.epic_window.proofs.sweep.keep_totals.Goals as goal

pub returns-clause-totals : goal.returns-clause-totals
unfolding total_of
returns-clause-totals c a =
    let kept = filter_same_pairs _ (λ t. nat_lt 0 t.1.live) _ (λ k v b w f' t. search rules) _ _ c.retain.ensures.filtered in
    totals_kept
    c.args.totals.now.entries
    a
    (lookup (λ b. a.0 == b.0) c.retain.new.self.entries)
    (ap (lookup (λ (b : AsId). a.0 == b.0)) kept
    ∙ lookup-filter-values (on_equiv (λ (b : AsId). b.0) nat_eq_equiv) (λ (t : Total). nat_lt 0 t.live) a c.args.totals.now.entries c.retain.ensures.was_unique)
