-- The chain of a hop breaks between it and the hop that was passed before it.
use Rattle.std.proofs.Common.{◌≡◌, ℕ, zero, suc, ◌-◌, Bool, true, false, ◌||◌, List, [], ◌∷◌, Option, Some, None, refl, ap, ◌∙◌}
use Rattle.std.specs.Prelude.{◌==◌, option_map, option_and_then, slice_get, if◌then◌else◌}
use Rattle.std.specs.List.{list_any}
use Rattle.std.specs.Option.{option_map_or}
use Rattle.epic_num.specs.Chains.{Issue, issue_at}
use Rattle.epic_num.specs.declared.hop.HopName.{HopName}
use Rattle.epic_layout.specs.Contents.{Contents}
use Rattle.epic_layout.specs.Route.{place, is_first}
use Rattle.epic_ledger.specs.Facts.{Facts, Pass, pass_name}
use Rattle.epic_ledger.specs.Queries.{chain_pass}
use Rattle.epic_audit.specs.Clauses.{higher, lower}
use Rattle.epic_audit.specs.Searches.{passed_before}
use Rattle.epic_audit.specs.Verdicts.{broken_between, broken_chain, is_child}

pub broken_is : (f : Facts) (x : HopName) (p : Contents) (j : ℕ) (r : Option HopName) → r ≡ passed_before f p j
    → option_and_then (λ w. broken_between f.issues (higher w x) (lower w x)) r ≡ broken_chain f x p j
unfolding passed_before broken_chain
broken_is f x p j r e =
    ap (option_and_then (λ w. broken_between f.issues (higher w x) (lower w x))) e
    ∙ by (is_first (place p.route.segments j)) (chain_pass f.passes p.route (j - 1))
  where
    by : (b : Bool) (o : Option Pass)
        → option_and_then (λ w. broken_between f.issues (higher w x) (lower w x)) (if b then None else option_map pass_name o)
        ≡ (if b then None else option_and_then (λ w. broken_between f.issues (higher (pass_name w) x) (lower (pass_name w) x)) o)
    by true o = refl
    by false None = refl
    by false (Some w) = refl
