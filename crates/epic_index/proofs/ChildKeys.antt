-- An issue that goes on from another is found by its key.
use Rattle.std.proofs.Common.{◌≡◌, ℕ, ◌≤◌, List, [], ◌∷◌, ◌++◌, length, Option, Some, None, refl, sym, ap, ◌∙◌, arith}
use Rattle.std.specs.Prelude.{is_some, ◌&&◌}
use Rattle.std.specs.List.{list_any}
use Rattle.std.specs.Option.{option_map_or}
use Rattle.epic_num.proofs.ChainLaws.{name_of-append}
use Rattle.epic_num.specs.Chains.{Issue, name_of}
use Rattle.epic_num.specs.Same.{same_name}
use Rattle.epic_num.specs.declared.hop.HopName.{HopName}
use Rattle.epic_topo.specs.Network.{Network}
use Rattle.epic_audit.specs.Verdicts.{is_child, is_named}
use Rattle.epic_ledger.specs.Facts.{as_issue, issues_in, facts_of}
use Rattle.epic_ledger.specs.History.{History, Emission}
use Rattle.epic_ledger.specs.Lawful.{Fits}
use Rattle.epic_ledger.specs.declared.event.Event.{Event}
use Rattle.epic_ledger.specs.declared.event.Event.TheVariants as event
use Rattle.epic_index.specs.Children.{child_eq, child_key, child_keys, child_rows}
use Rattle.epic_index.specs.Holding.{Held}
use Rattle.epic_index.specs.Indexes.{history_of, IsIndexOf}
use Rattle.epic_index.specs.Numbered.{Numbered, AreRows, first_of}
use Rattle.epic_index.specs.Stepping.{at_step}
use Rattle.epic_index.specs.declared.children.ChildKey.{ChildKey}
use Rattle.epic_index.proofs.Answering.{index_issues}
use Rattle.epic_index.proofs.ByNumber.{fact_found, some_fact}
use Rattle.epic_index.proofs.NameKeys.{name_matches, never, or_none}
use Rattle.epic_index.proofs.Steps.{issue_at_step}

child_matches : (issues : List Issue) (y z : HopName) (i : Issue) → list_any (child_eq (child_key y z)) (child_keys issues i) ≡ is_child issues y z i
unfolding is_child child_key
child_matches issues y z i = by (name_of issues i.parent)
  where
    by : (o : Option HopName) → list_any (child_eq (child_key y z)) (option_map_or (λ w. child_key i.name w ∷ []) o []) ≡ (same_name i.name y && is_named z o)
    by None = sym (never (same_name i.name y))
    by (Some w) = or_none _ ∙ (λ j. name_matches y i.name j && name_matches z w j)

child_found : (issues : List Issue) (es : List Event) (rows : Numbered ChildKey) (y z : HopName) (key : ChildKey) (o : Option ℕ)
    → AreRows (child_rows issues) es rows → issues ≡ issues_in es → key ≡ child_key y z
    → o ≡ first_of child_eq key rows → is_some o ≡ list_any (is_child issues y z) issues
unfolding child_rows
child_found issues es rows y z key o h same k e =
    ap is_some
    (e
    ∙ ap (λ (c : ChildKey). first_of child_eq c rows) k
    ∙ fact_found as_issue (child_keys issues) (is_child issues y z) (child_eq (child_key y z)) es rows h (child_matches issues y z))
    ∙ some_fact as_issue (is_child issues y z) es
    ∙ ap (list_any (is_child issues y z)) (sym same)

pub index_child : (t : Network) (h : History) (steps : List ℕ) (held : Held) (y z : HopName) (key : ChildKey) (o : Option ℕ) → IsIndexOf t h steps held
    → key ≡ child_key y z → o ≡ first_of child_eq key held.children
    → is_some o ≡ list_any (is_child (facts_of (history_of h steps)).issues y z) (facts_of (history_of h steps)).issues
unfolding facts_of
index_child t h steps held y z key o i k e =
    child_found (issues_in h.events) h.events held.children y z key o i.held_is.children refl k e
    ∙ ap (λ (is : List Issue). list_any (is_child is y z) is) (sym (index_issues h steps i.apart))

-- ---- growth

pub child_at_step : (issues : List Issue) (s : ℕ) (e : Event) → child_rows issues (at_step s e) ≡ child_rows issues e
unfolding child_rows
child_at_step issues s e = ap (λ (o : Option Issue). option_map_or (child_keys issues) o []) (issue_at_step s e)

-- what an issue goes on from keeps its name when more is issued
pub child_stays : (es : List Emission) (before issues more : List Issue) (e : Event) → Fits es before e → length before ≤ length issues
    → child_rows issues e ≡ child_rows (issues ++ more) e
unfolding child_rows as_issue
child_stays es before issues more (event.Issue step number name parent) h few =
    ap (λ (o : Option HopName). option_map_or (λ z. child_key name z ∷ []) o [])
    (sym (name_of-append issues more parent (omega (arith, h.next, h.earlier))))
child_stays es before issues more (event.Fetch step source owner epoch) h few = refl
child_stays es before issues more (event.Send step emission segments) h few = refl
child_stays es before issues more (event.Pass step a hop generation emission) h few = refl
child_stays es before issues more (event.Arrive step host src ts hops checked) h few = refl
child_stays es before issues more (event.Reveal step holder) h few = refl
child_stays es before issues more (event.Roll step a generation) h few = refl
