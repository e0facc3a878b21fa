-- Issues that are kept apart from the events.
use Rattle.std.proofs.Common.{◌≡◌, ℕ, suc, ◌+◌, ◌≤◌, Bool, List, [], ◌∷◌, ◌++◌, length, map, refl, sym, ◌∙◌, ap, arith}
use Rattle.std.specs.Prelude.{option_map, position}
use Rattle.std.specs.List.{position_or_len}
use Rattle.std.specs.Option.{option_map_or}
use Rattle.std.proofs.lemmas.List.{length-map, length_push}
use Rattle.std.proofs.lemmas.List.Elements.{filter_map-append}
use Rattle.epic_num.specs.Chains.{Issue, issue_at}
use Rattle.epic_num.specs.Same.{same_name}
use Rattle.epic_num.specs.declared.hop.HopName.{HopName}
use Rattle.epic_ledger.specs.Facts.{issues_in, as_issue}
use Rattle.epic_num.specs.Chains.{ancestor, no_name}
use Rattle.epic_ledger.specs.Queries.{issue_of}
use Rattle.epic_ledger.specs.Rows.{IsLog, issue_in}
use Rattle.epic_tree.specs.Index.{IsTagged}
use Rattle.epic_tree.specs.Sides.{Ordered}
use Rattle.epic_ledger.specs.Ranks.{name_cmp, name_tag, names_of}
use Rattle.epic_ledger.specs.declared.event.Event.{Event}
use Rattle.epic_ledger.specs.declared.log.Issued.{Issued}
use Rattle.epic_ledger.specs.declared.limits.TheConstants.{MAX_EVENTS}

pub log_push : (events : List Event) (e : Event) (issues more : List Issued) (names later : Ordered) → IsLog events issues names
    → IsTagged name_cmp name_tag no_name (names_of more) later → map issue_in more ≡ map issue_in issues ++ issues_in (e ∷ []) → length more ≤ length issues + 1 → length events + 1 ≤ MAX_EVENTS
    → IsLog (events ++ e ∷ []) more later
log_push events e issues more names later h named same few_more few = record {
  issued = same ∙ (ap (λ (is : List Issue). is ++ issues_in (e ∷ [])) h.issued ∙ sym (filter_map-append as_issue events (e ∷ [])));
  few = omega (arith, length_push events e);
  few_issues = let before = h.few_issues in omega (arith, length_push events e);
  named = named;
}

position_or_len-map : {X Y : Type 0} (p : Y → Bool) (f : X → Y) (xs : List X) → position_or_len p (map f xs) ≡ position_or_len (λ x. p (f x)) xs
position_or_len-map p f [] = refl
position_or_len-map p f (x ∷ xs) = simp (position_or_len-map p f xs)

pub position-map : {X Y : Type 0} (p : Y → Bool) (f : X → Y) (xs : List X) → position p (map f xs) ≡ position (λ x. p (f x)) xs
position-map p f xs = rw (position_or_len-map p f xs, length-map xs f)

pub issue_of-log : (events : List Event) (issues : List Issued) (names : Ordered) (x : HopName) → IsLog events issues names
    → issue_of (issues_in events) x ≡ option_map suc (position (λ i. same_name i.name x) issues)
unfolding issue_of issue_in
issue_of-log events issues names x h =
    ap (λ (is : List Issue). option_map suc (position (λ i. same_name i.name x) is)) (sym h.issued)
    ∙ ap (option_map suc) (position-map (λ (i : Issue). same_name i.name x) issue_in issues)

pub ancestor-zero : (issues : List Issue) (n : ℕ) → ancestor issues n 0 ≡ n
unfolding ancestor
ancestor-zero issues n = refl

pub ancestor-suc : (issues : List Issue) (n k : ℕ) → ancestor issues n (suc k) ≡ ancestor issues (option_map_or (λ i. i.parent) (issue_at issues n) 0) k
unfolding ancestor
ancestor-suc issues n k = refl
