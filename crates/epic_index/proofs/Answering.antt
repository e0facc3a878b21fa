-- The ledger of an index answers as the index's history does.
use Rattle.std.proofs.Common.{◌≡◌, ℕ, zero, suc, ◌≤◌, add-one, Bool, true, false, List, [], ◌∷◌, length, Option, Some, None, refl, sym, ap, ◌∙◌, arith}
use Rattle.std.specs.Prelude.{is_some, find, slice_get, ◌+◌, option_map}
use Rattle.std.specs.Option.{option_map_or}
use Rattle.epic_num.proofs.ChainLaws.{issue_at-suc}
use Rattle.epic_num.specs.Chains.{Issue, issue_at}
use Rattle.epic_num.specs.Same.{same_holder}
use Rattle.epic_num.specs.declared.hop.HopName.{HopName}
use Rattle.epic_num.specs.declared.key_name.Holder.{Holder}
use Rattle.epic_num.specs.declared.name.HostId.{HostId}
use Rattle.epic_audit.specs.Reveals.{is_revealed}
use Rattle.epic_ledger.specs.History.{History}
use Rattle.epic_ledger.specs.Facts.{Pass, as_pass, as_reveal, facts_of, reveals_in}
use Rattle.epic_ledger.specs.Queries.{send_hop, pass_of, is_pass_of, reveal_of}
use Rattle.epic_ledger.specs.declared.event.Event.{Event}
use Rattle.epic_ledger.specs.declared.event.Event.TheVariants as event
use Rattle.epic_index.specs.Stepping.{at_step, stepped}
use Rattle.epic_index.specs.Indexes.{history_of, IsApart}
use Rattle.epic_index.proofs.Steps.{issues_stepped, sends_stepped, passes_stepped, position_stepped, pass_at_step}

pub index_issues : (h : History) (steps : List ℕ) → IsApart h steps → (facts_of (history_of h steps)).issues ≡ (facts_of h).issues
unfolding facts_of
index_issues h steps i = issues_stepped h steps i.count

pub index_sends : (h : History) (steps : List ℕ) → IsApart h steps → (facts_of (history_of h steps)).sends ≡ (facts_of h).sends
unfolding facts_of
index_sends h steps i = sends_stepped h steps i.count

pub index_passes : (h : History) (steps : List ℕ) → IsApart h steps → (facts_of (history_of h steps)).passes ≡ (facts_of h).passes
unfolding facts_of
index_passes h steps i = passes_stepped h steps i.count

pub index_send_hop : (h : History) (steps : List ℕ) (src : HostId) (ts hop : ℕ) → IsApart h steps → send_hop (facts_of (history_of h steps)) src ts hop ≡ send_hop (facts_of h) src ts hop
unfolding send_hop
index_send_hop h steps src ts hop i = rw (index_issues h steps i, index_sends h steps i)

pub index_pass_of : (h : History) (steps : List ℕ) (first : ℕ) (x : HopName) (src : HostId) (ts hop : ℕ) → IsApart h steps → pass_of (history_of h steps) first x src ts hop ≡ pass_of h first x src ts hop
unfolding pass_of
index_pass_of h steps first x src ts hop i =
    position_stepped
    (λ e. option_map_or (is_pass_of first x src ts hop) (as_pass h.emissions e) false)
    (λ s e. ap (λ (o : Option Pass). option_map_or (is_pass_of first x src ts hop) o false) (pass_at_step h.emissions s e))
    steps
    h.events
    i.count

is_some-map : {X Y : Type 0} (f : X → Y) (o : Option X) → is_some (option_map f o) ≡ is_some o
is_some-map f None = refl
is_some-map f (Some x) = refl

-- whether a holder was revealed doesn't depend on steps
reveals_stepped : (steps : List ℕ) (es : List Event) (x : Holder) → length steps ≡ length es → is_some (find (λ r. same_holder r.holder x) (reveals_in (stepped steps es))) ≡ is_some (find (λ r. same_holder r.holder x) (reveals_in es))
unfolding at_step as_reveal
reveals_stepped [] [] x h = refl
reveals_stepped [] (e ∷ es) x h = absurd (omega arith)
reveals_stepped (s ∷ ss) [] x h = refl
reveals_stepped (s ∷ ss) (event.Issue step number name parent ∷ es) x h = reveals_stepped ss es x (omega arith)
reveals_stepped (s ∷ ss) (event.Fetch step source owner epoch ∷ es) x h = reveals_stepped ss es x (omega arith)
reveals_stepped (s ∷ ss) (event.Send step emission segments ∷ es) x h = reveals_stepped ss es x (omega arith)
reveals_stepped (s ∷ ss) (event.Pass step a hop generation emission ∷ es) x h = reveals_stepped ss es x (omega arith)
reveals_stepped (s ∷ ss) (event.Arrive step host src ts hops checked ∷ es) x h = reveals_stepped ss es x (omega arith)
reveals_stepped (s ∷ ss) (event.Roll step a generation ∷ es) x h = reveals_stepped ss es x (omega arith)
reveals_stepped (s ∷ ss) (event.Reveal step holder ∷ es) x h = go (same_holder holder x) refl (reveals_stepped ss es x (omega arith))
  where
    go : (b : Bool) → same_holder holder x ≡ b → is_some (find (λ r. same_holder r.holder x) (reveals_in (stepped ss es))) ≡ is_some (find (λ r. same_holder r.holder x) (reveals_in es)) → is_some (find (λ r. same_holder r.holder x) (reveals_in (stepped (s ∷ ss) (event.Reveal step holder ∷ es)))) ≡ is_some (find (λ r. same_holder r.holder x) (reveals_in (event.Reveal step holder ∷ es)))
    go true e more = simp e
    go false e more = simp e more

pub index_revealed : (h : History) (steps : List ℕ) (x : Holder) (o : Option ℕ) → IsApart h steps → o ≡ option_map (λ r. r.step) (reveal_of (facts_of h).reveals x) → is_some o ≡ is_revealed (facts_of (history_of h steps)).reveals x
unfolding facts_of is_revealed reveal_of
index_revealed h steps x o i e =
    ap is_some e ∙ is_some-map (λ r. r.step) (find (λ r. same_holder r.holder x) (reveals_in h.events)) ∙ sym (reveals_stepped steps h.events x i.count)

no_name_at_all : (issues : List Issue) (row : ℕ) → length issues ≤ row → None ≡ option_map (λ i. i.name) (slice_get issues row)
no_name_at_all [] row h = refl
no_name_at_all (x ∷ xs) zero h = absurd (omega arith)
no_name_at_all (x ∷ xs) (suc row) h = no_name_at_all xs row (omega arith)

pub no_name_at : (h : History) (steps : List ℕ) (row : ℕ) → IsApart h steps → length (facts_of h).issues ≤ row → None ≡ option_map (λ i. i.name) (slice_get (facts_of (history_of h steps)).issues row)
no_name_at h steps row i e = rw (index_issues h steps i) (no_name_at_all (facts_of h).issues row e)

first_of_both : (o : Option Issue) → option_map (λ x. x.0) (option_map {U = HopName × ℕ} (λ i. (i.name, i.parent)) o) ≡ option_map (λ i. i.name) o
first_of_both None = refl
first_of_both (Some i) = refl

pub name_there : (h : History) (steps : List ℕ) (row : ℕ) (o p : Option (HopName × ℕ)) → IsApart h steps → o ≡ option_map (λ i. (i.name, i.parent)) (issue_at (facts_of h).issues (row + 1)) → o ≡ p → option_map (λ x. x.0) p ≡ option_map (λ i. i.name) (slice_get (facts_of (history_of h steps)).issues row)
name_there h steps row o p i e q =
    rw (index_issues h steps i, ← q, e, add-one, issue_at-suc (facts_of h).issues row) (first_of_both (slice_get (facts_of h).issues row))
