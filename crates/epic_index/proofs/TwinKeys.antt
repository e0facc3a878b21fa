-- An issue is found by its AS and authenticator.
use Rattle.std.proofs.Common.{◌≡◌, ℕ, Bool, true, false, List, [], ◌∷◌, ◌++◌, length, Option, Some, None, cond, nat_lt, sym, ap, ◌∙◌}
use Rattle.std.specs.Prelude.{position, find, option_map, slice_get}
use Rattle.epic_num.specs.Same.{same_as}
use Rattle.epic_num.specs.Chains.{Issue}
use Rattle.epic_num.specs.declared.hop.HopName.{HopName}
use Rattle.epic_topo.specs.Network.{Network}
use Rattle.epic_fields.specs.Tags.{sigma}
use Rattle.epic_audit.specs.Verdicts.{is_twin}
use Rattle.epic_ledger.proofs.Logging.{position-map}
use Rattle.epic_audit.proofs.Finds.{missing_at}
use Rattle.epic_ledger.specs.Facts.{as_issue, issues_in, facts_of}
use Rattle.epic_ledger.specs.History.{History}
use Rattle.epic_ledger.specs.declared.event.Event.{Event}
use Rattle.epic_index.specs.Holding.{Held}
use Rattle.epic_index.specs.Indexes.{history_of, IsIndexOf}
use Rattle.epic_index.proofs.NameKeys.{eq_flip, bytes_flip}
use Rattle.epic_index.specs.Stepping.{at_step}
use Rattle.epic_index.proofs.Steps.{issue_at_step, issues_stepped}
use Rattle.std.specs.List.{cons_option, position_or_len}
use Rattle.std.proofs.lemmas.List.{map-append}
use Rattle.std.proofs.lemmas.List.Elements.{filter_map-append}
use Rattle.std.proofs.lemmas.List.Folds.{find_at}
use Rattle.std.proofs.lemmas.Option.{same_Some}
use Rattle.epic_index.specs.Twins.{twin_eq, twin_key, twin_keys}
use Rattle.epic_index.specs.declared.twins.TwinKey.{TwinKey}

key_matches : (t : Network) (x y : HopName) → twin_eq (twin_key t x) (twin_key t y) ≡ is_twin t x y
unfolding twin_key is_twin same_as
key_matches t x y = rw (eq_flip x.asn.0 y.asn.0, bytes_flip (sigma t x) (sigma t y))

pub twin_found : (t : Network) (issues : List Issue) (keys : List TwinKey) (x : HopName) (key : TwinKey) (o : Option ℕ) → keys ≡ twin_keys t issues → key ≡ twin_key t x → o ≡ position (twin_eq key) keys → o ≡ position (λ i. is_twin t x i.name) issues
twin_found t issues keys x key o e k f =
    f
    ∙ rw (e, k) (position-map (twin_eq (twin_key t x)) (λ (i : Issue). twin_key t i.name) issues)
    ∙ ap (λ (q : Issue → Bool). position q issues) (λ i z. key_matches t x z.name i)

issues_once : (e : Event) → issues_in (at_step 0 e ∷ []) ≡ issues_in (e ∷ [])
issues_once e = ap (λ (o : Option Issue). cons_option o []) (issue_at_step 0 e)

-- one event more
pub issued_push : (t : Network) (events : List Event) (e : Event) (keys : List TwinKey) → keys ≡ twin_keys t (issues_in events) → keys ++ twin_keys t (issues_in (e ∷ [])) ≡ twin_keys t (issues_in (events ++ at_step 0 e ∷ []))
issued_push t events e keys k =
    rw (k, filter_map-append as_issue events (at_step 0 e ∷ []), issues_once e)
    (sym (map-append (λ (i : Issue). twin_key t i.name) (issues_in events) (issues_in (e ∷ []))))

some_is : (b : Bool) (l i : ℕ) → cond b (Some l) None ≡ Some i → l ≡ i
some_is true l i e = same_Some l i e
some_is false l i e = absurd (cc)

pub find_position : {X : Type 0} (p : X → Bool) (xs : List X) (i : ℕ) → position p xs ≡ Some i → find p xs ≡ slice_get xs i
find_position p xs i e =
    find_at p xs ∙ ap (slice_get xs) (some_is (nat_lt (position_or_len p xs) (length xs)) (position_or_len p xs) i e)

pub find_none : (t : Network) (h : History) (steps : List ℕ) (held : Held) (x : HopName) (key : TwinKey) (o : Option ℕ) → IsIndexOf t h steps held → key ≡ twin_key t x → o ≡ position (twin_eq key) held.twins → o ≡ None → None ≡ option_map (λ i. i.name) (find (λ i. is_twin t x i.name) (facts_of (history_of h steps)).issues)
unfolding facts_of
find_none t h steps held x key o i k f n =
    rw (issues_stepped h steps i.apart.count)
    (ap (option_map (λ (i : Issue). i.name)) (sym (missing_at (λ i. is_twin t x i.name) (issues_in h.events) (sym (twin_found t (issues_in h.events) held.twins x key o i.held_is.issued k f) ∙ n))))

pub find_some : (t : Network) (h : History) (steps : List ℕ) (held : Held) (x : HopName) (key : TwinKey) (o : Option ℕ) (row : ℕ) (named : Option HopName) → IsIndexOf t h steps held → key ≡ twin_key t x → o ≡ position (twin_eq key) held.twins → o ≡ Some row → named ≡ option_map (λ i. i.name) (slice_get (facts_of (history_of h steps)).issues row) → named ≡ option_map (λ i. i.name) (find (λ i. is_twin t x i.name) (facts_of (history_of h steps)).issues)
unfolding facts_of
find_some t h steps held x key o row named i k f n e =
    rw (issues_stepped h steps i.apart.count)
    (rw (issues_stepped h steps i.apart.count) at e
    ∙ ap (option_map (λ (i : Issue). i.name)) (sym (find_position (λ i. is_twin t x i.name) (issues_in h.events) row (sym (twin_found t (issues_in h.events) held.twins x key o i.held_is.issued k f) ∙ n))))
