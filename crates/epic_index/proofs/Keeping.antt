-- The rows of an index when an event or an emission comes.
use Rattle.std.proofs.Common.{◌≡◌, ℕ, List, [], ◌∷◌, ◌++◌, length, take, refl, sym, ap, ◌∙◌, subst, arith}
use Rattle.std.proofs.lemmas.List.Elements.{filter_map-append}
use Rattle.epic_topo.specs.Network.{Network}
use Rattle.epic_ledger.specs.Facts.{as_issue, issues_in, facts_of}
use Rattle.epic_ledger.specs.History.{History, Emission, step_of}
use Rattle.epic_ledger.specs.Lawful.{Fits, IsLawful}
use Rattle.epic_ledger.specs.declared.event.Event.{Event}
use Rattle.epic_index.specs.Children.{child_rows}
use Rattle.epic_index.specs.Fields.{field_rows, update_rows}
use Rattle.epic_index.specs.Holding.{Held, IsHeld, with_rows}
use Rattle.epic_index.specs.Indexes.{IsApart, IsIndexOf}
use Rattle.epic_index.specs.Likes.{like_rows}
use Rattle.epic_index.specs.Numbered.{Numbered, AreRows}
use Rattle.epic_index.specs.Origins.{origin_rows, repeats}
use Rattle.epic_index.specs.Passes.{pass_rows}
use Rattle.epic_index.specs.Sources.{source_rows}
use Rattle.epic_index.specs.Stepping.{at_step, stepped}
use Rattle.epic_index.specs.declared.origins.OriginKey.{OriginKey}
use Rattle.epic_index.specs.Twins.{HasKnownAs}
use Rattle.epic_index.proofs.ByNumber.{rows_kept, rows_more, rows_none}
use Rattle.epic_index.proofs.ChildKeys.{child_at_step, child_stays}
use Rattle.epic_index.proofs.FieldKeys.{field_at_step, field_among, field_stays, update_at_step, update_among, issuers_more, nothing_issued}
use Rattle.epic_index.proofs.LikeKeys.{like_at_step, like_among}
use Rattle.epic_index.proofs.OriginKeys.{origin_at_step, origin_among, repeats-append}
use Rattle.epic_index.proofs.PassKeys.{pass_row_at_step, pass_among}
use Rattle.epic_index.proofs.RevealKeys.{revealed_push}
use Rattle.epic_index.proofs.Sending.{taken, parents_known}
use Rattle.epic_index.proofs.SourceKeys.{source_at_step, source_among, source_stays}
use Rattle.epic_index.proofs.Steps.{index_push, issues_stepped}
use Rattle.epic_index.proofs.TwinKeys.{issued_push}

-- one event more
module _ (t : Network) (h later : History) (e : Event) (lawful : IsLawful h) (fits : Fits h.emissions (issues_in h.events) e) (of_as : HasKnownAs t e) (events : later.events ≡ h.events ++ at_step 0 e ∷ []) (emissions : later.emissions ≡ h.emissions) where
  issues_more : issues_in later.events ≡ issues_in h.events ++ issues_in (at_step 0 e ∷ [])
  issues_more = ap issues_in events ∙ filter_map-append as_issue h.events (at_step 0 e ∷ [])

  children_more : (held : Held) → AreRows (child_rows (issues_in h.events)) h.events held.children
      → AreRows (child_rows (issues_in later.events)) later.events (with_rows t h (length h.events) e held).children
  unfolding facts_of
  children_more held rows =
      let more = issues_in (at_step 0 e ∷ []) in
      rw (issues_more, events)
      (rows_more (child_rows (issues_in h.events)) (child_rows (issues_in h.events ++ more)) h.events e (at_step 0 e) held.children rows
      (λ m x at. child_stays h.emissions (issues_in (take m h.events)) (issues_in h.events) more x (lawful.fit m x at) (taken as_issue m h.events))
      (child_stays h.emissions (issues_in h.events) (issues_in h.events) more e fits (omega arith) ∙ sym (child_at_step (issues_in h.events ++ more) 0 e)))

  sources_more : (held : Held) → AreRows (source_rows h.emissions (issues_in h.events)) h.events held.sources
      → AreRows (source_rows later.emissions (issues_in later.events)) later.events (with_rows t h (length h.events) e held).sources
  unfolding facts_of
  sources_more held rows =
      let known = parents_known h lawful in
      let more = issues_in (at_step 0 e ∷ []) in
      rw (issues_more, events, emissions)
      (rows_more (source_rows h.emissions (issues_in h.events)) (source_rows h.emissions (issues_in h.events ++ more)) h.events e (at_step 0 e) held.sources rows
      (λ m x at. source_stays h.emissions (issues_in (take m h.events)) (issues_in h.events) more x (lawful.fit m x at) (taken as_issue m h.events) known)
      (source_stays h.emissions (issues_in h.events) (issues_in h.events) more e fits (omega arith) known ∙ sym (source_at_step h.emissions (issues_in h.events ++ more) 0 e)))

  likes_more : (held : Held) → AreRows (like_rows h.emissions) h.events held.likes
      → AreRows (like_rows later.emissions) later.events (with_rows t h (length h.events) e held).likes
  likes_more held rows =
      rw (events, emissions)
      (rows_more (like_rows h.emissions) (like_rows h.emissions) h.events e (at_step 0 e) held.likes rows (λ m x at. refl) (sym (like_at_step h.emissions 0 e)))

  passes_more : (held : Held) → AreRows (pass_rows t h.emissions) h.events held.passes
      → AreRows (pass_rows t later.emissions) later.events (with_rows t h (length h.events) e held).passes
  passes_more held rows =
      rw (events, emissions)
      (rows_more (pass_rows t h.emissions) (pass_rows t h.emissions) h.events e (at_step 0 e) held.passes rows (λ m x at. refl) (sym (pass_row_at_step t h.emissions 0 e)))

  fields_more : (held : Held) → AreRows (field_rows t h.emissions (issues_in h.events)) h.events held.fields
      → AreRows (field_rows t later.emissions (issues_in later.events)) later.events (with_rows t h (length h.events) e held).fields
  unfolding facts_of
  fields_more held rows =
      let known = parents_known h lawful in
      let more = issues_in (at_step 0 e ∷ []) in
      rw (issues_more, events, emissions)
      (rows_more (field_rows t h.emissions (issues_in h.events)) (field_rows t h.emissions (issues_in h.events ++ more)) h.events e (at_step 0 e) held.fields rows
      (λ m x at. field_stays t h.emissions (issues_in (take m h.events)) (issues_in h.events) more x (lawful.fit m x at) (taken as_issue m h.events) known)
      (field_stays t h.emissions (issues_in h.events) (issues_in h.events) more e fits (omega arith) known ∙ sym (field_at_step t h.emissions (issues_in h.events ++ more) 0 e)))

  updates_more : (held : Held) → AreRows (update_rows t h.emissions) h.events held.updates
      → AreRows (update_rows t later.emissions) later.events (with_rows t h (length h.events) e held).updates
  updates_more held rows =
      rw (events, emissions)
      (rows_more (update_rows t h.emissions) (update_rows t h.emissions) h.events e (at_step 0 e) held.updates rows (λ m x at. refl) (sym (update_at_step t h.emissions 0 e)))

  origins_more : (held : Held) → AreRows (origin_rows h.emissions) h.events held.origins
      → AreRows (origin_rows later.emissions) later.events (with_rows t h (length h.events) e held).origins
  origins_more held rows =
      rw (events, emissions)
      (rows_more (origin_rows h.emissions) (origin_rows h.emissions) h.events e (at_step 0 e) held.origins rows (λ m x at. refl) (sym (origin_at_step h.emissions 0 e)))

  again_more : (held : Held) → held.again ≡ repeats [] held.origins.keys
      → (with_rows t h (length h.events) e held).again ≡ repeats [] (with_rows t h (length h.events) e held).origins.keys
  again_more held i =
      let new = origin_rows h.emissions e in
      ap (λ (l : List OriginKey). l ++ repeats held.origins.keys new) i ∙ sym (repeats-append [] held.origins.keys new)

  pub held_more : (steps : List ℕ) (held : Held) → IsApart h steps → IsHeld t h steps held → IsHeld t later (steps ++ step_of e ∷ []) (with_rows t h (length h.events) e held)
  held_more steps held apart i = record {
    revealed = rw events (revealed_push h steps e held.reveals apart i.revealed);
    issued = rw events (issued_push t h.events e held.twins i.issued);
    children = children_more held i.children;
    sources = sources_more held i.sources;
    likes = likes_more held i.likes;
    passes = passes_more held i.passes;
    fields = fields_more held i.fields;
    updates = updates_more held i.updates;
    origins = origins_more held i.origins;
    again = again_more held i.again;
    known = rw issues_more (issuers_more t (issues_in h.events) e i.known of_as);
  }

pub index_more : (t : Network) (h later : History) (steps : List ℕ) (e : Event) (held more : Held) (number : ℕ) → IsIndexOf t h steps held → IsLawful h
    → Fits h.emissions (issues_in (stepped steps h.events)) e → HasKnownAs t e → later.events ≡ h.events ++ at_step 0 e ∷ [] → later.emissions ≡ h.emissions
    → number ≡ length h.events → more ≡ with_rows t h number e held → IsIndexOf t later (steps ++ step_of e ∷ []) more
index_more t h later steps e held more number i lawful fits of_as events emissions at is = record {
  apart = index_push h later steps e i.apart events;
  held_is =
      subst (IsHeld t later (steps ++ step_of e ∷ [])) (sym (is ∙ ap (λ m. with_rows t h m e held) at))
      (held_more t h later e lawful (rw (issues_stepped h steps i.apart.count) at fits) of_as events emissions steps held i.apart i.held_is);
}

-- one emission more
pub index_among : (t : Network) (h later : History) (steps : List ℕ) (x : Emission) (held : Held) → IsIndexOf t h steps held → IsLawful h
    → later.events ≡ h.events → later.emissions ≡ h.emissions ++ x ∷ [] → IsIndexOf t later steps held
index_among t h later steps x held i lawful events emissions = record {
  apart = record { count = rw events i.apart.count; at_start = rw events i.apart.at_start };
  held_is = record {
    revealed = rw events i.held_is.revealed;
    issued = rw events i.held_is.issued;
    children = rw events i.held_is.children;
    sources =
        rw (events, emissions)
        (rows_kept (source_rows h.emissions (issues_in h.events)) (source_rows (h.emissions ++ x ∷ []) (issues_in h.events)) h.events held.sources i.held_is.sources
        (λ m e at. source_among h.emissions (x ∷ []) (issues_in (take m h.events)) (issues_in h.events) e (lawful.fit m e at)));
    likes =
        rw (events, emissions)
        (rows_kept (like_rows h.emissions) (like_rows (h.emissions ++ x ∷ [])) h.events held.likes i.held_is.likes
        (λ m e at. like_among h.emissions (x ∷ []) (issues_in (take m h.events)) e (lawful.fit m e at)));
    passes =
        rw (events, emissions)
        (rows_kept (pass_rows t h.emissions) (pass_rows t (h.emissions ++ x ∷ [])) h.events held.passes i.held_is.passes
        (λ m e at. pass_among t h.emissions (x ∷ []) (issues_in (take m h.events)) e (lawful.fit m e at)));
    fields =
        rw (events, emissions)
        (rows_kept (field_rows t h.emissions (issues_in h.events)) (field_rows t (h.emissions ++ x ∷ []) (issues_in h.events)) h.events held.fields i.held_is.fields
        (λ m e at. field_among t h.emissions (x ∷ []) (issues_in (take m h.events)) (issues_in h.events) e (lawful.fit m e at)));
    updates =
        rw (events, emissions)
        (rows_kept (update_rows t h.emissions) (update_rows t (h.emissions ++ x ∷ [])) h.events held.updates i.held_is.updates
        (λ m e at. update_among t h.emissions (x ∷ []) (issues_in (take m h.events)) e (lawful.fit m e at)));
    origins =
        rw (events, emissions)
        (rows_kept (origin_rows h.emissions) (origin_rows (h.emissions ++ x ∷ [])) h.events held.origins i.held_is.origins
        (λ m e at. origin_among h.emissions (x ∷ []) (issues_in (take m h.events)) e (lawful.fit m e at)));
    again = i.held_is.again;
    known = rw events i.held_is.known;
  };
}

-- nothing yet
abbrev no_rows : {K : Type 0} → Numbered K → Type 0
no_rows rows = rows ≡ record { keys = []; numbers = [] }

pub index_none : (t : Network) (h : History) (steps : List ℕ) (held : Held) → h.events ≡ [] → steps ≡ [] → held.reveals ≡ [] → held.twins ≡ []
    → no_rows held.children → no_rows held.sources → no_rows held.likes → no_rows held.passes → no_rows held.fields → no_rows held.updates → no_rows held.origins
    → held.again ≡ [] → IsIndexOf t h steps held
unfolding repeats
index_none t h steps held e s reveals twins children sources likes passes fields updates origins again = record {
  apart = record { count = rw (e, s) refl; at_start = rw e (λ k d low. absurd (omega arith)) };
  held_is = record {
    revealed = rw s reveals;
    issued = rw e twins;
    children = rows_none _ h.events held.children e children;
    sources = rows_none _ h.events held.sources e sources;
    likes = rows_none _ h.events held.likes e likes;
    passes = rows_none _ h.events held.passes e passes;
    fields = rows_none _ h.events held.fields e fields;
    updates = rows_none _ h.events held.updates e updates;
    origins = rows_none _ h.events held.origins e origins;
    again = again ∙ ap (λ (r : Numbered OriginKey). repeats [] r.keys) (sym origins);
    known = rw e (nothing_issued t);
  };
}
