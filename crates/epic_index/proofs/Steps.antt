-- What the events of a history say, apart from their steps.
use Rattle.std.proofs.Common.{◌≡◌, ℕ, ◌≤◌, length-append, Bool, List, [], ◌∷◌, ◌++◌, length, Option, refl, sym, ap, ◌∙◌, arith}
use Rattle.std.specs.Prelude.{position, map}
use Rattle.std.specs.List.{filter_map}
use Rattle.std.proofs.lemmas.List.Elements.{All-push}
use Rattle.epic_num.specs.Chains.{Issue}
use Rattle.epic_ledger.specs.History.{History, Emission, step_of}
use Rattle.epic_ledger.specs.Facts.{as_issue, as_send, as_pass, issues_in, sends_in, passes_in}
use Rattle.epic_ledger.proofs.Logging.{position-map}
use Rattle.epic_ledger.specs.Lawful.{Fits}
use Rattle.epic_ledger.specs.OneMore.{with_event}
use Rattle.epic_ledger.specs.declared.event.Event.{Event}
use Rattle.epic_ledger.specs.declared.event.Event.TheVariants as event
use Rattle.epic_index.specs.Stepping.{at_step, stepped}
use Rattle.epic_index.specs.Indexes.{history_of, IsApart}

-- ---- one event

pub issue_at_step : (s : ℕ) (e : Event) → as_issue (at_step s e) ≡ as_issue e
unfolding as_issue at_step
issue_at_step s (event.Issue step number name parent) = refl
issue_at_step s (event.Fetch step source owner epoch) = refl
issue_at_step s (event.Send step emission segments) = refl
issue_at_step s (event.Pass step a hop generation emission) = refl
issue_at_step s (event.Arrive step host src ts hops checked) = refl
issue_at_step s (event.Reveal step holder) = refl
issue_at_step s (event.Roll step a generation) = refl

pub send_at_step : (es : List Emission) (s : ℕ) (e : Event) → as_send es (at_step s e) ≡ as_send es e
unfolding as_send at_step
send_at_step es s (event.Issue step number name parent) = refl
send_at_step es s (event.Fetch step source owner epoch) = refl
send_at_step es s (event.Send step emission segments) = refl
send_at_step es s (event.Pass step a hop generation emission) = refl
send_at_step es s (event.Arrive step host src ts hops checked) = refl
send_at_step es s (event.Reveal step holder) = refl
send_at_step es s (event.Roll step a generation) = refl

pub pass_at_step : (es : List Emission) (s : ℕ) (e : Event) → as_pass es (at_step s e) ≡ as_pass es e
unfolding as_pass at_step
pass_at_step es s (event.Issue step number name parent) = refl
pass_at_step es s (event.Fetch step source owner epoch) = refl
pass_at_step es s (event.Send step emission segments) = refl
pass_at_step es s (event.Pass step a hop generation emission) = refl
pass_at_step es s (event.Arrive step host src ts hops checked) = refl
pass_at_step es s (event.Reveal step holder) = refl
pass_at_step es s (event.Roll step a generation) = refl

pub fits_at_step : (es : List Emission) (is : List Issue) (s : ℕ) (e : Event) → Fits es is e → Fits es is (at_step s e)
unfolding at_step
fits_at_step es is s (event.Issue step number name parent) h = h
fits_at_step es is s (event.Fetch step source owner epoch) h = h
fits_at_step es is s (event.Send step emission segments) h = h
fits_at_step es is s (event.Pass step a hop generation emission) h = h
fits_at_step es is s (event.Arrive step host src ts hops checked) h = h
fits_at_step es is s (event.Reveal step holder) h = h
fits_at_step es is s (event.Roll step a generation) h = h

pub step_at_step : (s : ℕ) (e : Event) → step_of (at_step s e) ≡ s
unfolding step_of at_step
step_at_step s (event.Issue step number name parent) = refl
step_at_step s (event.Fetch step source owner epoch) = refl
step_at_step s (event.Send step emission segments) = refl
step_at_step s (event.Pass step a hop generation emission) = refl
step_at_step s (event.Arrive step host src ts hops checked) = refl
step_at_step s (event.Reveal step holder) = refl
step_at_step s (event.Roll step a generation) = refl

-- an event at another step, and then at its own
pub back_at_step : (s : ℕ) (e : Event) → at_step (step_of e) (at_step s e) ≡ e
unfolding step_of at_step
back_at_step s (event.Issue step number name parent) = refl
back_at_step s (event.Fetch step source owner epoch) = refl
back_at_step s (event.Send step emission segments) = refl
back_at_step s (event.Pass step a hop generation emission) = refl
back_at_step s (event.Arrive step host src ts hops checked) = refl
back_at_step s (event.Reveal step holder) = refl
back_at_step s (event.Roll step a generation) = refl

-- ---- all events

-- what is read of events and not of their steps stays
pub filter_stepped : {X : Type 0} (f : Event → Option X) → ((s : ℕ) (e : Event) → f (at_step s e) ≡ f e) → (steps : List ℕ) (es : List Event) → length steps ≡ length es → filter_map f (stepped steps es) ≡ filter_map f es
filter_stepped f same [] [] h = refl
filter_stepped f same [] (e ∷ es) h = absurd (omega arith)
filter_stepped f same (s ∷ ss) [] h = refl
filter_stepped f same (s ∷ ss) (e ∷ es) h = rw (same s e, filter_stepped f same ss es (omega arith))

map_stepped : (q : Event → Bool) → ((s : ℕ) (e : Event) → q (at_step s e) ≡ q e) → (steps : List ℕ) (es : List Event) → length steps ≡ length es → map q (stepped steps es) ≡ map q es
map_stepped q same [] [] h = refl
map_stepped q same [] (e ∷ es) h = absurd (omega arith)
map_stepped q same (s ∷ ss) [] h = refl
map_stepped q same (s ∷ ss) (e ∷ es) h = rw (same s e, map_stepped q same ss es (omega arith))

pub position_stepped : (q : Event → Bool) → ((s : ℕ) (e : Event) → q (at_step s e) ≡ q e) → (steps : List ℕ) (es : List Event) → length steps ≡ length es → position q (stepped steps es) ≡ position q es
position_stepped q same steps es h =
    sym (position-map (λ b. b) q (stepped steps es))
    ∙ ap (λ (bs : List Bool). position (λ b. b) bs) (map_stepped q same steps es h)
    ∙ position-map (λ b. b) q es

pub length_stepped : (steps : List ℕ) (es : List Event) → length steps ≡ length es → length (stepped steps es) ≡ length es
length_stepped [] [] h = refl
length_stepped [] (e ∷ es) h = absurd (omega arith)
length_stepped (s ∷ ss) [] h = refl
length_stepped (s ∷ ss) (e ∷ es) h = omega (arith, length_stepped ss es (omega arith))

-- one event more
pub stepped_push : (steps : List ℕ) (es : List Event) (s : ℕ) (e : Event) → length steps ≡ length es → stepped (steps ++ s ∷ []) (es ++ e ∷ []) ≡ stepped steps es ++ at_step s e ∷ []
stepped_push [] [] s e h = refl
stepped_push [] (x ∷ xs) s e h = absurd (omega arith)
stepped_push (x ∷ xs) [] s e h = absurd (omega arith)
stepped_push (r ∷ rs) (x ∷ xs) s e h = ap (λ (l : List Event). at_step r x ∷ l) (stepped_push rs xs s e (omega arith))

-- ---- facts

pub issues_stepped : (h : History) (steps : List ℕ) → length steps ≡ length h.events → issues_in (stepped steps h.events) ≡ issues_in h.events
issues_stepped h steps e = filter_stepped as_issue issue_at_step steps h.events e

pub sends_stepped : (h : History) (steps : List ℕ) → length steps ≡ length h.events → sends_in (history_of h steps) ≡ sends_in h
sends_stepped h steps e = filter_stepped (as_send h.emissions) (send_at_step h.emissions) steps h.events e

pub passes_stepped : (h : History) (steps : List ℕ) → length steps ≡ length h.events → passes_in (history_of h steps) ≡ passes_in h
passes_stepped h steps e = filter_stepped (as_pass h.emissions) (pass_at_step h.emissions) steps h.events e

-- ---- an index with one event more

pub index_fits : (h later : History) (steps : List ℕ) (e a : Event) → IsApart h steps → later ≡ h → a ≡ at_step 0 e → Fits h.emissions (issues_in (stepped steps h.events)) e → Fits later.emissions (issues_in later.events) a
index_fits h later steps e a i same at fits =
    rw (same, at) (fits_at_step h.emissions (issues_in h.events) 0 e (rw (issues_stepped h steps i.count) at fits))

pub index_push : (h later : History) (steps : List ℕ) (e : Event) → IsApart h steps → later.events ≡ h.events ++ at_step 0 e ∷ [] → IsApart later (steps ++ step_of e ∷ [])
index_push h later steps e i g = record {
  count = simp (g, length-append) (omega (arith, i.count));
  at_start = rw g (All-push (λ x. step_of x ≤ 0) h.events (at_step 0 e) i.at_start (omega (arith, step_at_step 0 e)));
}

pub history_push : (h : History) (steps : List ℕ) (e : Event) → IsApart h steps → stepped (steps ++ step_of e ∷ []) (h.events ++ at_step 0 e ∷ []) ≡ stepped steps h.events ++ e ∷ []
history_push h steps e i =
    stepped_push steps h.events (step_of e) (at_step 0 e) i.count ∙ ap (λ (x : Event). stepped steps h.events ++ x ∷ []) (back_at_step 0 e)

pub history_more : (h later : History) (steps : List ℕ) (e : Event) → IsApart h steps → later.events ≡ h.events ++ at_step 0 e ∷ [] → later.emissions ≡ h.emissions → history_of later (steps ++ step_of e ∷ []) ≡ with_event (history_of h steps) e
history_more h later steps e i g same = rw (g, same, history_push h steps e i)
