-- That what events name is there, and that what they say doesn't depend on their steps.
use Rattle.std.proofs.Common.{◌≡◌, ℕ, zero, suc, List, [], ◌∷◌, length, take, Option, Some, None, refl, sym, ap, ◌∙◌, arith}
use Rattle.std.specs.Prelude.{option_and_then, slice_get, IfSome}
use Rattle.std.specs.Borrow.{Bor}
use Rattle.std.specs.Option.{option_copied}
use Rattle.epic_num.specs.Chains.{Issue}
use Rattle.epic_layout.specs.Contents.{Contents}
use Rattle.epic_audit.specs.Searches.{passed_before}
use Rattle.epic_ledger.specs.History.{History, Emission}
use Rattle.epic_ledger.specs.Facts.{as_send, as_pass, facts_of, issues_in}
use Rattle.epic_ledger.specs.Lawful.{Fits, IsLawful}
use Rattle.epic_ledger.specs.declared.event.Event.{Event}
use Rattle.epic_ledger.specs.declared.event.Event.TheVariants as event
use Rattle.epic_index.specs.Events.{send_at, pass_at, sent_at, sent_name_at, passed_at}
use Rattle.epic_index.specs.Happened.{IsThere}
use Rattle.epic_index.specs.Indexes.{history_of, IsApart}
use Rattle.epic_index.specs.Stepping.{at_step, stepped}
use Rattle.epic_index.proofs.Answering.{index_issues, index_passes}
use Rattle.epic_index.proofs.Steps.{send_at_step, pass_at_step}

pub there_of : (es : List Emission) (issues : List Issue) (e : Event) → Fits es issues e → IsThere es e
there_of es issues (event.Issue step number name parent) h = tt
there_of es issues (event.Fetch step source owner epoch) h = tt
there_of es issues (event.Send step emission segments) h = h.there
there_of es issues (event.Pass step a hop generation emission) h = h
there_of es issues (event.Arrive step host src ts hops checked) h = tt
there_of es issues (event.Reveal step holder) h = tt
there_of es issues (event.Roll step a generation) h = tt

pub event_there : (h : History) (n : ℕ) (r : Option (Bor Event)) → IsLawful h → option_copied r ≡ slice_get h.events n
    → IfSome r (λ e. IsThere h.emissions e.now)
event_there h n None lawful at = tt
event_there h n (Some e) lawful at = there_of h.emissions (issues_in (take n h.events)) e.now (lawful.fit n e.now (sym at))

pub got_some : {X : Type 0} (f : Event → Option X) (h : History) (n : ℕ) (r : Option (Bor Event)) (e : Bor Event) → option_copied r ≡ slice_get h.events n → r ≡ Some e
    → f e.now ≡ option_and_then f (slice_get h.events n)
got_some f h n r e at is = ap (option_and_then f) (sym (ap option_copied is) ∙ at)

pub got_none : {X : Type 0} (f : Event → Option X) (h : History) (n : ℕ) (r : Option (Bor Event)) → option_copied r ≡ slice_get h.events n → r ≡ None
    → None ≡ option_and_then f (slice_get h.events n)
got_none f h n r at is = ap (option_and_then f) (sym (ap option_copied is) ∙ at)

-- what is read of the event of a number
got_stepped : {X : Type 0} (f : Event → Option X) → ((s : ℕ) (e : Event) → f (at_step s e) ≡ f e) → (steps : List ℕ) (es : List Event) (n : ℕ) → length steps ≡ length es → option_and_then f (slice_get (stepped steps es) n) ≡ option_and_then f (slice_get es n)
got_stepped f same [] [] n h = refl
got_stepped f same [] (e ∷ es) n h = absurd (omega arith)
got_stepped f same (s ∷ ss) [] n h = absurd (omega arith)
got_stepped f same (s ∷ ss) (e ∷ es) zero h = same s e
got_stepped f same (s ∷ ss) (e ∷ es) (suc n) h = got_stepped f same ss es n (omega arith)

pub send_stepped : (h : History) (steps : List ℕ) (n : ℕ) → IsApart h steps → send_at (history_of h steps) n ≡ send_at h n
unfolding send_at
send_stepped h steps n i = got_stepped (as_send h.emissions) (send_at_step h.emissions) steps h.events n i.count

pub index_sent : (h : History) (steps : List ℕ) (n : ℕ) → IsApart h steps → sent_at (history_of h steps) n ≡ sent_at h n
unfolding sent_at
index_sent h steps n i = rw (send_stepped h steps n i)

pub index_sent_name : (h : History) (steps : List ℕ) (n hop : ℕ) → IsApart h steps → sent_name_at (history_of h steps) n hop ≡ sent_name_at h n hop
unfolding sent_name_at
index_sent_name h steps n hop i = rw (index_issues h steps i, send_stepped h steps n i)

pub index_passed : (h : History) (steps : List ℕ) (n : ℕ) → IsApart h steps → passed_at (history_of h steps) n ≡ passed_at h n
unfolding passed_at pass_at
index_passed h steps n i = rw (got_stepped (as_pass h.emissions) (pass_at_step h.emissions) steps h.events n i.count)

pub index_before : (h : History) (steps : List ℕ) (p : Contents) (j : ℕ) → IsApart h steps → passed_before (facts_of (history_of h steps)) p j ≡ passed_before (facts_of h) p j
unfolding passed_before
index_before h steps p j i = rw (index_passes h steps i)
