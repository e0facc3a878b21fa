-- A lawful ledger stays lawful when an event that fits, or a packet, is added.
use Rattle.std.proofs.Common.{◌≡◌, ℕ, zero, suc, ◌-◌, ◌≤◌, ◌<◌, ◌⊎◌, inl, inr, List, [], ◌∷◌, ◌++◌, length, take, get_or, refl, sym, ◌∙◌, ap, subst, arith}
use Rattle.std.specs.Prelude.{Option, Some, None, slice_get, IsSome, slice_index_or}
use Rattle.std.specs.Option.{option_map_or}
use Rattle.std.proofs.lemmas.List.{take_at, take-append-le}
use Rattle.std.proofs.lemmas.List.Elements.{All-append, All-cons, All-nil}
use Rattle.std.proofs.lemmas.Option.{same_Some, none-some, slice_get_read, slice_get_past}
use Rattle.std.proofs.Math.Dec.{eqb-suc-zero}
use Rattle.arrayvec.specs.ArrayVec.{ArrayVec}
use Rattle.epic_num.specs.declared.name.AsId.{AsId}
use Rattle.epic_num.specs.Chains.{Issue}
use Rattle.epic_num.specs.Levels.{is_first_byte}
use Rattle.epic_layout.specs.Contents.{Contents, IsBytes, hop_count}
use Rattle.epic_layout.specs.Layout.{fault, parse}
use Rattle.epic_layout.specs.Route.{no_segment}
use Rattle.epic_layout.proofs.Limits.{IsPacket-parse}
use Rattle.epic_layout.proofs.Soundness.{sound}
use Rattle.epic_ledger.specs.History.{Emission, emission_at, step_of}
use Rattle.epic_ledger.specs.Facts.{issues_in, packet_at}
use Rattle.epic_ledger.specs.Lawful.{IsEmission, FitsPass, Fits, IsLast, IsLawful}
use Rattle.epic_ledger.specs.declared.event.Event.{Event}
use Rattle.epic_ledger.specs.declared.event.Event.TheVariants as event

-- an element of a list with one more at its end is of the list, or that one
slice_get_push : {A : Type 0} (xs : List A) (x y : A) (n : ℕ) → slice_get (xs ++ x ∷ []) n ≡ Some y
    → ((slice_get xs n ≡ Some y) × (n ≤ length xs)) ⊎ ((n ≡ length xs) × (x ≡ y))
slice_get_push [] x y zero e = inr (refl, same_Some x y e)
slice_get_push [] x y (suc n) e = absurd (cc)
slice_get_push (z ∷ xs) x y zero e = inl (e, omega arith)
slice_get_push (z ∷ xs) x y (suc n) e =
    elim (slice_get_push xs x y n e) [ inl p ↦ inl (p.0, omega arith) | inr p ↦ inr (ap suc p.0, p.1) ]

slice_get_kept : {A : Type 0} (xs more : List A) (n : ℕ) → IsSome (slice_get xs n) → slice_get (xs ++ more) n ≡ slice_get xs n
slice_get_kept [] more n h = absurd (cc)
slice_get_kept (x ∷ xs) more zero h = refl
slice_get_kept (x ∷ xs) more (suc n) h = slice_get_kept xs more n h

one_less : (n : ℕ) → suc n - 1 ≡ n
one_less n = omega arith

pub emission_at-zero : (es : List Emission) → emission_at es 0 ≡ None
unfolding emission_at
emission_at-zero es = refl

pub emission_at-suc : (es : List Emission) (n : ℕ) → emission_at es (suc n) ≡ slice_get es n
unfolding emission_at
emission_at-suc es n = rw (eqb-suc-zero n, one_less n)

-- an emission that is there stays
pub emission_at-append : (es more : List Emission) (n : ℕ) → IsSome (emission_at es n) → emission_at (es ++ more) n ≡ emission_at es n
emission_at-append es more zero h = emission_at-zero (es ++ more) ∙ sym (emission_at-zero es)
emission_at-append es more (suc n) h =
    emission_at-suc (es ++ more) n
    ∙ (slice_get_kept es more n (subst (λ (o : Option Emission). IsSome o) (emission_at-suc es n) h) ∙ sym (emission_at-suc es n))

pub packet_at-append : (es more : List Emission) (n : ℕ) → IsSome (emission_at es n) → packet_at (es ++ more) n ≡ packet_at es n
unfolding packet_at
packet_at-append es more n h =
    ap (λ (o : Option Emission). parse (option_map_or (λ e. e.bytes) o [])) (emission_at-append es more n h)

still_there : (es more : List Emission) (n : ℕ) → IsSome (emission_at es n) → IsSome (emission_at (es ++ more) n)
still_there es more n h = subst (λ (o : Option Emission). IsSome o) (sym (emission_at-append es more n h)) h

-- what fits among some emissions fits among more
pub fits_more : (es more : List Emission) (issues : List Issue) (e : Event) → Fits es issues e → Fits (es ++ more) issues e
fits_more es more issues (event.Issue step number name parent) h = h
fits_more es more issues (event.Fetch step source owner epoch) h = h
fits_more es more issues (event.Send step emission segments) h =
    let same : packet_at (es ++ more) emission ≡ packet_at es emission = packet_at-append es more emission h.there in
    record {
      there = still_there es more emission h.there;
      count = h.count ∙ ap (λ (p : Contents). length p.route.segments) (sym same);
      issued = h.issued;
      chains = λ i in'. h.chains i in' ∙ ap (λ (p : Contents). (slice_index_or p.route.segments i no_segment).count) (sym same);
    }
fits_more es more issues (event.Pass step a hop generation emission) h = record {
  there = still_there es more emission h.there;
  within = subst (λ (p : Contents). hop < hop_count p) (sym (packet_at-append es more emission h.there)) h.within;
}
fits_more es more issues (event.Arrive step host src ts hops checked) h = h
fits_more es more issues (event.Reveal step holder) h = h
fits_more es more issues (event.Roll step a generation) h = h

pub lawful_push : (events : List Event) (es : List Emission) (e : Event) → IsLawful (record { events = events; emissions = es })
    → Fits es (issues_in events) e → IsLast events (step_of e)
    → IsLawful (record { events = events ++ e ∷ []; emissions = es })
lawful_push events es e h fits last = record {
  packets = h.packets;
  fit = λ n x at.
      elim (slice_get_push events e x n at) [
        | inl p ↦
            subst (λ (before : List Event). Fits es (issues_in before) x) (sym (take-append-le n events (e ∷ []) p.1)) (h.fit n x p.0)
        | inr p ↦
            subst (λ (before : List Event). Fits es (issues_in before) x) (sym (take_at events (e ∷ []) n (sym p.0)))
            (subst (λ (y : Event). Fits es (issues_in events) y) p.1 fits)
      ];
  ascending = λ n x at.
      elim (slice_get_push events e x n at) [
        | inl p ↦
            subst (λ (before : List Event). IsLast before (step_of x)) (sym (take-append-le n events (e ∷ []) p.1)) (h.ascending n x p.0)
        | inr p ↦
            subst (λ (before : List Event). IsLast before (step_of x)) (sym (take_at events (e ∷ []) n (sym p.0)))
            (subst (λ (y : Event). IsLast events (step_of y)) p.1 last)
      ];
}

-- bytes without a fault spell a packet
pub spelled_in : (x : Emission) → IsBytes x.bytes → fault is_first_byte x.bytes ≡ None → IsEmission x
spelled_in x bytes faultless = record { packet = IsPacket-parse x.bytes bytes (sound x.bytes faultless); faultless = faultless }

pub lawful_emit : (events : List Event) (es : List Emission) (x : Emission) → IsLawful (record { events = events; emissions = es })
    → IsEmission x
    → IsLawful (record { events = events; emissions = es ++ x ∷ [] })
lawful_emit events es x h spelled = record {
  packets = All-append IsEmission es (x ∷ []) h.packets (All-cons IsEmission x [] spelled (All-nil IsEmission));
  fit = λ n e at. fits_more es (x ∷ []) (issues_in (take n events)) e (h.fit n e at);
  ascending = h.ascending;
}

pub lawful_none : IsLawful (record { events = []; emissions = [] })
lawful_none = record {
  packets = All-nil IsEmission;
  fit = λ n e at. absurd (none-some e (sym (slice_get_past [] n (omega arith)) ∙ at));
  ascending = λ n e at. absurd (none-some e (sym (slice_get_past [] n (omega arith)) ∙ at));
}

-- what an event of a lawful ledger names is there
fits_at : (events : List Event) (es : List Emission) (i : ℕ) (e : Event) → IsLawful (record { events = events; emissions = es }) → i < length events
    → e ≡ get_or events i e → Fits es (issues_in (take i events)) e
fits_at events es i e h in' is = h.fit i e (slice_get_read events (length events) i e refl in' is)

pub sent_there : (events : List Event) (es : List Emission) (i : ℕ) (e : Event) (step emission : ℕ) (segments : ArrayVec ℕ) → IsLawful (record { events = events; emissions = es })
    → i < length events → e ≡ get_or events i e → e ≡ event.Send step emission segments → IsSome (emission_at es emission)
sent_there events es i e step emission segments h in' is send =
    (subst (λ (x : Event). Fits es (issues_in (take i events)) x) send (fits_at events es i e h in' is)).there

pub passed_there : (events : List Event) (es : List Emission) (i : ℕ) (e : Event) (step : ℕ) (a : AsId) (hop generation emission : ℕ) → IsLawful (record { events = events; emissions = es })
    → i < length events → e ≡ get_or events i e → e ≡ event.Pass step a hop generation emission → FitsPass es emission hop
passed_there events es i e step a hop generation emission h in' is pass =
    subst (λ (x : Event). Fits es (issues_in (take i events)) x) pass (fits_at events es i e h in' is)

-- ---- for callers

-- the step that was the last stays it where an event of it is added
pub IsLast-push : (events : List Event) (e : Event) (step : ℕ) → IsLast events step → step_of e ≡ step → IsLast (events ++ e ∷ []) step
IsLast-push events e step h at =
    All-append (λ (x : Event). step_of x ≤ step) events (e ∷ []) h
    (All-cons (λ (x : Event). step_of x ≤ step) e [] (omega (arith, at)) (All-nil (λ (x : Event). step_of x ≤ step)))

-- the last step is also before each later one
pub IsLast-later : (events : List Event) (step later : ℕ) → IsLast events step → step ≤ later → IsLast events later
IsLast-later events step later h after k d in' = let here = h k d in' in omega (arith, here, after)

pub IsLast-none : (step : ℕ) → IsLast [] step
IsLast-none step = All-nil (λ (x : Event). step_of x ≤ step)
