-- What a ledger says after the passes of a turn and their emission.
use Rattle.std.proofs.Common.{◌≡◌, ◌≢◌, ℕ, zero, suc, ◌+◌, ◌≤◌, Bool, true, false, cond, List, [], ◌∷◌, ◌++◌, length, Option, None, Some, refl, ap, sym, ◌∙◌, ⊎_elim, arith}
use Rattle.std.specs.Prelude.{◌&&◌, filter_map, count_by, slice_get, IsSome, ⊤, if◌then◌else◌}
use Rattle.std.specs.List.{cons_option}
use Rattle.std.specs.Map.{lookup}
use Rattle.std.proofs.lemmas.Bool.{cond-true, cond-false, and_left, and_right, ne_eqb, cases_Bool}
use Rattle.std.proofs.lemmas.List.{append-nil}
use Rattle.std.proofs.lemmas.List.Elements.{filter_map-append}
use Rattle.std.proofs.lemmas.List.Sums.{sum_by-append, sum_by-cons}
use Rattle.epic_num.specs.declared.name.AsId.{AsId}
use Rattle.epic_num.specs.declared.name.HostId.{HostId}
use Rattle.epic_num.specs.declared.profile.Profile.{Profile}
use Rattle.epic_num.specs.Moments.{is_live}
use Rattle.epic_num.specs.Same.{same_as}
use Rattle.epic_window.specs.Entries.{Entries, same_win_key, seen, count}
use Rattle.epic_window.specs.declared.key.WinKey.{WinKey}
use Rattle.epic_ledger.specs.History.{History, Emission, emission_at, emitted}
use Rattle.epic_ledger.specs.Facts.{as_issue, as_send, as_pass, as_reveal, issues_in, sends_in, reveals_in}
use Rattle.epic_ledger.specs.declared.event.Event.{Event}
use Rattle.epic_ledger.specs.declared.event.Event.TheVariants as event
use Rattle.epic_ledger.proofs.Growing.{packet_at-append}
use Rattle.epic_audit.proofs.Lists.{same_answers}
use Rattle.epic_model.specs.Passing.{is_roll, rolls, passes_from}
use Rattle.epic_model.specs.Windows.{router_entry, host_entry, router_window, host_window}
use Rattle.epic_router.specs.Remembering.{key_at}
use Rattle.epic_model.proofs.Grown.{passes_at}
use Rattle.epic_router.specs.Checks.{is_turn}
use Rattle.epic_num.specs.Levels.{is_timed}
use Rattle.epic_layout.specs.Contents.{Contents}

-- ---- lists

pub none_all : {X Y : Type 0} (f : X → Option Y) (xs : List X) → ((n : ℕ) (x : X) → slice_get xs n ≡ Some x → f x ≡ None) → filter_map f xs ≡ []
none_all f [] none = refl
none_all f (x ∷ xs) none = ap (λ o. cons_option o (filter_map f xs)) (none 0 x refl) ∙ none_all f xs (λ n y at. none (suc n) y at)

-- more elements that answer nothing
pub none_behind : {X Y : Type 0} (f : X → Option Y) (xs more : List X) → ((n : ℕ) (x : X) → slice_get more n ≡ Some x → f x ≡ None)
    → filter_map f (xs ++ more) ≡ filter_map f xs
none_behind f xs more none = filter_map-append f xs more ∙ (ap (λ ys. filter_map f xs ++ ys) (none_all f more none) ∙ append-nil (filter_map f xs))

count_none : {X : Type 0} (test : X → Bool) (xs : List X) → ((n : ℕ) (x : X) → slice_get xs n ≡ Some x → test x ≡ false) → count_by test xs ≡ 0
count_none test [] none = refl
count_none {X} test (x ∷ xs) none =
    sum_by-cons (λ (y : X). cond {A = ℕ} (test y) 1 0) x xs
    ∙ (ap (λ b. cond {A = ℕ} b 1 0 + count_by test xs) (none 0 x refl) ∙ omega (arith, count_none test xs (λ n y at. none (suc n) y at)))

pub count_append : {X : Type 0} (test : X → Bool) (xs ys : List X) → count_by test (xs ++ ys) ≡ count_by test xs + count_by test ys
count_append {X} test xs ys = sum_by-append (λ (y : X). cond {A = ℕ} (test y) 1 0) xs ys

count_behind : {X : Type 0} (test : X → Bool) (xs more : List X) → ((n : ℕ) (x : X) → slice_get more n ≡ Some x → test x ≡ false)
    → count_by test (xs ++ more) ≡ count_by test xs
count_behind test xs more none = omega (arith, count_append test xs more, count_none test more none)

pub at_front : {X : Type 0} (xs more : List X) (n : ℕ) (x : X) → slice_get xs n ≡ Some x → slice_get (xs ++ more) n ≡ Some x
at_front [] more n x at = absurd (cc)
at_front (y ∷ xs) more zero x at = at
at_front (y ∷ xs) more (suc n) x at = at_front xs more n x at

pub at_back : {X : Type 0} (xs more : List X) (n : ℕ) → slice_get (xs ++ more) (length xs + n) ≡ slice_get more n
at_back [] more n = ap (slice_get more) (omega arith)
at_back (x ∷ xs) more n =
    let same : length (x ∷ xs) + n ≡ suc (length xs + n) = omega arith in
    ap (slice_get ((x ∷ xs) ++ more)) same ∙ at_back xs more n

-- ---- windows with at most one entry more

lookup_behind : {K X : Type 0} (test : K → Bool) (xs ys : List (K × X)) → lookup test xs ≡ None → lookup test ys ≡ None → lookup test (xs ++ ys) ≡ None
lookup_behind test [] ys none more = more
lookup_behind test (x ∷ xs) ys none more =
    ⊎_elim
    (λ yes. (let some = sym (cond-true (test x.0) (Some x.1) (lookup test xs) yes) ∙ none in absurd (cc)))
    (λ no. cond-false (test x.0) (Some x.1) (lookup test (xs ++ ys)) no
    ∙ lookup_behind test xs ys (sym (cond-false (test x.0) (Some x.1) (lookup test xs) no) ∙ none) more)
    (cases_Bool (test x.0))

-- one entry, or none
unfoldable pub one_entry : Option (WinKey × ℕ) → Entries
one_entry o = cons_option o []

pub seen_more : (profile : Profile) (es : Entries) (o : Option (WinKey × ℕ)) (now : ℕ) (key : WinKey) → seen profile es now key ≡ None
    → ((y : WinKey × ℕ) → o ≡ Some y → same_win_key key y.0 ≡ false) → seen profile (es ++ one_entry o) now key ≡ None
unfolding seen one_entry
seen_more profile es None now key none other = lookup_behind (λ k. same_win_key key k && is_live profile k.ts now) es [] none refl
seen_more profile es (Some y) now key none other =
    lookup_behind (λ k. same_win_key key k && is_live profile k.ts now) es (y ∷ []) none (cond-false _ (Some y.1) None (and_left _ _ (other y refl)))

-- at most so many more
most_one : Option (WinKey × ℕ) → ℕ
most_one None = 0
most_one (Some y) = 1

pub count_more : (profile : Profile) (es : Entries) (o : Option (WinKey × ℕ)) (now : ℕ) (asn : AsId) (some : Bool)
    → (some ≡ false → o ≡ None) → count profile (es ++ one_entry o) now asn ≤ count profile es now asn + (if some then 1 else 0)
unfolding count one_entry
count_more profile es None now asn some none =
    let test = λ (e : WinKey × ℕ). same_as e.0.src.asn asn && is_live profile e.0.ts now in
    let same = ap (count_by test) (append-nil es) in
    omega (arith, same)
count_more profile es (Some y) now asn true none =
    let test = λ (e : WinKey × ℕ). same_as e.0.src.asn asn && is_live profile e.0.ts now in
    omega (arith, count_append test es (y ∷ []), most (test y))
  where
    most : (b : Bool) → cond {A = ℕ} b 1 0 ≤ 1
    most true = omega arith
    most false = omega arith
count_more profile es (Some y) now asn false none = (let gone = none refl in absurd (cc))

pub keys_differ : (p q : Contents) (j k : ℕ) → j ≢ k → same_win_key (key_at p k) (key_at q j) ≡ false
unfolding same_win_key key_at
keys_differ p q j k ne = and_right _ _ (and_right _ _ (ne_eqb k j (λ e. ne (sym e))))

-- ---- the passes of a turn

pass_no_roll : (b : AsId) (step : ℕ) (a : AsId) (j g number : ℕ) → is_roll b (event.Pass step a j g number) ≡ false
unfolding is_roll
pass_no_roll b step a j g number = refl

pass_no_issue : (step : ℕ) (a : AsId) (j g number : ℕ) → as_issue (event.Pass step a j g number) ≡ None
unfolding as_issue
pass_no_issue step a j g number = refl

pass_no_send : (es : List Emission) (step : ℕ) (a : AsId) (j g number : ℕ) → as_send es (event.Pass step a j g number) ≡ None
unfolding as_send
pass_no_send es step a j g number = refl

pass_no_reveal : (step : ℕ) (a : AsId) (j g number : ℕ) → as_reveal (event.Pass step a j g number) ≡ None
unfolding as_reveal
pass_no_reveal step a j g number = refl

pass_no_arrival : (d : HostId) (step : ℕ) (a : AsId) (j g number : ℕ) → host_entry d (event.Pass step a j g number) ≡ None
unfolding host_entry
pass_no_arrival d step a j g number = refl

-- the emissions that passes and sends name are there
abbrev pub IsThere : List Emission → Event → Type 0
IsThere es (event.Issue step number name parent) = ⊤
IsThere es (event.Fetch step source owner epoch) = ⊤
IsThere es (event.Send step emission segments) = IsSome (emission_at es emission)
IsThere es (event.Pass step a hop generation emission) = IsSome (emission_at es emission)
IsThere es (event.Arrive step host src ts hops checked) = ⊤
IsThere es (event.Reveal step holder) = ⊤
IsThere es (event.Roll step a generation) = ⊤

abbrev pub AreThere : History → Type 0
AreThere h = (n : ℕ) (e : Event) → slice_get h.events n ≡ Some e → IsThere h.emissions e

pub send_stays : (es more : List Emission) (e : Event) → IsThere es e → as_send (es ++ more) e ≡ as_send es e
unfolding as_send
send_stays es more (event.Issue step number name parent) h = refl
send_stays es more (event.Fetch step source owner epoch) h = refl
send_stays es more (event.Send step emission segments) h =
    ap (λ (p : Contents). Some (record { emission = emission; segments = segments.items; packet = p })) (packet_at-append es more emission h)
send_stays es more (event.Pass step a hop generation emission) h = refl
send_stays es more (event.Arrive step host src ts hops checked) h = refl
send_stays es more (event.Reveal step holder) h = refl
send_stays es more (event.Roll step a generation) h = refl

pub pass_stays : (es more : List Emission) (e : Event) → IsThere es e → as_pass (es ++ more) e ≡ as_pass es e
unfolding as_pass
pass_stays es more (event.Issue step number name parent) h = refl
pass_stays es more (event.Fetch step source owner epoch) h = refl
pass_stays es more (event.Send step emission segments) h = refl
pass_stays es more (event.Pass step a hop generation emission) h =
    ap (λ (p : Contents). Some (record { asn = a; generation = generation; hop = hop; emission = emission; packet = p })) (packet_at-append es more emission h)
pass_stays es more (event.Arrive step host src ts hops checked) h = refl
pass_stays es more (event.Reveal step holder) h = refl
pass_stays es more (event.Roll step a generation) h = refl

entry_there : (es more : List Emission) (a : AsId) (e : Event) → IsThere es e → router_entry (es ++ more) a e ≡ router_entry es a e
unfolding router_entry
entry_there es more a (event.Issue step number name parent) h = refl
entry_there es more a (event.Fetch step source owner epoch) h = refl
entry_there es more a (event.Send step emission segments) h = refl
entry_there es more a (event.Pass step b hop generation emission) h =
    ap (λ (p : Contents). if same_as b a && is_timed p.first && is_turn p hop then Some (key_at p hop, step) else None) (packet_at-append es more emission h)
entry_there es more a (event.Arrive step host src ts hops checked) h = refl
entry_there es more a (event.Reveal step holder) h = refl
entry_there es more a (event.Roll step b generation) h = refl

-- a ledger with passes of one AS and one more emission
abbrev pub longer : History → ℕ → AsId → ℕ → ℕ → List ℕ → Emission → History
longer h step a number j gs x = record {
  events = h.events ++ passes_from step a number j gs;
  emissions = h.emissions ++ x ∷ [];
}

module _ (h : History) (step : ℕ) (a : AsId) (number j : ℕ) (gs : List ℕ) (x : Emission) where
  each_pass : {Y : Type 0} (f : Event → Y) (y : Y) → ((k g : ℕ) → f (event.Pass step a k g number) ≡ y) → (n : ℕ) (e : Event)
      → slice_get (passes_from step a number j gs) n ≡ Some e → f e ≡ y
  each_pass f y all n e at = (let is = passes_at step a number j gs n e at in ap f is.1.1 ∙ all (j + n) is.1.0)

  pub same_rolls : (b : AsId) → rolls (longer h step a number j gs x).events b ≡ rolls h.events b
  same_rolls b = count_behind (is_roll b) h.events (passes_from step a number j gs) (each_pass (is_roll b) false (λ k g. pass_no_roll b step a k g number))

  pub same_issues : issues_in (longer h step a number j gs x).events ≡ issues_in h.events
  same_issues = none_behind as_issue h.events (passes_from step a number j gs) (each_pass as_issue None (λ k g. pass_no_issue step a k g number))

  pub same_reveals : reveals_in (longer h step a number j gs x).events ≡ reveals_in h.events
  same_reveals = none_behind as_reveal h.events (passes_from step a number j gs) (each_pass as_reveal None (λ k g. pass_no_reveal step a k g number))

  pub same_host_window : (d : HostId) → host_window (longer h step a number j gs x) d ≡ host_window h d
  same_host_window d = none_behind (host_entry d) h.events (passes_from step a number j gs) (each_pass (host_entry d) None (λ k g. pass_no_arrival d step a k g number))

  pub same_sends : AreThere h → sends_in (longer h step a number j gs x) ≡ sends_in h
  same_sends there =
      none_behind (as_send (h.emissions ++ x ∷ [])) h.events (passes_from step a number j gs)
      (each_pass (as_send (h.emissions ++ x ∷ [])) None (λ k g. pass_no_send (h.emissions ++ x ∷ []) step a k g number))
      ∙ same_answers (as_send (h.emissions ++ x ∷ [])) (as_send h.emissions) h.events (λ n e at. send_stays h.emissions (x ∷ []) e (there n e at))

  pub emitted_more : emitted (longer h step a number j gs x).emissions ≡ emitted h.emissions + length x.bytes
  unfolding emitted
  emitted_more =
      let joined = sum_by-append (λ (e : Emission). length e.bytes) h.emissions (x ∷ []) in
      let one = sum_by-cons (λ (e : Emission). length e.bytes) x [] in
      omega (arith, joined, one)

-- a router's window, where passes of hops after the first aren't remembered
pub window_more : (h : History) (step : ℕ) (a : AsId) (number j g : ℕ) (gs : List ℕ) (x : Emission) (b : AsId) → AreThere h
    → ((n : ℕ) (e : Event) → slice_get (passes_from step a number (j + 1) gs) n ≡ Some e → router_entry (h.emissions ++ x ∷ []) b e ≡ None)
    → router_window (longer h step a number j (g ∷ gs) x) b
    ≡ router_window h b ++ one_entry (router_entry (h.emissions ++ x ∷ []) b (event.Pass step a j g number))
unfolding one_entry
window_more h step a number j g gs x b there none =
    let f = router_entry (h.emissions ++ x ∷ []) b in
    let first = event.Pass step a j g number in
    filter_map-append f h.events (first ∷ passes_from step a number (j + 1) gs)
    ∙ (ap (λ ys. ys ++ cons_option (f first) (filter_map f (passes_from step a number (j + 1) gs)))
    (same_answers f (router_entry h.emissions b) h.events (λ n e at. entry_there h.emissions (x ∷ []) b e (there n e at)))
    ∙ ap (λ ys. router_window h b ++ cons_option (f first) ys) (none_all f (passes_from step a number (j + 1) gs) none))
