-- A packet that passes every row of a router's table.
use Rattle.std.proofs.Common.{◌≡◌, ◌≢◌, ℕ, suc, ◌+◌, ◌<◌, Bool, true, false, not, List, [], ◌∷◌, ◌++◌, take, Option, None, Some, refl, ap, sym, subst, ◌∙◌, ⊎_elim, arith}
use Rattle.std.specs.Prelude.{◌==◌, ◌&&◌, ◌||◌, is_none, unwrap_or, option_map, find, Contains, slice_index, if◌then◌else◌}
use Rattle.std.proofs.lemmas.Bool.{not-false, eqb-true, eqb-false, eq-eqb, or_parts, or_left, or_right, and_parts, cond-true, cond-false, cases_Bool}
use Rattle.std.proofs.lemmas.Option.{same_Some}
use Rattle.epic_num.specs.declared.layout_error.LayoutError.{LayoutError}
use Rattle.epic_num.specs.declared.name.AsId.{AsId}
use Rattle.epic_num.specs.declared.turn.Check.{Check}
use Rattle.epic_num.specs.declared.turn.Check.TheVariants.{Layout}
use Rattle.epic_num.specs.declared.turn.Turn.{Turn}
use Rattle.epic_num.specs.declared.turn.Turn.TheVariants.{Refused}
use Rattle.epic_num.specs.Levels.{is_first_byte, is_timed}
use Rattle.epic_num.specs.Same.{same_as}
use Rattle.epic_num.specs.Tables.{first_row}
use Rattle.epic_num.specs.Windows.{Told, fresh_rows as fresh_rows_of, window_rows as window_rows_of}
use Rattle.epic_num.proofs.TableLaws.{row_passed, all_passed}
use Rattle.epic_layout.specs.Contents.{Contents, hop_count}
use Rattle.epic_layout.specs.Layout.{fault, parse}
use Rattle.epic_layout.specs.Route.{place, is_first, ingress}
use Rattle.epic_topo.specs.Network.{Network}
use Rattle.epic_router.specs.Candidates.{field_fits, tags_fit, accepting}
use Rattle.epic_router.specs.Checks.{Row, differ, is_turn, has_second, handled_hops, last_handled, is_wrong_source, is_wrong_switch, entry_rows, valid_rows, fresh_rows, tag_rows, switch_rows, second_rows, exit_rows, window_rows, rows}
use Rattle.epic_router.specs.Handling.{generation_at, generations_from, onward, unless, handled, turn_of}
use Rattle.epic_router.specs.RightTurns.{IsEntered, IsRightHop, IsTimely}

-- every row was passed
pub record IsPassed (t : Network) (a : AsId) (candidates : List ℕ) (iface now : ℕ) (told : Told) (p : Contents) : Type 0 where
  pub entry : first_row (entry_rows a iface p p.current) ≡ None
  pub valid : first_row (valid_rows t now p p.current) ≡ None
  pub fresh : first_row (fresh_rows t now p p.current) ≡ None
  pub tags : first_row (tag_rows t a candidates p p.current) ≡ None
  pub switch : first_row (switch_rows p p.current) ≡ None
  pub second : first_row (second_rows t a candidates now p p.current) ≡ None
  pub exit : first_row (exit_rows t a p (last_handled p p.current)) ≡ None
  pub window : first_row (window_rows t told p p.current) ≡ None

pub passed : (t : Network) (a : AsId) (candidates : List ℕ) (iface now : ℕ) (told : Told) (p : Contents)
    → first_row (rows t a candidates iface now told p) ≡ None → IsPassed t a candidates iface now told p
unfolding rows
passed t a candidates iface now told p none =
    let j = p.current in
    let entry = entry_rows a iface p j in
    let valid = valid_rows t now p j in
    let fresh = fresh_rows t now p j in
    let tags = tag_rows t a candidates p j in
    let switch = switch_rows p j in
    let second = second_rows t a candidates now p j in
    let exit = exit_rows t a p (last_handled p j) in
    let window = window_rows t told p j in
    let one = all_passed entry (valid ++ (fresh ++ (tags ++ (switch ++ (second ++ (exit ++ window)))))) none in
    let two = all_passed valid (fresh ++ (tags ++ (switch ++ (second ++ (exit ++ window))))) one.1 in
    let three = all_passed fresh (tags ++ (switch ++ (second ++ (exit ++ window)))) two.1 in
    let four = all_passed tags (switch ++ (second ++ (exit ++ window))) three.1 in
    let five = all_passed switch (second ++ (exit ++ window)) four.1 in
    let six = all_passed second (exit ++ window) five.1 in
    let seven = all_passed exit window six.1 in
    record {
      entry = one.0;
      valid = two.0;
      fresh = three.0;
      tags = four.0;
      switch = five.0;
      second = six.0;
      exit = seven.0;
      window = seven.1;
    }

-- ---- the answer is a refusal, or all was passed

if_refused : (P : Turn → Type 0) (o : Option (Check × ℕ)) (answer : Turn) → ((check : Check) (hop : ℕ) → P (Refused check hop)) → (o ≡ None → P answer) → P (unless o answer)
if_refused P None answer refused accepted = accepted refl
if_refused P (Some (check, hop)) answer refused accepted = refused check hop

no_fault : (o : Option LayoutError) (f : LayoutError → Check × ℕ) → option_map f o ≡ None → o ≡ None
no_fault None f e = refl
no_fault (Some x) f e = absurd (cc)

pub by_answer : (t : Network) (a : AsId) (candidates : List ℕ) (iface now : ℕ) (told : Told) (bytes : List ℕ) (P : Turn → Type 0)
    → ((check : Check) (hop : ℕ) → P (Refused check hop))
    → (fault is_first_byte bytes ≡ None → IsPassed t a candidates iface now told (parse bytes)
    → (let p = parse bytes in
    P (onward p (last_handled p p.current) (handled_hops p p.current) (generations_from t a candidates p p.current))))
    → P (turn_of t a candidates iface now told bytes)
unfolding turn_of handled
by_answer t a candidates iface now told bytes P refused accepted =
    let p = parse bytes in
    if_refused P (option_map (λ e. (Layout e, 0)) (fault is_first_byte bytes)) (handled t a candidates iface now told p) refused
    (λ e. if_refused P (first_row (rows t a candidates iface now told p))
    (onward p (last_handled p p.current) (handled_hops p p.current) (generations_from t a candidates p p.current)) refused
    (λ none. accepted (no_fault _ _ e) (passed t a candidates iface now told p none)))

-- ---- what each part of the table says

agree : (x y : Bool) → differ x y ≡ false → x ≡ y
agree true true e = refl
agree true false e = absurd (cc)
agree false true e = absurd (cc)
agree false false e = refl

pub other_fails : (x y : Bool) → x ≡ true → (x && y) ≡ false → y ≡ false
other_fails true y h e = e
other_fails false y h e = absurd (cc)

equal : (m n : ℕ) → not (m == n) ≡ false → m ≡ n
equal m n e = eqb-true m n (not-false _ e)

pub one_as : (a b : AsId) → not (same_as a b) ≡ false → a ≡ b
unfolding same_as
one_as a b e = let same = equal a.0 b.0 e in λ i. record { 0 = same i }

pub entered : (a : AsId) (iface : ℕ) (p : Contents) → first_row (entry_rows a iface p p.current) ≡ None → (p.current ≢ hop_count p) × IsEntered a iface p
unfolding entry_rows is_wrong_source
entered a iface p e =
    let ended = row_passed _ _ e in
    let ingress_is = row_passed _ _ ended.1 in
    let source = row_passed _ _ ingress_is.1 in
    let parts = or_parts _ _ source.0 in
    let inside : (iface == 0) ≡ (p.current == 0) = agree _ _ parts.0 in (
      eqb-false _ _ ended.0,
      record {
        ingress_is = sym (equal _ _ ingress_is.0);
        at_start = λ h. eqb-true _ _ (sym inside ∙ eq-eqb iface 0 h);
        from_inside = λ h. eqb-true _ _ (inside ∙ eq-eqb p.current 0 h);
        source = λ h. one_as _ _ (other_fails _ _ (eq-eqb iface 0 h) parts.1);
      },
    )

some : (o : Option ℕ) → is_none o ≡ false → o ≡ Some (unwrap_or o 0)
some None e = absurd (cc)
some (Some g) e = refl

pub found_from : (test : ℕ → Bool) (xs : List ℕ) (g : ℕ) → find test xs ≡ Some g → (test g ≡ true) × Contains xs g
found_from test [] g e = absurd (cc)
found_from test (x ∷ xs) g e =
    ⊎_elim
    (λ h. let same : x ≡ g = same_Some x g (sym (cond-true _ _ _ h) ∙ e) in
    (ap test (sym same) ∙ h, (0, omega arith, same)))
    (λ h. let later = found_from test xs g (sym (cond-false _ _ _ h) ∙ e) in
    (later.0, (suc later.1.0, omega (arith, later.1.1), later.1.2)))
    (cases_Bool (test x))

-- a hop whose rows were passed
pub right_hop : (t : Network) (a : AsId) (candidates : List ℕ) (now : ℕ) (p : Contents) (j : ℕ)
    → first_row (valid_rows t now p j) ≡ None → first_row (tag_rows t a candidates p j) ≡ None → first_row (switch_rows p j) ≡ None
    → IsRightHop t a candidates (generation_at t a candidates p j) now p j
unfolding valid_rows tag_rows switch_rows generation_at accepting tags_fit field_fits is_wrong_switch
right_hop t a candidates now p j valid tags switch =
    let future = row_passed _ _ valid in
    let expired = row_passed _ _ future.1 in
    let field = row_passed _ _ tags in
    let link = row_passed _ _ field.1 in
    let switched = row_passed _ _ switch in
    let g = unwrap_or (accepting t a candidates p j) 0 in
    let found = found_from (tags_fit t a p j) candidates g (some _ link.0) in
    let both = and_parts _ _ found.0 in
    let ends = or_parts _ _ switched.0 in
    record {
      not_future = future.0;
      not_expired = expired.0;
      candidate = found.1;
      field_is = both.0;
      link_is = both.1;
      first_is = sym (agree _ _ ends.0);
      last_is = sym (agree _ _ ends.1);
    }

-- the hop after it, where the router handles it too
pub second_hop : (t : Network) (a : AsId) (candidates : List ℕ) (now : ℕ) (p : Contents) (j : ℕ)
    → first_row (second_rows t a candidates now p j) ≡ None → has_second p j ≡ true
    → IsRightHop t a candidates (generation_at t a candidates p (j + 1)) now p (j + 1)
unfolding second_rows
second_hop t a candidates now p j none two =
    let valid = valid_rows t now p (j + 1) in
    let tags = tag_rows t a candidates p (j + 1) in
    let switch = switch_rows p (j + 1) in
    let all = ap first_row (sym (cond-true (has_second p j) (valid ++ (tags ++ switch)) [] two)) ∙ none in
    let first = all_passed valid (tags ++ switch) all in
    let rest = all_passed tags switch first.1 in
    right_hop t a candidates now p (j + 1) first.0 rest.0 rest.1

-- a packet of level 1 to 3
pub timely : (t : Network) (now : ℕ) (told : Told) (p : Contents) (j : ℕ)
    → first_row (fresh_rows t now p j) ≡ None → first_row (window_rows t told p j) ≡ None → is_timed p.first ≡ true → IsTimely t now told p
unfolding fresh_rows window_rows fresh_rows_of window_rows_of
timely t now told p j fresh window timed =
    let freshness = ap first_row (sym (cond-true (is_timed p.first) _ [] timed)) ∙ fresh in
    let remembered = ap first_row (sym (cond-true (is_timed p.first) _ [] timed)) ∙ window in
    let stale = row_passed _ _ freshness in
    let early = row_passed _ _ stale.1 in
    let here = row_passed _ _ remembered in
    let room = row_passed _ _ here.1 in
    record { not_stale = stale.0; not_early = early.0; unseen = here.0; room = room.0 }

-- a packet comes to a router at the hop at which it is accepted
pub comes : (a : AsId) (iface : ℕ) (p : Contents) → IsEntered a iface p → is_first (place p.route.segments p.current) ≡ (ingress p.route p.current == 0)
    → is_turn p p.current ≡ true
unfolding is_turn
comes a iface p entered first_is =
    ⊎_elim
    (λ first. or_left _ _ (eq-eqb p.current 0 (entered.at_start (sym entered.ingress_is ∙ eqb-true _ _ (sym first_is ∙ first)))))
    (λ other. or_right (p.current == 0) _ (ap not other))
    (cases_Bool (is_first (place p.route.segments p.current)))

-- ---- how many hops are handled

-- under which generations
pub generations : Network → AsId → List ℕ → Contents → ℕ → List ℕ
generations t a candidates p j =
    generation_at t a candidates p j ∷ (if has_second p j then generation_at t a candidates p (j + 1) ∷ [] else [])

pub taken : (t : Network) (a : AsId) (candidates : List ℕ) (p : Contents) (j : ℕ)
    → take (handled_hops p j) (generations_from t a candidates p j) ≡ generations t a candidates p j
unfolding handled_hops generations_from generations
taken t a candidates p j =
    elim (has_second p j) as (λ b. take (if b then 2 else 1) (generation_at t a candidates p j ∷ (if b then generation_at t a candidates p (j + 1) else 0) ∷ [])
    ≡ generation_at t a candidates p j ∷ (if b then generation_at t a candidates p (j + 1) ∷ [] else [])) [
      | true ↦ refl
      | false ↦ refl
    ]
