-- A packet on its way passes every row of a router's table.
use Rattle.std.proofs.Common.{◌≡◌, ℕ, ◌+◌, ◌<◌, ◌≤◌, ◌⊎◌, inl, inr, Bool, true, false, not, List, [], ◌∷◌, ◌++◌, length, Option, None, refl, ap, sym, subst, ◌∙◌, ⊎_elim, arith}
use Rattle.std.specs.Prelude.{◌==◌, ◌&&◌, is_none, option_map, unwrap_or, if◌then◌else◌}
use Rattle.std.proofs.lemmas.Bool.{and_left, and_right, and_cases, or_from, or_cases, not-true, not-false, not_from_true, cond-true, cond-false, cases_Bool, eqb-true, eq-eqb, ne_eqb, both_ways}
use Rattle.epic_num.specs.declared.hop.HopName.{HopName}
use Rattle.epic_num.specs.declared.turn.Check.TheVariants.{Layout}
use Rattle.epic_num.specs.Levels.{is_timed, is_updated}
use Rattle.epic_num.specs.Moments.{is_path_future, is_expired, is_stale, is_early}
use Rattle.epic_num.specs.Same.{same_as}
use Rattle.epic_num.specs.Tables.{first_row}
use Rattle.epic_num.specs.Windows.{Told, was_here, has_no_room, fresh_rows as fresh_rows_of, window_rows as window_rows_of}
use Rattle.epic_num.proofs.SameLaws.{same_as-Decides}
use Rattle.epic_num.proofs.TableLaws.{first_row-behind}
use Rattle.epic_layout.specs.Contents.{Contents, IsPacket, hop_count}
use Rattle.epic_layout.specs.Layout.{parse}
use Rattle.epic_layout.specs.Route.{place, is_first, is_last, ingress, egress, body, hops_of}
use Rattle.epic_layout.specs.Spelling.{spelling}
use Rattle.epic_layout.proofs.HopPlaces.{places_are_one}
use Rattle.epic_layout.proofs.Joins.{segments_join}
use Rattle.epic_layout.proofs.OneSpelling.{packets_are_spelled}
use Rattle.epic_topo.specs.Network.{Network, neighbour}
use Rattle.epic_router.specs.Candidates.{accepting, some_field_fits, candidates_of}
use Rattle.epic_router.specs.Checks.{differ, is_turn, has_second, handled_hops, last_handled, is_wrong_source, is_wrong_switch, entry_rows, valid_rows, fresh_rows, tag_rows, switch_rows, second_rows, exit_rows, window_rows, rows}
use Rattle.epic_router.specs.Handling.{generation_at, generations_from, onward, unless, handled, turn_of}
use Rattle.epic_router.proofs.Right.{second_is}
use Rattle.epic_ends.specs.Ways.{IsRoad, IsMade, on_way}
use Rattle.epic_ends.proofs.RightTags.{InForce, accepted_on, field_on}

-- ---- rows

pass : {A : Type 0} (b : Bool) (o rest : Option A) → b ≡ false → rest ≡ None → (if b then o else rest) ≡ None
pass b o rest e none = cond-false b o rest e ∙ none

behind : {X : Type 0} (xs ys : List (Bool × X)) → first_row xs ≡ None → first_row ys ≡ None → first_row (xs ++ ys) ≡ None
behind xs ys e none = first_row-behind xs ys e ∙ none

alike : (x y : Bool) → x ≡ y → differ x y ≡ false
alike true true e = refl
alike true false e = absurd (cc)
alike false true e = absurd (cc)
alike false false e = refl

-- ---- places

module _ (t : Network) (p : Contents) (x : ℕ → HopName) (road : IsRoad t p x) (packet : IsPacket p) where
  counted : hops_of p.route.segments ≡ hop_count p
  counted = packet.route.counted

  -- the packet's first hop is the first of its segment
  pub first_hop : 0 < hop_count p → is_first (place p.route.segments 0) ≡ true
  unfolding is_first
  first_hop h = (let at = ((places_are_one p.route.segments).placed 0 (omega (arith, h, counted))).from_start in eq-eqb _ 0 (omega (arith, at)))

  -- where a packet comes to a router, it comes from inside exactly at its first hop
  pub comes_from : (j : ℕ) → j < hop_count p → is_turn p j ≡ true → (ingress p.route j == 0) ≡ (j == 0)
  unfolding is_turn
  comes_from j h turn =
      ⊎_elim
      (λ z. sym (road.first_is j h) ∙ (subst (λ k. is_first (place p.route.segments k) ≡ true) (sym (eqb-true j 0 z)) (first_hop (omega (arith, h))) ∙ sym z))
      (λ nz. sym (road.first_is j h)
      ∙ (⊎_elim (λ z. absurd (both_ways (j == 0) nz z)) (λ e. not-true _ e) (or_cases (j == 0) (not (is_first (place p.route.segments j))) turn) ∙ sym nz))
      (cases_Bool (j == 0))

  -- the last hop that is handled: the way goes on over a link from there, or ends there
  pub record IsLastHandled (j z : ℕ) : Type 0 where
    pub within : z < hop_count p
    pub asn_is : (x z).asn ≡ (x j).asn
    pub goes : (is_last (place p.route.segments z) ≡ false) ⊎ ((z + 1 ≡ hop_count p) × (is_last (place p.route.segments z) ≡ true))

  -- a hop with which no other is handled
  alone : (j : ℕ) → has_second p j ≡ false → (is_last (place p.route.segments j) ≡ false) ⊎ ((j + 1 ≡ hop_count p) × (is_last (place p.route.segments j) ≡ true))
  unfolding has_second
  alone j one =
      ⊎_elim (λ e. inl e)
      (λ e. ⊎_elim (λ last. inr (eqb-true (j + 1) (hop_count p) (not-false _ e), last)) (λ other. inl other) (cases_Bool (is_last (place p.route.segments j))))
      (and_cases (is_last (place p.route.segments j)) (not (j + 1 == hop_count p)) one)

  pub last_is : (j : ℕ) → j < hop_count p → IsLastHandled j (last_handled p j)
  unfolding last_handled
  last_is j h =
      ⊎_elim
      (λ two. (let s = second_is p j two in
      let ne = s.1 in
      let within : j + 1 < hop_count p = omega (arith, h, ne) in
      let join = segments_join p.route.segments in
      subst (IsLastHandled j) (sym (cond-true (has_second p j) (j + 1) j two))
      (record {
        within = within;
        asn_is = road.switches j within s.0;
        goes = inl (join.first_not_last packet.route.segments (j + 1) (omega (arith, within, counted)) (join.behind_last j s.0));
      })))
      (λ one. subst (IsLastHandled j) (sym (cond-false (has_second p j) (j + 1) j one))
      (record {
        within = h;
        asn_is = refl;
        goes = alone j one;
      }))
      (cases_Bool (has_second p j))

-- ---- a packet on its way has the places of the packet

same_second : (us : List (List ℕ)) (p : Contents) (j : ℕ) → has_second (on_way us p j) j ≡ has_second p j
unfolding has_second on_way
same_second us p j = refl

same_last : (us : List (List ℕ)) (p : Contents) (j : ℕ) → last_handled (on_way us p j) j ≡ last_handled p j
unfolding last_handled has_second on_way
same_last us p j = refl

current_on : (us : List (List ℕ)) (p : Contents) (j : ℕ) → (on_way us p j).current ≡ j
unfolding on_way
current_on us p j = refl

same_onward : (us : List (List ℕ)) (p : Contents) (j : ℕ) (gs : List ℕ)
    → (let q = on_way us p j in
    onward q (last_handled q q.current) (handled_hops q q.current) gs ≡ onward p (last_handled p j) (handled_hops p j) gs)
unfolding on_way onward last_handled handled_hops has_second
same_onward us p j gs = refl

-- the generations under which its hops are accepted
unfoldable pub gens_of : (ℕ → HopName) → Contents → ℕ → List ℕ
gens_of x p j = (x j).generation ∷ (if has_second p j then (x (j + 1)).generation else 0) ∷ []

-- ---- the rows one by one

module _ (t : Network) (us : List (List ℕ)) (p : Contents) (x : ℕ → HopName) (road : IsRoad t p x) (made : IsMade t p x) (packet : IsPacket p)
    (now present : ℕ) (j : ℕ) (within : j < hop_count p) (turn : is_turn p j ≡ true) (long : is_updated p.first ≡ true → j ≤ length us)
    (not_future : (k : ℕ) → k < hop_count p → is_path_future t.profile (body p.route k).ts_path now ≡ false)
    (valid : (k : ℕ) → k < hop_count p → is_expired (body p.route k).ts_path (body p.route k).exp now ≡ false)
    (force : (k : ℕ) → k < hop_count p → (x k).asn ≡ (x j).asn → InForce t present p (x k) k) where
  q : Contents
  q = on_way us p j

  entry_none : first_row (entry_rows (x j).asn (ingress p.route j) q j) ≡ None
  unfolding entry_rows is_wrong_source q on_way
  entry_none =
      let inside = comes_from t p x road packet j within turn in
      let source : ((ingress p.route j == 0) && not (same_as p.src.asn (x j).asn)) ≡ false
      = ⊎_elim
      (λ z. and_right (ingress p.route j == 0) _ (not_from_true _ ((same_as-Decides p.src.asn (x j).asn).1 (sym road.starts ∙ ap (λ k. (x k).asn) (sym (eqb-true j 0 (sym inside ∙ z)))))))
      (λ nz. and_left _ _ nz)
      (cases_Bool (ingress p.route j == 0)) in
      pass _ _ _ (ne_eqb j (hop_count p) (λ e. omega (arith, within, e)))
      (pass _ _ _ (not_from_true _ (eq-eqb (ingress p.route j) (ingress p.route j) refl))
      (pass _ _ _ (or_from _ _ (alike (ingress p.route j == 0) (j == 0) inside) source) refl))

  valid_none : (k : ℕ) → k < hop_count p → first_row (valid_rows t now q k) ≡ None
  unfolding valid_rows q on_way
  valid_none k h = pass _ _ _ (not_future k h) (pass _ _ _ (valid k h) refl)

  tags_none : (k : ℕ) → j ≤ k → k < hop_count p → (x k).asn ≡ (x j).asn → first_row (tag_rows t (x j).asn (candidates_of present) q k) ≡ None
  unfolding tag_rows q
  tags_none k later h same =
      let f = force k h same in
      let field = ap (λ a. some_field_fits t a (candidates_of present) (on_way us p j) k) (sym same) ∙ field_on t us p x present j k road made long later h f in
      let some = ap (λ a. accepting t a (candidates_of present) (on_way us p j) k) (sym same) ∙ accepted_on t us p x present j k road made long later h f in
      pass _ _ _ (not_from_true _ field) (pass _ _ _ (ap is_none some) refl)

  switch_none : (k : ℕ) → k < hop_count p → first_row (switch_rows q k) ≡ None
  unfolding switch_rows is_wrong_switch q on_way
  switch_none k h =
      pass _ _ _ (or_from _ _ (alike (ingress p.route k == 0) _ (sym (road.first_is k h))) (alike (egress p.route k == 0) _ (sym (road.last_is k h)))) refl

  second_none : first_row (second_rows t (x j).asn (candidates_of present) now q j) ≡ None
  unfolding second_rows q
  second_none =
      let more = valid_rows t now q (j + 1) ++ (tag_rows t (x j).asn (candidates_of present) q (j + 1) ++ switch_rows q (j + 1)) in
      ⊎_elim
      (λ two. (let s = second_is p j (sym (same_second us p j) ∙ two) in
      let ne = s.1 in
      let h : j + 1 < hop_count p = omega (arith, within, ne) in
      ap first_row (cond-true (has_second q j) more [] two)
      ∙ behind (valid_rows t now q (j + 1)) (tag_rows t (x j).asn (candidates_of present) q (j + 1) ++ switch_rows q (j + 1)) (valid_none (j + 1) h)
      (behind (tag_rows t (x j).asn (candidates_of present) q (j + 1)) (switch_rows q (j + 1)) (tags_none (j + 1) (omega arith) h (road.switches j h s.0)) (switch_none (j + 1) h))))
      (λ one. ap first_row (cond-false (has_second q j) more [] one))
      (cases_Bool (has_second q j))

  exit_none : first_row (exit_rows t (x j).asn q (last_handled p j)) ≡ None
  unfolding exit_rows q on_way
  exit_none =
      let z = last_handled p j in
      let last = last_is t p x road packet j within in
      ⊎_elim
      (λ goes. (let leads = road.leads z last.within goes in
      let out : (egress p.route z == 0) ≡ false = sym (road.last_is z last.within) ∙ goes in
      let linked = ap (λ a. is_none (neighbour t a (egress p.route z))) (sym last.asn_is) ∙ ap is_none leads.linked in
      pass _ _ _ (and_right (not (egress p.route z == 0)) _ linked) (pass _ _ _ (and_left _ _ out) refl)))
      (λ ends. (let none : (egress p.route z == 0) ≡ true = sym (road.last_is z last.within) ∙ ends.1 in
      let there = (same_as-Decides p.dst.asn (x j).asn).1 (sym (road.ends z ends.0) ∙ last.asn_is) in
      pass _ _ _ (and_left _ _ (not_from_true _ none)) (pass _ _ _ (and_right (egress p.route z == 0) _ (not_from_true _ there)) refl)))
      last.goes

  module _ (told : Told)
      (not_stale : is_timed p.first ≡ true → is_stale t.profile p.ts now ≡ false) (not_early : is_timed p.first ≡ true → is_early t.profile p.ts now ≡ false)
      (unseen : is_timed p.first ≡ true → was_here told ≡ false) (room : is_timed p.first ≡ true → has_no_room t.profile told ≡ false) where
    fresh_none : first_row (fresh_rows t now q j) ≡ None
    unfolding fresh_rows fresh_rows_of q on_way
    fresh_none =
        ⊎_elim
        (λ e. ap first_row (cond-true (is_timed p.first) _ [] e) ∙ pass _ _ _ (not_stale e) (pass _ _ _ (not_early e) refl))
        (λ e. ap first_row (cond-false (is_timed p.first) _ [] e))
        (cases_Bool (is_timed p.first))

    window_none : first_row (window_rows t told q j) ≡ None
    unfolding window_rows window_rows_of q on_way
    window_none =
        ⊎_elim
        (λ e. ap first_row (cond-true (is_timed p.first) _ [] e) ∙ pass _ _ _ (unseen e) (pass _ _ _ (room e) refl))
        (λ e. ap first_row (cond-false (is_timed p.first) _ [] e))
        (cases_Bool (is_timed p.first))

    rows_none : first_row (rows t (x j).asn (candidates_of present) (ingress p.route j) now told q) ≡ None
    unfolding rows q
    rows_none =
        let a = (x j).asn in
        let cs = candidates_of present in
        let valid_ = valid_rows t now q j in
        let fresh = fresh_rows t now q j in
        let tags = tag_rows t a cs q j in
        let switch = switch_rows q j in
        let second = second_rows t a cs now q j in
        let exit = exit_rows t a q (last_handled q j) in
        let window = window_rows t told q j in
        let exits : first_row exit ≡ None = ap (λ z. first_row (exit_rows t a q z)) (same_last us p j) ∙ exit_none in
        subst (λ k. first_row (entry_rows a (ingress p.route j) q k ++ (valid_rows t now q k ++ (fresh_rows t now q k ++ (tag_rows t a cs q k ++ (switch_rows q k
        ++ (second_rows t a cs now q k ++ (exit_rows t a q (last_handled q k) ++ window_rows t told q k))))))) ≡ None) (sym (current_on us p j))
        (behind (entry_rows a (ingress p.route j) q j) (valid_ ++ (fresh ++ (tags ++ (switch ++ (second ++ (exit ++ window)))))) entry_none
        (behind valid_ (fresh ++ (tags ++ (switch ++ (second ++ (exit ++ window))))) (valid_none j within)
        (behind fresh (tags ++ (switch ++ (second ++ (exit ++ window)))) fresh_none
        (behind tags (switch ++ (second ++ (exit ++ window))) (tags_none j (omega arith) within refl)
        (behind switch (second ++ (exit ++ window)) (switch_none j within)
        (behind second (exit ++ window) second_none
        (behind exit window exits window_none)))))))

    generations_are : generations_from t (x j).asn (candidates_of present) q j ≡ gens_of x p j
    unfolding generations_from generation_at gens_of q
    generations_are =
        ⊎_elim
        (λ two. (let s = second_is p j (sym (same_second us p j) ∙ two) in
        let ne = s.1 in
        let h : j + 1 < hop_count p = omega (arith, within, ne) in
        let same = road.switches j h s.0 in
        let second = ap (λ a. unwrap_or (accepting t a (candidates_of present) (on_way us p j) (j + 1)) 0) (sym same)
        ∙ ap (λ o. unwrap_or o 0) (accepted_on t us p x present j (j + 1) road made long (omega arith) h (force (j + 1) h same)) in
        λ i. first i ∷ (cond-true (has_second (on_way us p j) j) (unwrap_or (accepting t (x j).asn (candidates_of present) (on_way us p j) (j + 1)) 0) 0 two
        ∙ (second ∙ sym (cond-true (has_second p j) (x (j + 1)).generation 0 (sym (same_second us p j) ∙ two)))) i ∷ []))
        (λ one. λ i. first i ∷ (cond-false (has_second (on_way us p j) j) (unwrap_or (accepting t (x j).asn (candidates_of present) (on_way us p j) (j + 1)) 0) 0 one
        ∙ sym (cond-false (has_second p j) (x (j + 1)).generation 0 (sym (same_second us p j) ∙ one))) i ∷ [])
        (cases_Bool (has_second (on_way us p j) j))
      where
        first : unwrap_or (accepting t (x j).asn (candidates_of present) (on_way us p j) j) 0 ≡ (x j).generation
        first = ap (λ o. unwrap_or o 0) (accepted_on t us p x present j j road made long (omega arith) within (force j within refl))

    -- the router sends it on, or delivers it
    pub answered : IsPacket (on_way us p j)
        → turn_of t (x j).asn (candidates_of present) (ingress p.route j) now told (spelling (on_way us p j))
        ≡ onward p (last_handled p j) (handled_hops p j) (gens_of x p j)
    unfolding turn_of handled q
    answered spelled =
        let s = packets_are_spelled q spelled in
        let a = (x j).asn in
        let cs = candidates_of present in
        ap (λ f. unless (option_map (λ e. (Layout e, 0)) f) (handled t a cs (ingress p.route j) now told (parse (spelling q)))) s.faultless
        ∙ (ap (handled t a cs (ingress p.route j) now told) s.says
        ∙ (ap (λ o. unless o (onward q (last_handled q q.current) (handled_hops q q.current) (generations_from t a cs q q.current))) rows_none
        ∙ (same_onward us p j (generations_from t a cs q q.current)
        ∙ ap (onward p (last_handled p j) (handled_hops p j)) (ap (generations_from t a cs q) (current_on us p j) ∙ generations_are))))
