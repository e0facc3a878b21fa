-- Heads of empty lists: the links and the pool at the start.
use Rattle.std.proofs.Common.{◌≡◌, ℕ, ◌+◌, ◌<◌, ◌≤◌, ◌^◌, refl, sym, ◌∙◌, ap, subst, List, [], ◌∷◌, ◌++◌, length, get_or, None, Option, replicate, inl, inr, arith}
use Rattle.std.specs.Prelude.{IsSome, is_some}
use Rattle.std.specs.List.{All}
use Rattle.std.proofs.lemmas.Bool.{true≢false, cases_lt}
use Rattle.std.proofs.lemmas.List.{length-replicate, get_or_past}
use Rattle.std.proofs.lemmas.List.Elements.{All-nil, All-replicate, All-same}
use Rattle.std.proofs.lemmas.List.FromFn.{fill_by_all}
use Rattle.epic_pool.specs.Inside.{lists_of, IsPool}
use Rattle.epic_pool.specs.Rings.{Path, ring, Alone, Itself}
use Rattle.epic_pool.proofs.Growing.{at_front, at_end, length-push}
use Rattle.epic_pool.proofs.Paths.{ring_is}

pub itself_none : Itself 0 []
itself_none = record { same_length = refl; each = λ i lt. absurd (omega arith) }

pub itself_more : (n : ℕ) (xs : List ℕ) → Itself n xs → Itself (n + 1) (xs ++ n ∷ [])
itself_more n xs s =
    let many = s.same_length in
    record {
      same_length = length-push xs n ∙ ap (λ (k : ℕ). k + 1) many;
      each = λ i lt. elim (cases_lt i n) [
        | inl less ↦ at_front xs n i (subst (λ (k : ℕ). i < k) (sym many) less) ∙ s.each i less
        | inr le ↦
            let is : i ≡ length xs = omega (arith, many) in
            ap (λ (k : ℕ). get_or (xs ++ n ∷ []) k 0) is ∙ at_end xs n ∙ sym many ∙ sym is
      ];
    }

module _ (n : ℕ) (next prev : List ℕ) (a : Itself n next) (b : Itself n prev) where
  next_itself : (i : ℕ) → i < length next → get_or next i 0 ≡ i
  next_itself i lt = a.each i (subst (λ (k : ℕ). i < k) a.same_length lt)

  prev_itself : (i : ℕ) → i < length next → get_or prev i 0 ≡ i
  prev_itself i lt = b.each i (subst (λ (k : ℕ). i < k) a.same_length lt)

  inside : (i : ℕ) → i < length next → get_or next i 0 < length next
  inside i lt = subst (λ (k : ℕ). k < length next) (sym (next_itself i lt)) lt

  from_head : (l : ℕ) → l < n → l < length next
  from_head l lt = subst (λ (k : ℕ). l < k) (sym a.same_length) lt

  to_itself : (l : ℕ) → l < n → Path n next l [] l
  unfolding Path
  to_itself l lt = a.each l lt

  no_nodes : (l : ℕ) → l < n → ring n next l ≡ []
  no_nodes l lt = ring_is n next [] l l inside (from_head l lt) (to_itself l lt) lt

  pub alone_at_start : Alone n next prev
  alone_at_start =
      let e = a.same_length in
      let f = b.same_length in
      record {
        rings = record {
          same_length = omega arith;
          heads = omega arith;
          next_inside = inside;
          prev_inside = λ i lt. subst (λ (k : ℕ). k < length next) (sym (prev_itself i lt)) lt;
          back = λ i lt. ap (λ (k : ℕ). get_or prev k 0) (next_itself i lt) ∙ prev_itself i lt;
          forth = λ i lt. ap (λ (k : ℕ). get_or next k 0) (prev_itself i lt) ∙ next_itself i lt;
          closed = λ l lt. subst (λ (xs : List ℕ). Path n next l xs l) (sym (no_nodes l lt)) (to_itself l lt);
        };
        same_length = e;
        lists = no_nodes;
      }

pub start_lists : (base : ℕ) (next prev : List ℕ) (n : ℕ) → Alone base next prev → n ≤ base → lists_of base next n ≡ replicate n []
unfolding lists_of
start_lists base next prev n s le =
    sym
    (fill_by_all (ring base next) (replicate n []) n [] (length-replicate n [])
    (λ k lt. All-replicate (λ (l : List ℕ). l ≡ []) n [] refl k [] (subst (λ (m : ℕ). k < m) (sym (length-replicate n [])) lt) ∙ sym (s.lists k (omega arith))))

pub start_spare : (base : ℕ) (next prev : List ℕ) (n : ℕ) → Alone base next prev → n < base → length (ring base next n) ≡ 0
start_spare base next prev n s lt = ap length (s.lists n lt)

read_none : {T : Type 0} (xs : List (Option T)) (k : ℕ) → All (λ (o : Option T). o ≡ None) xs → get_or xs k None ≡ None
read_none xs k h = elim (cases_lt k (length xs)) [
  | inl lt ↦ h k None lt
  | inr le ↦ get_or_past xs k None le
]

pub nothing_there : {T : Type 0} (none : Option T) → none ≡ None → (n i : ℕ) → get_or (replicate n none) i None ≡ None
nothing_there {T = T} none is n i = read_none (replicate n none) i (All-replicate (λ (o : Option T). o ≡ None) n none is)

module _ {T : Type 0} (base la lb : ℕ) (na pa nb pb : List ℕ) (a : Alone base na pa) (b : Alone base nb pb) where
  not_live : (values : List (Option T)) (i : ℕ) → ((k : ℕ) → get_or values k None ≡ None) → IsSome (get_or values i None) → ⊥
  not_live values i none some = true≢false (sym some ∙ ap (λ (o : Option T). is_some o) (none i))

  pub start : (values : List (Option T)) → length values ≡ base → ((k : ℕ) → get_or values k None ≡ None) → la < base → lb ≤ base → base < 2 ^ 32 → IsPool base la lb na pa nb pb values
  start values len none la_in lb_in small =
      let e1 = a.same_length in
      let e2 = b.same_length in
      record {
        rings_a = a.rings;
        rings_b = b.rings;
        same_length = omega arith;
        values_length = omega arith;
        heads_a = la_in;
        heads_b = lb_in;
        live_a = λ l lt. All-same (λ (x : ℕ). IsSome (get_or values x None)) (ring base na l) [] (a.lists l (omega arith)) (All-nil (λ (x : ℕ). IsSome (get_or values x None)));
        live_b = λ l lt. All-same (λ (x : ℕ). IsSome (get_or values x None)) (ring base nb l) [] (b.lists l (omega arith)) (All-nil (λ (x : ℕ). IsSome (get_or values x None)));
        unused = All-same (λ (x : ℕ). get_or values x None ≡ None) (ring base na la) [] (a.lists la la_in) (All-nil (λ (x : ℕ). get_or values x None ≡ None));
        alone = λ i le lt e. absurd (omega arith);
        heads_empty = λ i lt. none i;
        listed_a = λ i some. absurd (not_live values i none some);
        listed_b = λ i some. absurd (not_live values i none some);
        numbers = subst (λ (k : ℕ). k < 2 ^ 32) (sym e1) small;
      }
