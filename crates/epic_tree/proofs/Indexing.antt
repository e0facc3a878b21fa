-- An index of a list of keys, and of the list with one key more.
use Rattle.std.proofs.Common.{◌≡◌, ◌≢◌, ℕ, zero, suc, ◌+◌, ◌<◌, ◌≤◌, Bool, true, false, not, cond, List, [], ◌∷◌, ◌++◌, length, map, Option, Some, None, Ordering, refl, sym, ap, ◌∙◌, subst, arith, length-append}
use Rattle.std.specs.Prelude.{position, nat_lt, slice_index, slice_index_or, ◌==◌}
use Rattle.std.specs.List.{position_or_len}
use Rattle.std.specs.Cmp.{IsTotalOrder}
use Rattle.std.specs.Option.{option_or}
use Rattle.std.specs.Ordering.{MatchOrdering, is_eq, nat_cmp, ordering_then, ordering_reverse}
use Rattle.std.specs.declared.cmp.Ordering.TheVariants.{Less, Equal, Greater}
use Rattle.std.proofs.lemmas.Cmp.{ranked, alike_right, tied_itself, nat_cmp_total, on_total, then_total}
use Rattle.std.proofs.lemmas.List.{get_or_append_left, get_or_at, map-append, length-map}
use Rattle.std.proofs.lemmas.List.Folds.{position_or_len_push}
use Rattle.std.proofs.lemmas.List.Sums.{prefix_len-le-length}
use Rattle.std.proofs.lemmas.Bool.Decides.{nat_tests}
use Rattle.epic_tree.specs.Sides.{IsBefore, Behind, IsCut, found, put_by, put, by_tag, Ordered}
use Rattle.epic_tree.specs.Index.{key_side, AreBelow, IsIndex, tagged_cmp, IsTagOf, IsTagged}
use Rattle.epic_tree.proofs.Cutting.{behind_map, none_before}

-- How y stands to a key, where y stands to z as the first says, and z to the key as the second does.
abbrev Follows : Ordering → Ordering → Ordering → Type 0
Follows Less Less o = o ≡ Less
Follows Less Equal o = o ≡ Less
Follows Less Greater o = Unit {0}
Follows Equal p o = o ≡ p
Follows Greater Less o = Unit {0}
Follows Greater Equal o = o ≡ Greater
Follows Greater Greater o = o ≡ Greater

follows : {K : Type 0} {R : K → K → Ordering} → IsTotalOrder R → (x y z : K) (o p : Ordering) → R x y ≡ o → R y z ≡ p → Follows o p (R x z)
follows t x y z Less Less e f = t.trans x y z e f
follows t x y z Less Equal e f = sym (alike_right t y z x f) ∙ e
follows t x y z Less Greater e f = tt
follows t x y z Equal p e f = t.congr x y z e ∙ f
follows t x y z Greater Less e f = tt
follows t x y z Greater Equal e f = sym (alike_right t y z x f) ∙ e
follows t x y z Greater Greater e f =
    let first = ap ordering_reverse f in
    let second = ap ordering_reverse e in
    let back = t.trans z y x (t.antisymm z y ∙ first) (t.antisymm y x ∙ second) in
    t.antisymm x z ∙ ap ordering_reverse back

-- a place that comes in

before_by : (sy sn : ℕ → Ordering) (n : ℕ) (ps : List ℕ) → AreBelow n ps → ((p : ℕ) → p < n → sn p ≡ Less → sy p ≡ Less) → IsBefore sn ps → IsBefore sy ps
before_by sy sn n [] b h k = tt
before_by sy sn n (p ∷ ps) b h k = (h p b.0 k.0, before_by sy sn n ps b.1 h k.1)

behind_all : (o : Ordering) {A B : Type 0} → A → B → Behind o A B
behind_all Less a b = b
behind_all Equal a b = b
behind_all Greater a b = a

before_put_by : (o : Ordering) (sy : ℕ → Ordering) (n p : ℕ) (ps more : List ℕ) → sy n ≡ Less → IsBefore sy (p ∷ ps) → IsBefore sy more → IsBefore sy (put_by o n p ps more)
before_put_by Less sy n p ps more e h k = (e, h)
before_put_by Equal sy n p ps more e h k = h
before_put_by Greater sy n p ps more e h k = (h.0, k)

before_put : (sy sn : ℕ → Ordering) (n : ℕ) (ps : List ℕ) → sy n ≡ Less → IsBefore sy ps → IsBefore sy (put sn n ps)
before_put sy sn n [] e h = (e, tt)
before_put sy sn n (p ∷ ps) e h = before_put_by (sn p) sy n p ps (put sn n ps) e h (before_put sy sn n ps e h.1)

-- the sides of y and of the new key, which stand to each other as e says
abbrev AreSides : Ordering → (ℕ → Ordering) → (ℕ → Ordering) → ℕ → Type 0
AreSides e sy sn n = (p : ℕ) → p < n → Follows e (sn p) (sy p)

less_after : (e o p : Ordering) → Follows e o p → e ≢ Greater → o ≡ Less → p ≡ Less
less_after Less Less p f g h = f
less_after Less Equal p f g h = f
less_after Less Greater p f g h = cc
less_after Equal o p f g h = f ∙ h
less_after Greater o p f g h = absurd (g refl)

first_less : (e o p : Ordering) → Follows e o p → o ≡ Greater → p ≢ Greater → e ≡ Less
first_less Less o p f h g = refl
first_less Equal o p f h g = absurd (g (f ∙ h))
first_less Greater Less p f h g = cc
first_less Greater Equal p f h g = absurd (g f)
first_less Greater Greater p f h g = absurd (g f)

-- before all of them, where the new key is and y is no greater
before_too : (e : Ordering) (sy sn : ℕ → Ordering) (n : ℕ) (ps : List ℕ) → AreBelow n ps → AreSides e sy sn n → e ≢ Greater → IsBefore sn ps → IsBefore sy ps
before_too e sy sn n ps b sides g h = before_by sy sn n ps b (λ p low k. less_after e (sn p) (sy p) (sides p low) g k) h

cut_new : (o e : Ordering) (sy sn : ℕ → Ordering) (n : ℕ) (ps : List ℕ) → e ≡ o → AreBelow n ps → AreSides e sy sn n → IsCut sy ps → IsBefore sn ps → Behind o (IsCut sy ps) (IsBefore sy ps)
cut_new Less e sy sn n ps is b sides cy cn = before_too e sy sn n ps b sides (λ g. cc) cn
cut_new Equal e sy sn n ps is b sides cy cn = before_too e sy sn n ps b sides (λ g. cc) cn
cut_new Greater e sy sn n ps is b sides cy cn = cy

cut_past : (o e : Ordering) (sy sn : ℕ → Ordering) (n : ℕ) (ps : List ℕ) → (o ≢ Greater → sy n ≡ Less) → (IsCut sy ps → IsCut sy (put sn n ps)) → Behind o (IsCut sy ps) (IsBefore sy ps) → Behind o (IsCut sy (put sn n ps)) (IsBefore sy (put sn n ps))
cut_past Less e sy sn n ps less more h = before_put sy sn n ps (less (λ g. cc)) h
cut_past Equal e sy sn n ps less more h = before_put sy sn n ps (less (λ g. cc)) h
cut_past Greater e sy sn n ps less more h = more h

cut_put_by : (o : Ordering) (sy sn : ℕ → Ordering) (n p : ℕ) (ps : List ℕ) → sn p ≡ o → AreBelow n (p ∷ ps) → AreSides (sy n) sy sn n → IsCut sy (p ∷ ps) → Behind o (IsCut sn ps) (IsBefore sn ps) → (IsCut sn ps → IsCut sy ps → IsCut sy (put sn n ps)) → IsCut sy (put_by o n p ps (put sn n ps))
cut_put_by Less sy sn n p ps e b sides cy cn more = cut_new (sy n) (sy n) sy sn n (p ∷ ps) refl b sides cy (e, cn)
cut_put_by Equal sy sn n p ps e b sides cy cn more = cy
cut_put_by Greater sy sn n p ps e b sides cy cn more =
    cut_past (sy p) (sy n) sy sn n ps (λ g. first_less (sy n) (sn p) (sy p) (sides p b.0) e g) (more cn) cy

cut_put : (sy sn : ℕ → Ordering) (n : ℕ) (ps : List ℕ) → AreBelow n ps → AreSides (sy n) sy sn n → IsCut sy ps → IsCut sn ps → IsCut sy (put sn n ps)
cut_put sy sn n [] b sides cy cn = behind_all (sy n) tt tt
cut_put sy sn n (p ∷ ps) b sides cy cn =
    cut_put_by (sn p) sy sn n p ps refl b sides cy cn (λ hn hy. cut_put sy sn n ps b.1 sides hy hn)

or_none : (o : Option ℕ) → option_or o None ≡ o
or_none None = refl
or_none (Some x) = refl

-- the new place, where y has its key
abbrev new_for : Ordering → ℕ → Option ℕ
new_for e n = cond (is_eq e) (Some n) None

found_new : (e : Ordering) (sy sn : ℕ → Ordering) (n : ℕ) (ps : List ℕ) → sy n ≡ e → AreBelow n ps → AreSides (sy n) sy sn n → IsBefore sn ps → cond (is_eq e) (Some n) (found sy ps) ≡ option_or (found sy ps) (new_for e n)
found_new Less sy sn n ps is b sides cn = sym (or_none (found sy ps))
found_new Equal sy sn n ps is b sides cn =
    let none = none_before sy ps (before_too (sy n) sy sn n ps b sides (λ g. cc) cn) in rw none refl
found_new Greater sy sn n ps is b sides cn = sym (or_none (found sy ps))

found_same_key : (e o : Ordering) (n p : ℕ) (more : Option ℕ) → Follows e Equal o → cond (is_eq o) (Some p) more ≡ option_or (cond (is_eq o) (Some p) more) (new_for e n)
found_same_key Less o n p more f = sym (or_none _)
found_same_key Equal o n p more f = rw f refl
found_same_key Greater o n p more f = sym (or_none _)

found_past : (b : Bool) (p : ℕ) (more rest new : Option ℕ) → more ≡ option_or rest new → cond b (Some p) more ≡ option_or (cond b (Some p) rest) new
found_past true p more rest new e = refl
found_past false p more rest new e = e

found_put_by : (o : Ordering) (sy sn : ℕ → Ordering) (n p : ℕ) (ps : List ℕ) → sn p ≡ o → AreBelow n (p ∷ ps) → AreSides (sy n) sy sn n → Behind o (IsCut sn ps) (IsBefore sn ps) → (IsCut sn ps → found sy (put sn n ps) ≡ option_or (found sy ps) (new_for (sy n) n)) → found sy (put_by o n p ps (put sn n ps)) ≡ option_or (found sy (p ∷ ps)) (new_for (sy n) n)
found_put_by Less sy sn n p ps e b sides cn more = found_new (sy n) sy sn n (p ∷ ps) refl b sides (e, cn)
found_put_by Equal sy sn n p ps e b sides cn more =
    found_same_key (sy n) (sy p) n p (found sy ps) (subst (λ (o : Ordering). Follows (sy n) o (sy p)) e (sides p b.0))
found_put_by Greater sy sn n p ps e b sides cn more = found_past (is_eq (sy p)) p _ _ _ (more cn)

found_put : (sy sn : ℕ → Ordering) (n : ℕ) (ps : List ℕ) → AreBelow n ps → AreSides (sy n) sy sn n → IsCut sn ps → found sy (put sn n ps) ≡ option_or (found sy ps) (new_for (sy n) n)
found_put sy sn n [] b sides cn = refl
found_put sy sn n (p ∷ ps) b sides cn =
    found_put_by (sn p) sy sn n p ps refl b sides cn (λ hn. found_put sy sn n ps b.1 sides hn)

-- sides that are the same at all places

abbrev pub AreAlike : ℕ → (ℕ → Ordering) → (ℕ → Ordering) → Type 0
AreAlike n s u = (p : ℕ) → p < n → s p ≡ u p

before_same : (n : ℕ) (s u : ℕ → Ordering) (ps : List ℕ) → AreAlike n s u → AreBelow n ps → IsBefore s ps → IsBefore u ps
before_same n s u ps same b h = before_by u s n ps b (λ p low e. sym (same p low) ∙ e) h

pub cut_same : (n : ℕ) (s u : ℕ → Ordering) (ps : List ℕ) → AreAlike n s u → AreBelow n ps → IsCut s ps → IsCut u ps
cut_same n s u [] same b h = tt
cut_same n s u (p ∷ ps) same b h =
    rw (← same p b.0) (behind_map (s p) (cut_same n s u ps same b.1) (before_same n s u ps same b.1) h)

pub found_same : (n : ℕ) (s u : ℕ → Ordering) (ps : List ℕ) → AreAlike n s u → AreBelow n ps → found s ps ≡ found u ps
found_same n s u [] same b = refl
found_same n s u (p ∷ ps) same b = rw (same p b.0, found_same n s u ps same b.1) refl

pub put_same : (n : ℕ) (s u : ℕ → Ordering) (m : ℕ) (ps : List ℕ) → AreAlike n s u → AreBelow n ps → put s m ps ≡ put u m ps
put_same n s u m [] same b = refl
put_same n s u m (p ∷ ps) same b = rw (same p b.0, put_same n s u m ps same b.1) refl

below_more : (n : ℕ) (ps : List ℕ) → AreBelow n ps → AreBelow (n + 1) ps
below_more n [] b = tt
below_more n (p ∷ ps) b = (omega (arith, b.0), below_more n ps b.1)

below_put_by : (o : Ordering) (n p : ℕ) (ps more : List ℕ) → AreBelow n (p ∷ ps) → AreBelow (n + 1) more → AreBelow (n + 1) (put_by o n p ps more)
below_put_by Less n p ps more b c = (omega arith, below_more n (p ∷ ps) b)
below_put_by Equal n p ps more b c = below_more n (p ∷ ps) b
below_put_by Greater n p ps more b c = (omega (arith, b.0), c)

below_put : (s : ℕ → Ordering) (n : ℕ) (ps : List ℕ) → AreBelow n ps → AreBelow (n + 1) (put s n ps)
below_put s n [] b = (omega arith, tt)
below_put s n (p ∷ ps) b = below_put_by (s p) n p ps (put s n ps) b (below_put s n ps b.1)

-- the first place of a list with one element more

first_by : (b last : Bool) (k n : ℕ) → nat_lt k n ≡ b → k ≤ n → cond (nat_lt (cond (k == n) (n + cond last 0 1) k) (n + 1)) (Some (cond (k == n) (n + cond last 0 1) k)) None ≡ option_or (cond b (Some k) None) (cond last (Some n) None)
first_by true last k n e h =
    let apart : (k == n) ≡ false = grind (arith, nat_tests) in
    let low : nat_lt k (n + 1) ≡ true = grind (arith, nat_tests) in
    rw (apart, low) refl
first_by false true k n e h =
    let same : (k == n) ≡ true = grind (arith, nat_tests) in
    let low : nat_lt (n + 0) (n + 1) ≡ true = grind (arith, nat_tests) in
    rw (same, low) (ap Some (omega arith))
first_by false false k n e h =
    let same : (k == n) ≡ true = grind (arith, nat_tests) in
    let high : nat_lt (n + 1) (n + 1) ≡ false = grind (arith, nat_tests) in
    rw (same, high) refl

pub position_push : {X : Type 0} (p : X → Bool) (xs : List X) (x : X) → position p (xs ++ x ∷ []) ≡ option_or (position p xs) (cond (p x) (Some (length xs)) None)
position_push p xs x =
    let low : position_or_len p xs ≤ length xs = prefix_len-le-length (λ y. not (p y)) xs in
    rw (position_or_len_push p xs x, length-append xs (x ∷ [])) (first_by (nat_lt (position_or_len p xs) (length xs)) (p x) (position_or_len p xs) (length xs) refl low)

-- an index

pub index_none : {K : Type 0} (R : K → K → Ordering) (d : K) → IsIndex R d [] []
index_none R d = record { below = tt; cut = λ y. tt; first = λ y. refl }

pub index_push : {K : Type 0} (R : K → K → Ordering) (d : K) (keys : List K) (new : K) (order : List ℕ) → IsTotalOrder R → IsIndex R d keys order → IsIndex R d (keys ++ new ∷ []) (put (key_side R d keys new) (length keys) order)
index_push {K} R d keys new order total h =
    let n = length keys in
    let later = keys ++ new ∷ [] in
    let sn = key_side R d keys new in
    let long : length later ≡ n + 1 = length-append keys (new ∷ []) in
    let kept : (p : ℕ) → p < n → slice_index_or later p d ≡ slice_index_or keys p d = λ p low. get_or_append_left keys (new ∷ []) d p low in
    let last : slice_index_or later n d ≡ new = get_or_at keys new [] d n refl in
    let alike : (y : K) → AreAlike n (key_side R d keys y) (key_side R d later y) = λ y p low. ap (R y) (sym (kept p low)) in
    let there : (y : K) → key_side R d later y n ≡ R y new = λ y. ap (R y) last in
    let sides : (y : K) → AreSides (key_side R d later y n) (key_side R d later y) sn n =
    λ y p low. rw (there y, ap (R y) (kept p low)) (follows total y new (slice_index_or keys p d) (R y new) (sn p) refl refl) in
    record {
      below = subst (λ (m : ℕ). AreBelow m (put sn n order)) (sym long) (below_put sn n order h.below);
      cut = λ y. cut_put (key_side R d later y) sn n order h.below (sides y) (cut_same n _ _ order (alike y) h.below (h.cut y)) (h.cut new);
      first = λ y.
          found_put (key_side R d later y) sn n order h.below (sides y) (h.cut new)
          ∙ ap (λ o. option_or o (new_for (key_side R d later y n) n)) (sym (found_same n _ _ order (alike y) h.below) ∙ h.first y)
          ∙ ap (λ o. option_or (position (λ z. is_eq (R y z)) keys) (new_for o n)) (there y)
          ∙ sym (position_push (λ z. is_eq (R y z)) keys new);
    }

-- by tags first

tag_there : {K : Type 0} (tag : K → ℕ) (d : K) (keys : List K) (p : ℕ) → p < length keys → slice_index (map tag keys) p ≡ tag (slice_index_or keys p d)
tag_there tag d [] p h = absurd (omega arith)
tag_there tag d (x ∷ xs) zero h = refl
tag_there tag d (x ∷ xs) (suc p) h = tag_there tag d xs p (omega arith)

alike_tagged : {K : Type 0} (R : K → K → Ordering) (tag : K → ℕ) (d : K) (keys : List K) (y : K) → AreAlike (length keys) (key_side (tagged_cmp tag R) d keys y) (by_tag (map tag keys) (tag y) (key_side R d keys y))
alike_tagged R tag d keys y p low = ap (λ t. ordering_then (nat_cmp (tag y) t) (R y (slice_index_or keys p d))) (sym (tag_there tag d keys p low))

pub tagged_total : {K : Type 0} (R : K → K → Ordering) (tag : K → ℕ) → IsTotalOrder R → IsTotalOrder (tagged_cmp tag R)
tagged_total R tag total = then_total (on_total tag nat_cmp_total) total

-- the tree of no key
pub tagged_none : {K : Type 0} (R : K → K → Ordering) (tag : K → ℕ) (d : K) (tree : Ordered) → tree.places ≡ [] → tree.tags ≡ [] → IsTagged R tag d [] tree
tagged_none R tag d tree e f = record { index = rw e (index_none (tagged_cmp tag R) d); tags = f }

-- any key may be sought in it
pub tagged_cut : {K : Type 0} (R : K → K → Ordering) (tag : K → ℕ) (d : K) (keys : List K) (tree : Ordered) → IsTagged R tag d keys tree → (y : K) → IsCut (by_tag tree.tags (tag y) (key_side R d keys y)) tree.places
tagged_cut R tag d keys tree h y =
    rw h.tags (cut_same (length keys) _ _ tree.places (alike_tagged R tag d keys y) h.index.below (h.index.cut y))

tied_by : (o p : Ordering) → (p ≡ Equal → o ≡ Equal) → is_eq (ordering_then o p) ≡ is_eq p
tied_by Less Less h = refl
tied_by Less Equal h = ap is_eq (h refl)
tied_by Less Greater h = refl
tied_by Equal p h = refl
tied_by Greater Less h = refl
tied_by Greater Equal h = ap is_eq (h refl)
tied_by Greater Greater h = refl

tags_tie : (m n : ℕ) → m ≡ n → nat_cmp m n ≡ Equal
tags_tie m n e = ap (nat_cmp m) (sym e) ∙ tied_itself nat_cmp_total m

-- what is found for a key is its first place
pub tagged_find : {K : Type 0} (R : K → K → Ordering) (tag : K → ℕ) (d : K) (keys : List K) (tree : Ordered) → IsTagOf R tag → IsTagged R tag d keys tree → (y : K) → found (by_tag tree.tags (tag y) (key_side R d keys y)) tree.places ≡ position (λ z. is_eq (R y z)) keys
tagged_find {K} R tag d keys tree of h y =
    let same : (z : K) → is_eq (tagged_cmp tag R y z) ≡ is_eq (R y z) = λ z. tied_by (nat_cmp (tag y) (tag z)) (R y z) (λ e. tags_tie (tag y) (tag z) (of y z e)) in
    rw h.tags (sym (found_same (length keys) _ _ tree.places (alike_tagged R tag d keys y) h.index.below))
    ∙ h.index.first y ∙ ap (λ (q : K → Bool). position q keys) (λ i z. same z i)

-- the tree after one more key was added
pub tagged_push : {K : Type 0} (R : K → K → Ordering) (tag : K → ℕ) (d : K) (keys : List K) (tree later : Ordered) (new : K) → IsTotalOrder R → IsTagged R tag d keys tree → later.places ≡ put (by_tag tree.tags (tag new) (key_side R d keys new)) (length tree.tags) tree.places → later.tags ≡ tree.tags ++ tag new ∷ [] → IsTagged R tag d (keys ++ new ∷ []) later
tagged_push R tag d keys tree later new total h e f =
    let long : length tree.tags ≡ length keys = ap length h.tags ∙ length-map keys tag in
    let placed : later.places ≡ put (key_side (tagged_cmp tag R) d keys new) (length keys) tree.places =
    e ∙ rw (long, h.tags) (sym (put_same (length keys) _ _ (length keys) tree.places (alike_tagged R tag d keys new) h.index.below)) in
    record {
      index = rw placed (index_push (tagged_cmp tag R) d keys new tree.places (tagged_total R tag total) h.index);
      tags = f ∙ ap (λ ts. ts ++ tag new ∷ []) h.tags ∙ sym (map-append tag keys (new ∷ []));
    }

-- the same tree with other room
pub tagged_kept : {K : Type 0} (R : K → K → Ordering) (tag : K → ℕ) (d : K) (keys : List K) (tree later : Ordered) → IsTagged R tag d keys tree → later.places ≡ tree.places → later.tags ≡ tree.tags → IsTagged R tag d keys later
tagged_kept R tag d keys tree later h e f = record { index = rw e h.index; tags = f ∙ h.tags }

-- numbers that their order doesn't tell apart are equal
pub same_number : (m n : ℕ) → nat_cmp m n ≡ Equal → m ≡ n
same_number m n e = let P : Ordering → Type 0 = λ o. MatchOrdering o (m < n) (m ≡ n) (n < m) in subst P e (ranked m n (nat_cmp m n) refl)
