-- The events of a kind, by their numbers and in a tree.
use Rattle.std.proofs.Common.{◌≡◌, ℕ, zero, suc, ◌+◌, ◌-◌, ◌<◌, ◌≤◌, Bool, true, false, cond, List, [], ◌∷◌, ◌++◌, length, map, Option, Some, None, refl, sym, ap, ◌∙◌, arith}
use Rattle.std.specs.Prelude.{position, find, filter_map, slice_index, slice_index_or, slice_get, nat_lt}
use Rattle.std.specs.List.{position_or_len}
use Rattle.std.specs.Cmp.{IsTotalOrder}
use Rattle.std.specs.Ordering.{is_eq}
use Rattle.std.proofs.lemmas.Bool.Decides.{nat_tests}
use Rattle.std.proofs.lemmas.List.{append-nil, length-map, map-append}
use Rattle.std.proofs.lemmas.List.Elements.{filter_map-append}
use Rattle.std.proofs.lemmas.List.Folds.{find_at}
use Rattle.std.proofs.lemmas.List.Quantifiers.{position-Some}
use Rattle.std.proofs.lemmas.Option.{same_Some, slice_get_read, slice_get_past}
use Rattle.epic_tree.specs.Index.{IsTagOf, key_side}
use Rattle.epic_tree.specs.Sides.{Ordered, found, by_tag, put}
use Rattle.epic_tree.proofs.Indexing.{tagged_none, tagged_find, tagged_kept, tagged_push}
use Rattle.epic_ledger.specs.History.{Emission}
use Rattle.epic_ledger.specs.Indexes.{Kind, keys_of, IsIndexed, IsPlace, IsLawfulPlace}
use Rattle.epic_ledger.specs.Kinds.{numbers_from}
use Rattle.epic_ledger.specs.Lawful.{IsLawful}
use Rattle.epic_ledger.specs.declared.event.Event.{Event}
use Rattle.epic_ledger.proofs.Logging.{position-map}
use Rattle.epic_ledger.proofs.Numbered.{kind_at, length-numbers, length-numbers-le, numbers-append}
use Rattle.epic_ledger.proofs.RankLaws.{position_within}

-- what stands at a place

key_there : {X K : Type 0} (f : X → K) (d : K) (xs : List X) (p : ℕ) (x : X) → p < length xs → ((z : X) → slice_index_or xs p z ≡ x) → slice_index_or (map f xs) p d ≡ f x
key_there f d [] p x h there = absurd (omega arith)
key_there f d (y ∷ ys) zero x h there = ap f (there y)
key_there f d (y ∷ ys) (suc p) x h there = key_there f d ys p x (omega arith) there

pub record IsThere {X K : Type 0} (k : Kind X K) (events : List Event) (m p : ℕ) (e : Event) : Type 0 where
  pub within : m < length events
  pub item : X
  pub is : k.says (slice_index_or events m e) ≡ Some item
  pub key : slice_index_or (keys_of k events) p k.none ≡ k.key item
  pub there : (z : X) → slice_index_or (filter_map k.says events) p z ≡ item

pub stands_there : {X K : Type 0} (k : Kind X K) (events : List Event) (at : List ℕ) (p : ℕ) (e : Event) → p < length at → at ≡ numbers_from k.says 0 events → IsThere k events (slice_index at p) p e
stands_there k events at p e h numbers =
    let low : p < length (numbers_from k.says 0 events) = omega (arith, ap length numbers, h) in
    let w = kind_at k.says 0 events p e low in
    let m = slice_index (numbers_from k.says 0 events) p in
    let same : m - 0 ≡ m = omega arith in
    rw numbers (record {
      within = omega (arith, w.within);
      item = w.item;
      is = sym (ap (λ n. k.says (slice_index_or events n e)) same) ∙ w.is;
      key = key_there k.key k.none (filter_map k.says events) p w.item (omega (arith, length-numbers k.says 0 events)) w.there;
      there = w.there;
    })

-- the first of a key

pub first_place : {X K : Type 0} (k : Kind X K) (events : List Event) (at : List ℕ) (tree : Ordered) (y : K) (test : X → Bool) (o : Option ℕ) → IsTagOf k.cmp k.tag → ((x : X) → is_eq (k.cmp y (k.key x)) ≡ test x) → IsIndexed k events at tree → o ≡ found (by_tag tree.tags (k.tag y) (key_side k.cmp k.none (keys_of k events) y)) tree.places → o ≡ position test (filter_map k.says events)
first_place {X} k events at tree y test o tagged ties h e =
    e ∙ tagged_find k.cmp k.tag k.none _ tree tagged h.keyed y
    ∙ position-map (λ z. is_eq (k.cmp y z)) k.key (filter_map k.says events)
    ∙ ap (λ (q : X → Bool). position q (filter_map k.says events)) (λ i x. ties x i)

pub first_within : {X K : Type 0} (k : Kind X K) (events : List Event) (at : List ℕ) (test : X → Bool) (i : ℕ) → at ≡ numbers_from k.says 0 events → Some i ≡ position test (filter_map k.says events) → i < length at
first_within k events at test i numbers e =
    omega (arith, position_within (filter_map k.says events) test (Some i) e, ap length numbers, length-numbers k.says 0 events)

some_by : (b : Bool) (n p : ℕ) → Some p ≡ cond b (Some n) None → p ≡ n
some_by true n p e = same_Some p n e
some_by false n p e = absurd (cc)

none_by : (b : Bool) (n : ℕ) → None ≡ cond b (Some n) None → b ≡ false
none_by true n e = absurd (cc)
none_by false n e = refl

-- the first that passes is the one at the first place
pub first_item : {X : Type 0} (test : X → Bool) (xs : List X) (p : ℕ) (x : X) → Some p ≡ position test xs → ((z : X) → slice_index_or xs p z ≡ x) → find test xs ≡ Some x
first_item test xs p x e there =
    let low = (position-Some test xs p x (sym e)).0 in
    find_at test xs
    ∙ ap (slice_get xs) (sym (some_by (nat_lt (position_or_len test xs) (length xs)) (position_or_len test xs) p e))
    ∙ slice_get_read xs (length xs) p x refl low (sym (there x))

pub first_none : {X : Type 0} (test : X → Bool) (xs : List X) → None ≡ position test xs → find test xs ≡ None
first_none test xs e =
    let past = none_by (nat_lt (position_or_len test xs) (length xs)) (position_or_len test xs) e in
    let high : length xs ≤ position_or_len test xs = grind (arith, nat_tests, past) in
    find_at test xs ∙ slice_get_past xs (position_or_len test xs) high

-- what the event at the place of the first says is the first that passes
pub first_says : {X K : Type 0} (k : Kind X K) (events : List Event) (at : List ℕ) (test : X → Bool) (p : ℕ) (e : Event) → at ≡ numbers_from k.says 0 events → p < length at → Some p ≡ position test (filter_map k.says events) → k.says (slice_index_or events (slice_index at p) e) ≡ find test (filter_map k.says events)
first_says k events at test p e numbers low first =
    let t = stands_there k events at p e low numbers in
    t.is ∙ sym (first_item test (filter_map k.says events) p t.item first t.there)

-- places of the tree are places among the events of the kind
pub index_place : {X K : Type 0} (k : Kind X K) (events : List Event) (at : List ℕ) (tree : Ordered) (p : ℕ) → IsIndexed k events at tree → p < length tree.tags → IsPlace k events at p
index_place k events at tree p h low = record {
  within = omega (arith, ap length h.numbers, length-numbers k.says 0 events, length-map (filter_map k.says events) k.key, ap length h.keyed.tags, length-map (keys_of k events) k.tag);
  numbers = h.numbers;
}

pub lawful_place : {X K : Type 0} (k : Kind X K) (events : List Event) (es : List Emission) (at : List ℕ) (tree : Ordered) (p : ℕ) → IsLawful (record { events = events; emissions = es }) → IsIndexed k events at tree → p < length tree.tags → IsLawfulPlace k events es at p
lawful_place k events es at tree p lawful h low = record { place = index_place k events at tree p h low; lawful = lawful }

-- one event more

pub index_other : {X K : Type 0} (k : Kind X K) (events : List Event) (at : List ℕ) (tree : Ordered) (e : Event) → IsIndexed k events at tree → k.says e ≡ None → IsIndexed k (events ++ e ∷ []) at tree
index_other k events at tree e h other =
    let same : filter_map k.says (events ++ e ∷ []) ≡ filter_map k.says events ++ [] = filter_map-append k.says events (e ∷ []) ∙ rw other refl in
    let whole = same ∙ append-nil (filter_map k.says events) in
    record {
      numbers = h.numbers ∙ sym (numbers-append k.says 0 events e ∙ rw other (append-nil (numbers_from k.says 0 events)));
      keyed = rw whole h.keyed;
    }

pub index_more : {X K : Type 0} (k : Kind X K) (events : List Event) (at : List ℕ) (tree later : Ordered) (e : Event) (x : X) → IsTotalOrder k.cmp → IsIndexed k events at tree → k.says e ≡ Some x → later.places ≡ put (by_tag tree.tags (k.tag (k.key x)) (key_side k.cmp k.none (keys_of k events) (k.key x))) (length tree.tags) tree.places → later.tags ≡ tree.tags ++ k.tag (k.key x) ∷ [] → IsIndexed k (events ++ e ∷ []) (at ++ length events ∷ []) later
index_more k events at tree later e x total h is placed tags =
    let whole : filter_map k.says (events ++ e ∷ []) ≡ filter_map k.says events ++ x ∷ [] = filter_map-append k.says events (e ∷ []) ∙ rw is refl in
    let keys = ap (map k.key) whole ∙ map-append k.key (filter_map k.says events) (x ∷ []) in
    let end : 0 + length events ≡ length events = omega arith in
    record {
      numbers = ap (λ ns. ns ++ length events ∷ []) h.numbers ∙ sym (numbers-append k.says 0 events e ∙ rw (is, end) refl);
      keyed = rw keys (tagged_push k.cmp k.tag k.none _ tree later (k.key x) total h.keyed placed tags);
    }

-- where each event says the same

items_same : {X : Type 0} (f g : Event → Option X) (events : List Event) → ((n : ℕ) (e : Event) → slice_get events n ≡ Some e → g e ≡ f e) → filter_map g events ≡ filter_map f events
items_same f g [] h = refl
items_same f g (e ∷ events) h = rw (h zero e refl, items_same f g events (λ n x at. h (suc n) x at)) refl

numbers_same : {X : Type 0} (f g : Event → Option X) (n : ℕ) (events : List Event) → ((k : ℕ) (e : Event) → slice_get events k ≡ Some e → g e ≡ f e) → numbers_from g n events ≡ numbers_from f n events
numbers_same f g n [] h = refl
numbers_same f g n (e ∷ events) h = rw (h zero e refl, numbers_same f g (n + 1) events (λ k x at. h (suc k) x at)) refl

pub index_same : {X K : Type 0} (k : Kind X K) (g : Event → Option X) (events : List Event) (at : List ℕ) (tree : Ordered) → ((n : ℕ) (e : Event) → slice_get events n ≡ Some e → g e ≡ k.says e) → IsIndexed k events at tree → IsIndexed (record { says = g; key = k.key; cmp = k.cmp; tag = k.tag; none = k.none }) events at tree
index_same k g events at tree same h = record {
  numbers = h.numbers ∙ sym (numbers_same k.says g 0 events same);
  keyed = rw (items_same k.says g events same) h.keyed;
}

pub index_none : {X K : Type 0} (k : Kind X K) (tree : Ordered) → tree.places ≡ [] → tree.tags ≡ [] → IsIndexed k [] [] tree
index_none k tree e f = record { numbers = refl; keyed = tagged_none k.cmp k.tag k.none tree e f }

pub index_kept : {X K : Type 0} (k : Kind X K) (events : List Event) (at : List ℕ) (tree later : Ordered) → IsIndexed k events at tree → later.places ≡ tree.places → later.tags ≡ tree.tags → IsIndexed k events at later
index_kept k events at tree later h e f = record { numbers = h.numbers; keyed = tagged_kept k.cmp k.tag k.none _ tree later h.keyed e f }

-- there are no more of the kind than events
pub index_few : {X K : Type 0} (k : Kind X K) (events : List Event) (at : List ℕ) (tree : Ordered) → IsIndexed k events at tree → (length at ≤ length events) × (length tree.tags ≡ length at)
index_few k events at tree h = (
  omega (arith, ap length h.numbers, length-numbers-le k.says 0 events),
  omega (arith, ap length h.numbers, length-numbers k.says 0 events, length-map (filter_map k.says events) k.key, ap length h.keyed.tags, length-map (keys_of k events) k.tag),
)
