-- The one packet of a source and timestamp is found by its key.
use Rattle.std.proofs.Common.{◌≡◌, ℕ, ◌+◌, ◌++◌, Bool, true, false, ◌||◌, map, List, [], ◌∷◌, Option, Some, None, find, refl, sym, ap, ◌∙◌, append-nil, append_assoc}
use Rattle.std.specs.Prelude.{option_and_then, is_some, position, slice_get, filter_map, ◌&&◌, ◌==◌, if◌then◌else◌}
use Rattle.std.specs.List.{list_any, cons_option}
use Rattle.std.specs.Option.{option_map_or}
use Rattle.std.proofs.lemmas.Bool.{and_parts}
use Rattle.std.proofs.lemmas.Bool.Decides.{Decides-eqb}
use Rattle.std.proofs.lemmas.List.{map-append}
use Rattle.std.proofs.lemmas.List.Folds.{list_any-append}
use Rattle.epic_num.specs.Chains.{Issue}
use Rattle.epic_num.specs.Same.{same_as, same_host}
use Rattle.epic_layout.specs.Contents.{Contents}
use Rattle.epic_topo.specs.Network.{Network}
use Rattle.epic_judging.specs.Given.{the_only, only_send}
use Rattle.epic_ledger.specs.Facts.{Sent, as_send, facts_of}
use Rattle.epic_ledger.specs.History.{History, Emission}
use Rattle.epic_ledger.specs.Lawful.{Fits}
use Rattle.epic_ledger.specs.Queries.{is_send_of}
use Rattle.epic_ledger.specs.declared.event.Event.{Event}
use Rattle.epic_index.specs.Events.{send_at}
use Rattle.epic_index.specs.Holding.{Held}
use Rattle.epic_index.specs.Indexes.{history_of, IsIndexOf}
use Rattle.epic_index.specs.Numbered.{Numbered, AreRows, row, rows_from, first_of}
use Rattle.epic_index.specs.Origins.{origin_key, origin_eq, origin_keys, origin_rows, repeats}
use Rattle.epic_index.specs.Stepping.{at_step}
use Rattle.epic_index.specs.declared.origins.OriginKey.{OriginKey}
use Rattle.epic_index.proofs.Answering.{index_sends}
use Rattle.epic_index.proofs.ByNumber.{fact_at, fact_found, map_back, some_place}
use Rattle.epic_index.proofs.Happening.{send_stepped}
use Rattle.epic_index.proofs.NameKeys.{eq_flip, never, or_none}
use Rattle.epic_index.proofs.Sending.{send_stays}
use Rattle.epic_index.proofs.Steps.{send_at_step}

-- ---- keys

origin_same : (k l : OriginKey) → origin_eq k l ≡ true → k ≡ l
origin_same k l e =
    let parts = and_parts (k.ts == l.ts) (k.asn == l.asn && k.host == l.host) e in
    let more = and_parts (k.asn == l.asn) (k.host == l.host) parts.1 in
    let ts : k.ts ≡ l.ts = (Decides-eqb k.ts l.ts).0 parts.0 in
    let asn : k.asn ≡ l.asn = (Decides-eqb k.asn l.asn).0 more.0 in
    let host : k.host ≡ l.host = (Decides-eqb k.host l.host).0 more.1 in
    λ i. record { ts = ts i; asn = asn i; host = host i }

in_order : (t a h : Bool) → (t && (a && h)) ≡ (a && h && t)
in_order t false h = never t
in_order t true false = never t
in_order true true true = refl
in_order false true true = refl

origin_matches : (p : Contents) (s : Sent) → origin_eq (origin_key p) (origin_key s.packet) ≡ is_send_of p.src p.ts s
unfolding origin_key is_send_of same_host same_as
origin_matches p s =
    (λ k. eq_flip p.ts s.packet.ts k && (eq_flip p.src.asn.0 s.packet.src.asn.0 k && eq_flip p.src.host s.packet.src.host k))
    ∙ in_order (s.packet.ts == p.ts) (s.packet.src.asn.0 == p.src.asn.0) (s.packet.src.host == p.src.host)

-- ---- keys that come again

pub repeats-append : (before keys more : List OriginKey) → repeats before (keys ++ more) ≡ repeats before keys ++ repeats (before ++ keys) more
unfolding repeats
repeats-append before [] more = ap (λ (l : List OriginKey). repeats l more) (sym (append-nil before))
repeats-append before (k ∷ keys) more =
    let head : List OriginKey = if list_any (origin_eq k) before then k ∷ [] else [] in
    ap (λ (l : List OriginKey). head ++ l)
    (repeats-append (before ++ k ∷ []) keys more
    ∙ ap (λ (l : List OriginKey). repeats (before ++ k ∷ []) keys ++ repeats l more) (append_assoc before (k ∷ []) keys))
    ∙ sym (append_assoc head (repeats (before ++ k ∷ []) keys) (repeats (before ++ k ∷ keys) more))

came_before : (before : List OriginKey) (k : OriginKey) (b c : Bool) → b ≡ is_some (position (origin_eq k) before) → b ≡ c
    → repeats before (k ∷ []) ≡ (if c then k ∷ [] else []) ++ []
unfolding repeats
came_before before k b c e is = ap (λ (d : Bool). (if d then k ∷ [] else []) ++ []) (sym (some_place (origin_eq k) before) ∙ sym e ∙ is)

pub again_here : (before old new : List OriginKey) (k : OriginKey) (b : Bool) → b ≡ is_some (position (origin_eq k) before) → b ≡ true → new ≡ old ++ k ∷ []
    → new ≡ old ++ repeats before (k ∷ [])
again_here before old new k b e is added = added ∙ ap (λ (l : List OriginKey). old ++ l) (sym (came_before before k b true e is))

pub again_not : (before old : List OriginKey) (k : OriginKey) (b : Bool) → b ≡ is_some (position (origin_eq k) before) → b ≡ false → old ≡ old ++ repeats before (k ∷ [])
again_not before old k b e is = sym (ap (λ (l : List OriginKey). old ++ l) (came_before before k b false e is) ∙ append-nil old)

-- two elements pass
abbrev two : {X : Type 0} → (X → Bool) → List X → Bool
two p [] = false
two p (x ∷ xs) = if p x then list_any p xs else two p xs

alone : (p : OriginKey → Bool) (k : OriginKey) (c : Bool) → list_any p (if c then k ∷ [] else []) ≡ (if c then (p k || false) else false)
alone p k true = refl
alone p k false = refl

either_way : (b : Bool) → false ≡ (if b then false else false)
either_way true = refl
either_way false = refl

one_more : (here c b any second rest : Bool) → (here ≡ true → b ≡ c) → rest ≡ (if b || (here || false) then any else second)
    → ((if c then (here || false) else false) || rest) ≡ (if b then (here || any) else (if here then any else second))
one_more true true true any second rest same e = refl
one_more true false false any second rest same e = e
one_more true true false any second rest same e = (let clash = same refl in absurd (cc))
one_more true false true any second rest same e = (let clash = same refl in absurd (cc))
one_more false true true any second rest same e = e
one_more false true false any second rest same e = e
one_more false false true any second rest same e = e
one_more false false false any second rest same e = e

-- a key comes again where two have it, or where one came before
repeated : (q : OriginKey) (before keys : List OriginKey)
    → list_any (origin_eq q) (repeats before keys) ≡ (if list_any (origin_eq q) before then list_any (origin_eq q) keys else two (origin_eq q) keys)
unfolding repeats
repeated q before [] = either_way (list_any (origin_eq q) before)
repeated q before (k ∷ keys) =
    let p : OriginKey → Bool = origin_eq q in
    let c : Bool = list_any (origin_eq k) before in
    let rest : List OriginKey = repeats (before ++ k ∷ []) keys in
    list_any-append p (if c then k ∷ [] else []) rest
    ∙ ap (λ (b : Bool). b || list_any p rest) (alone p k c)
    ∙ one_more (p k) c (list_any p before) (list_any p keys) (two p keys) (list_any p rest)
    (λ e. ap (λ (l : OriginKey). list_any (origin_eq l) before) (origin_same q k e))
    (repeated q (before ++ k ∷ []) keys ∙ ap (λ (b : Bool). if b then list_any p keys else two p keys) (list_any-append p before (k ∷ [])))

-- ---- the only one

only_found : {X : Type 0} (test : X → Bool) (xs : List X) → the_only test xs ≡ (if two test xs then None else find test xs)
unfolding the_only
only_found test [] = refl
only_found {X} test (x ∷ xs) = by (test x) (only_found test xs)
  where
    by : (b : Bool) → the_only test xs ≡ (if two test xs then None else find test xs)
        → (if b then (if list_any test xs then None else Some x) else the_only test xs) ≡ (if (if b then list_any test xs else two test xs) then None else (if b then Some x else find test xs))
    by true more = refl
    by false more = more

any_map : {X Y : Type 0} (p : Y → Bool) (g : X → Y) (xs : List X) → list_any p (map g xs) ≡ list_any (λ x. p (g x)) xs
any_map p g [] = refl
any_map p g (x ∷ xs) = ap (λ (b : Bool). p (g x) || b) (any_map p g xs)

two_map : {X Y : Type 0} (p : Y → Bool) (g : X → Y) (xs : List X) → two p (map g xs) ≡ two (λ x. p (g x)) xs
two_map p g [] = refl
two_map p g (x ∷ xs) = λ i. if p (g x) then any_map p g xs i else two_map p g xs i

keys_from : {K X : Type 0} (g : Event → Option X) (key : X → K) (n : ℕ) (es : List Event)
    → map (λ (r : K × ℕ). r.0) (rows_from (λ e. option_map_or (λ x. key x ∷ []) (g e) []) n es) ≡ map key (filter_map g es)
keys_from g key n [] = refl
keys_from {K} {X} g key n (e ∷ es) =
    let f : Event → List K = λ x. option_map_or (λ y. key y ∷ []) (g x) [] in
    map-append (λ (r : K × ℕ). r.0) (map (row n) (f e)) (rows_from f (n + 1) es)
    ∙ ap (λ (l : List K). l ++ map (λ (r : K × ℕ). r.0) (rows_from f (n + 1) es)) (map_back n (f e))
    ∙ by (g e) (keys_from g key (n + 1) es)
  where
    by : (o : Option X) → map (λ (r : K × ℕ). r.0) (rows_from (λ x. option_map_or (λ y. key y ∷ []) (g x) []) (n + 1) es) ≡ map key (filter_map g es)
        → option_map_or (λ y. key y ∷ []) o [] ++ map (λ (r : K × ℕ). r.0) (rows_from (λ x. option_map_or (λ y. key y ∷ []) (g x) []) (n + 1) es) ≡ map key (cons_option o (filter_map g es))
    by None more = more
    by (Some y) more = ap (λ (l : List K). key y ∷ l) more

again_is : (h : History) (rows : Numbered OriginKey) (p : Contents) → AreRows (origin_rows h.emissions) h.events rows
    → list_any (origin_eq (origin_key p)) (repeats [] rows.keys) ≡ two (is_send_of p.src p.ts) (filter_map (as_send h.emissions) h.events)
unfolding origin_rows
again_is h rows p are =
    let q : OriginKey = origin_key p in
    let sends : List Sent = filter_map (as_send h.emissions) h.events in
    repeated q [] rows.keys
    ∙ ap (two (origin_eq q)) (are.keys ∙ keys_from (as_send h.emissions) (λ s. origin_key s.packet) 0 h.events)
    ∙ two_map (origin_eq q) (λ (s : Sent). origin_key s.packet) sends
    ∙ ap (λ (test : Sent → Bool). two test sends) (λ i s. origin_matches p s i)

first_found : (h : History) (rows : Numbered OriginKey) (p : Contents) (key : OriginKey) → AreRows (origin_rows h.emissions) h.events rows → key ≡ origin_key p
    → option_and_then (send_at h) (first_of origin_eq key rows) ≡ find (is_send_of p.src p.ts) (filter_map (as_send h.emissions) h.events)
unfolding origin_rows send_at
first_found h rows p key are k =
    ap (option_and_then (λ n. option_and_then (as_send h.emissions) (slice_get h.events n)))
    (ap (λ (c : OriginKey). first_of origin_eq c rows) k
    ∙ fact_found (as_send h.emissions) origin_keys (is_send_of p.src p.ts) (origin_eq (origin_key p)) h.events rows are (λ s. or_none _ ∙ origin_matches p s))
    ∙ fact_at (as_send h.emissions) (is_send_of p.src p.ts) h.events

only_is : (h : History) (rows : Numbered OriginKey) (again : List OriginKey) (p : Contents) (key : OriginKey) → AreRows (origin_rows h.emissions) h.events rows → again ≡ repeats [] rows.keys
    → key ≡ origin_key p
    → (if is_some (position (origin_eq key) again) then None else option_and_then (send_at h) (first_of origin_eq key rows)) ≡ only_send (facts_of h).sends p
unfolding only_send facts_of
only_is h rows again p key are came k =
    let sends : List Sent = filter_map (as_send h.emissions) h.events in
    (λ i. if some_place (origin_eq key) again i then None else first_found h rows p key are k i)
    ∙ ap (λ (b : Bool). if b then None else find (is_send_of p.src p.ts) sends)
    (ap (λ (c : OriginKey). list_any (origin_eq c) again) k ∙ ap (list_any (origin_eq (origin_key p))) came ∙ again_is h rows p are)
    ∙ sym (only_found (is_send_of p.src p.ts) sends)

module _ (t : Network) (h : History) (steps : List ℕ) (held : Held) (p : Contents) (key : OriginKey) (b : Bool) (i : IsIndexOf t h steps held) (k : key ≡ origin_key p) (is : b ≡ is_some (position (origin_eq key) held.again)) where
  whole : (if b then None else option_and_then (send_at h) (first_of origin_eq key held.origins)) ≡ only_send (facts_of (history_of h steps)).sends p
  whole =
      ap (λ (c : Bool). if c then None else option_and_then (send_at h) (first_of origin_eq key held.origins)) is
      ∙ only_is h held.origins held.again p key i.held_is.origins i.held_is.again k
      ∙ ap (λ (sends : List Sent). only_send sends p) (sym (index_sends h steps i.apart))

  pub index_many : b ≡ true → None ≡ only_send (facts_of (history_of h steps)).sends p
  index_many e = sym (ap (λ (c : Bool). if c then None else option_and_then (send_at h) (first_of origin_eq key held.origins)) e) ∙ whole

  pub index_only : (o : Option ℕ) → b ≡ false → o ≡ first_of origin_eq key held.origins
      → option_and_then (send_at (history_of h steps)) o ≡ only_send (facts_of (history_of h steps)).sends p
  index_only o e first =
      ap (λ (f : ℕ → Option Sent). option_and_then f o) (λ j n. send_stepped h steps n i.apart j)
      ∙ ap (option_and_then (send_at h)) first
      ∙ sym (ap (λ (c : Bool). if c then None else option_and_then (send_at h) (first_of origin_eq key held.origins)) e)
      ∙ whole

-- ---- growth

pub origin_at_step : (es : List Emission) (s : ℕ) (e : Event) → origin_rows es (at_step s e) ≡ origin_rows es e
unfolding origin_rows
origin_at_step es s e = ap (λ (o : Option Sent). option_map_or origin_keys o []) (send_at_step es s e)

pub origin_among : (es more : List Emission) (before : List Issue) (e : Event) → Fits es before e → origin_rows es e ≡ origin_rows (es ++ more) e
unfolding origin_rows
origin_among es more before e h = ap (λ (o : Option Sent). option_map_or origin_keys o []) (send_stays es more before e h)
