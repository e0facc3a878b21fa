-- The lists that a path is taken apart into.
use Rattle.std.proofs.Common.{◌≡◌, ℕ, ◌+◌, ◌<◌, ◌≤◌, true, false, List, [], ◌∷◌, ◌++◌, length, get_or, take, drop, map, refl, ap, sym, ◌∙◌, subst, arith, length-append, ◌-◌}
use Rattle.std.specs.Prelude.{IsTrue, reverse, slice_set}
use Rattle.std.specs.List.{All}
use Rattle.std.proofs.lemmas.Grind.{flat_map-append}
use Rattle.std.proofs.lemmas.List.{append_assoc, append-nil, get_or-reverse, length-map, length-reverse, map-append, take_more, take_more_set, take-append-drop}
use Rattle.std.proofs.lemmas.List.Elements.{All-from_get_or, All-map}
use Rattle.epic_num.specs.declared.segment.Leg.{Leg}
use Rattle.epic_num.specs.declared.segment.SegHop.{SegHop}
use Rattle.epic_num.specs.declared.segment.SegKind.TheVariants.{Core}
use Rattle.epic_num.specs.Paths.{is_lawful, path_hops, travelled}
use Rattle.epic_num.proofs.PathLaws.{IsPath, lawful, well_formed}
use Rattle.epic_layout.specs.Contents.{AreSegments}
use Rattle.epic_layout.specs.PathRoutes.{head_of, hop_head, route_of}
use Rattle.epic_layout.specs.declared.head.HopHead.{HopHead}
use Rattle.epic_layout.specs.declared.head.SegmentHead.{SegmentHead}
use Rattle.epic_layout.specs.Route.{Route, hops_of}
use Rattle.epic_ends.proofs.Legs.{length_hops, length_count, length_travelled}

hops-append : (xs ys : List Leg) → path_hops (xs ++ ys) ≡ path_hops xs ++ path_hops ys
unfolding path_hops
hops-append xs ys = flat_map-append travelled xs ys

hops-alone : (leg : Leg) → path_hops (leg ∷ []) ≡ travelled leg
unfolding path_hops
hops-alone leg = append-nil (travelled leg)

-- the hops of one leg more
hops_on : (legs : List Leg) (i : ℕ) (d : Leg) → i < length legs → path_hops (take (i + 1) legs) ≡ path_hops (take i legs) ++ travelled (get_or legs i d)
hops_on legs i d h =
    ap path_hops (take_more legs i d h)
    ∙ (hops-append (take i legs) (get_or legs i d ∷ [])
    ∙ ap (λ hs. path_hops (take i legs) ++ hs) (hops-alone (get_or legs i d)))

pub hops_more : (legs : List Leg) (i : ℕ) (x : Leg) (before now : List SegHop) → i < length legs → x ≡ get_or legs i x
    → before ≡ path_hops (take i legs) → now ≡ before ++ travelled x → now ≡ path_hops (take (i + 1) legs)
hops_more legs i x before now h is so_far put =
    put ∙ ((λ k. so_far k ++ travelled (is k)) ∙ sym (hops_on legs i x h))

-- there is room for them
room_at : (legs : List Leg) (i : ℕ) (d : Leg) → i < length legs → IsTrue (is_lawful legs)
    → length (path_hops (take i legs)) + length (get_or legs i d).segment.hops.items ≤ 32
room_at legs i d h is =
    let path = lawful legs is in
    let few = path.hops in
    let all : length (path_hops legs) ≡ length (path_hops (take (i + 1) legs)) + length (path_hops (drop (i + 1) legs)) =
    ap (λ ls. length (path_hops ls)) (sym (take-append-drop (i + 1) legs))
    ∙ (ap length (hops-append (take (i + 1) legs) (drop (i + 1) legs)) ∙ length-append (path_hops (take (i + 1) legs)) (path_hops (drop (i + 1) legs))) in
    let front : length (path_hops (take (i + 1) legs)) ≡ length (path_hops (take i legs)) + length (travelled (get_or legs i d)) =
    ap length (hops_on legs i d h) ∙ length-append (path_hops (take i legs)) (travelled (get_or legs i d)) in
    omega (arith, few, all, front, length_travelled (get_or legs i d), length_count legs)

pub room : (legs path : List Leg) (i : ℕ) (x : Leg) (before : List SegHop) → i < length legs → x ≡ get_or legs i x → before ≡ path_hops (take i legs)
    → legs ≡ path → IsTrue (is_lawful path) → length before + length x.segment.hops.items ≤ 32
room legs path i x before h is so_far same path_is =
    let at = room_at legs i x h (subst (λ ls. IsTrue (is_lawful ls)) (sym same) path_is) in
    let count = ap length so_far in
    let more = ap (λ (l : Leg). length l.segment.hops.items) is in
    omega (arith, at, count, more)

-- hops that are taken over from the last one on
pub back_more : (start before now hops : List SegHop) (i : ℕ) (d x : SegHop) → i < length hops → before ≡ start ++ take i (reverse hops)
    → x ≡ get_or hops (length hops - 1 - i) d → now ≡ before ++ x ∷ [] → now ≡ start ++ take (i + 1) (reverse hops)
back_more start before now hops i d x h so_far is put =
    let here : take (i + 1) (reverse hops) ≡ take i (reverse hops) ++ x ∷ [] =
    take_more (reverse hops) i d (omega (arith, h, length-reverse hops))
    ∙ ap (λ y. take i (reverse hops) ++ y ∷ []) (get_or-reverse hops i d h ∙ sym is) in
    put ∙ (ap (λ hs. hs ++ x ∷ []) so_far ∙ (append_assoc start (take i (reverse hops)) (x ∷ []) ∙ ap (λ hs. start ++ hs) (sym here)))

-- heads that are written into their places
pub heads_more : {X Y : Type 0} (f : X → Y) (heads : List Y) (xs : List X) (i : ℕ) (d : X) (v : Y) → i < length heads → i < length xs → v ≡ f (get_or xs i d)
    → take i heads ≡ map f (take i xs) → take (i + 1) (slice_set heads i v) ≡ map f (take (i + 1) xs)
heads_more f heads xs i d v room h is so_far =
    take_more_set heads i v room
    ∙ ((λ k. so_far k ++ is k ∷ [])
    ∙ (sym (map-append f (take i xs) (get_or xs i d ∷ []))
    ∙ ap (map f) (sym (take_more xs i d h))))

-- a path is short
pub few_legs : (legs : List Leg) → IsTrue (is_lawful legs) → length legs ≤ 3
few_legs legs is = (lawful legs is).few

pub few_hops : (legs : List Leg) → IsTrue (is_lawful legs) → length (path_hops legs) ≤ 32
few_hops legs is = (let few = (lawful legs is).hops in omega (arith, few, length_count legs))

-- ---- its packet's segments

no_leg : Leg
no_leg = record { segment = record { kind = Core; hops = record { items = [] } }; against = false }

count_of : (leg : Leg) → (head_of leg).count ≡ length leg.segment.hops.items
unfolding head_of
count_of leg = refl

pub are_segments : (legs : List Leg) → IsTrue (is_lawful legs) → AreSegments (map head_of legs)
are_segments legs is =
    let path = lawful legs is in
    record {
      some_segment = (let some = path.some in omega (arith, some, length-map legs head_of));
      few_segments = (let few = path.few in omega (arith, few, length-map legs head_of));
      least = All-map (λ s. 2 ≤ s.count) head_of legs (All-from_get_or (λ l. 2 ≤ (head_of l).count) legs no_leg
          (λ k h. (let long = (well_formed (get_or legs k no_leg).segment (path.segments k no_leg h)).long in omega (arith, long, count_of (get_or legs k no_leg)))));
      most = All-map (λ s. s.count ≤ 16) head_of legs (All-from_get_or (λ l. (head_of l).count ≤ 16) legs no_leg
          (λ k h. (let short = path.short k no_leg h in omega (arith, short, count_of (get_or legs k no_leg)))));
      few_hops = (let few = path.hops in omega (arith, few, length_count legs, length_hops legs));
    }

pub hops_counted : (legs : List Leg) → hops_of (map head_of legs) ≡ length (map hop_head (path_hops legs))
hops_counted legs = sym (length_hops legs) ∙ sym (length-map (path_hops legs) hop_head)

-- the two lists that are written out are the path's route
pub same_route : (path : List Leg) (segments : List SegmentHead) (hops : List HopHead) → segments ≡ map head_of path → hops ≡ map hop_head (path_hops path)
    → ◌≡◌ {A = Route} (record { segments = segments; hops = hops }) (route_of path)
unfolding route_of
same_route path segments hops s h i = record { segments = s i; hops = h i }
