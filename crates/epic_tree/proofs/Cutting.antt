-- Where what is sought stands among places, and what that says of a tree.
use Rattle.std.proofs.Common.{◌≡◌, ◌≢◌, ℕ, List, [], ◌∷◌, ◌++◌, Option, Some, None, Ordering, refl, sym, ap, ◌∙◌}
use Rattle.std.specs.Option.{option_or}
use Rattle.std.specs.Ordering.{is_eq}
use Rattle.std.specs.declared.cmp.Ordering.TheVariants.{Less, Equal, Greater}
use Rattle.std.proofs.lemmas.List.Folds.{find-append}
use Rattle.epic_tree.specs.Sides.{IsBefore, Behind, IsCut, found, put_by, put}
use Rattle.epic_tree.specs.Shapes.{Shape, Tip, Fork, places, inserted_by, inserted, sought_by, sought}
use Rattle.epic_tree.proofs.ShapeLaws.{places_settled}

pub behind_is_cut : (side : ℕ → Ordering) (ps : List ℕ) → IsBefore side ps → IsCut side ps
behind_is_cut side [] h = tt
behind_is_cut side (p ∷ ps) h = rw h.0 h.1

pub none_before : (side : ℕ → Ordering) (ps : List ℕ) → IsBefore side ps → found side ps ≡ None
none_before side [] h = refl
none_before side (p ∷ ps) h = rw h.0 (none_before side ps h.1)

before_right : (side : ℕ → Ordering) (xs ys : List ℕ) → IsBefore side (xs ++ ys) → IsBefore side ys
before_right side [] ys h = h
before_right side (x ∷ xs) ys h = before_right side xs ys h.1

before_left : (side : ℕ → Ordering) (xs ys : List ℕ) → IsBefore side (xs ++ ys) → IsBefore side xs
before_left side [] ys h = tt
before_left side (x ∷ xs) ys h = (h.0, before_left side xs ys h.1)

-- one of two facts, by where it stands
pub behind_map : (o : Ordering) {A B C D : Type 0} → (A → C) → (B → D) → Behind o A B → Behind o C D
behind_map Less f g h = g h
behind_map Equal f g h = g h
behind_map Greater f g h = f h

-- the same fact, by where it stands
behind_both : (o : Ordering) {A B C : Type 0} → (o ≡ Greater → A → C) → (B → C) → Behind o A B → C
behind_both Less f g h = g h
behind_both Equal f g h = g h
behind_both Greater f g h = f refl h

cut_left : (side : ℕ → Ordering) (xs ys : List ℕ) → IsCut side (xs ++ ys) → IsCut side xs
cut_left side [] ys h = tt
cut_left side (x ∷ xs) ys h = behind_map (side x) (cut_left side xs ys) (before_left side xs ys) h

cut_tail : (side : ℕ → Ordering) (y : ℕ) (ys : List ℕ) → IsCut side (y ∷ ys) → IsCut side ys
cut_tail side y ys h = behind_both (side y) (λ e c. c) (behind_is_cut side ys) h

cut_right : (side : ℕ → Ordering) (xs ys : List ℕ) → IsCut side (xs ++ ys) → IsCut side ys
cut_right side [] ys h = h
cut_right side (x ∷ xs) ys h =
    behind_both (side x) (λ e c. cut_right side xs ys c) (λ b. behind_is_cut side ys (before_right side xs ys b)) h

-- before one place, so before all that follow
cut_after : (side : ℕ → Ordering) (y : ℕ) (ys : List ℕ) → side y ≡ Less → IsCut side (y ∷ ys) → IsBefore side ys
cut_after side y ys e h = rw e at h

-- where it stands at a place or behind it, it is behind all places before that one
behind_first : (side : ℕ → Ordering) (x : ℕ) (xs : List ℕ) (y : ℕ) (ys : List ℕ) → side y ≢ Less → IsCut side (x ∷ xs ++ y ∷ ys) → side x ≡ Greater
behind_first side x xs y ys n h =
    behind_both (side x) {A = IsCut side (xs ++ y ∷ ys)} {B = IsBefore side (xs ++ y ∷ ys)} {C = side x ≡ Greater} (λ e c. e)
    (λ b. absurd (n (before_right side xs (y ∷ ys) b).0)) h

put_before_by : (o : Ordering) (n x i : ℕ) (xs ys more rest : List ℕ) → more ≡ rest ++ i ∷ ys → put_by o n x (xs ++ i ∷ ys) more ≡ put_by o n x xs rest ++ i ∷ ys
put_before_by Less n x i xs ys more rest e = refl
put_before_by Equal n x i xs ys more rest e = refl
put_before_by Greater n x i xs ys more rest e = ap (λ l. x ∷ l) e

put_before : (side : ℕ → Ordering) (n : ℕ) (xs : List ℕ) (i : ℕ) (ys : List ℕ) → side i ≡ Less → put side n (xs ++ i ∷ ys) ≡ put side n xs ++ i ∷ ys
put_before side n [] i ys e = rw e refl
put_before side n (x ∷ xs) i ys e = put_before_by (side x) n x i xs ys _ (put side n xs) (put_before side n xs i ys e)

put_behind : (side : ℕ → Ordering) (n : ℕ) (xs : List ℕ) (i : ℕ) (ys : List ℕ) → side i ≢ Less → IsCut side (xs ++ i ∷ ys) → put side n (xs ++ i ∷ ys) ≡ xs ++ put side n (i ∷ ys)
put_behind side n [] i ys e h = refl
put_behind side n (x ∷ xs) i ys e h =
    rw (behind_first side x xs i ys e h) (ap (λ l. x ∷ l) (put_behind side n xs i ys e (cut_tail side x (xs ++ i ∷ ys) h)))

found_behind : (side : ℕ → Ordering) (xs : List ℕ) (i : ℕ) (ys : List ℕ) → side i ≢ Less → IsCut side (xs ++ i ∷ ys) → found side (xs ++ i ∷ ys) ≡ found side (i ∷ ys)
found_behind side [] i ys e h = refl
found_behind side (x ∷ xs) i ys e h =
    rw (behind_first side x xs i ys e h) (found_behind side xs i ys e (cut_tail side x (xs ++ i ∷ ys) h))

or_none : (o : Option ℕ) → option_or o None ≡ o
or_none None = refl
or_none (Some x) = refl

found_before : (side : ℕ → Ordering) (xs : List ℕ) (i : ℕ) (ys : List ℕ) → side i ≡ Less → IsCut side (xs ++ i ∷ ys) → found side (xs ++ i ∷ ys) ≡ found side xs
found_before side xs i ys e h =
    let rest : found side (i ∷ ys) ≡ None = none_before side (i ∷ ys) (e, cut_after side i ys e (cut_right side xs (i ∷ ys) h)) in
    find-append (λ p. is_eq (side p)) xs (i ∷ ys) ∙ ap (λ o. option_or (found side xs) o) rest ∙ or_none (found side xs)

-- inserting puts the place where it belongs

places_inserted_by : (side : ℕ → Ordering) (n : ℕ) (o : Ordering) (l : Shape) (i : ℕ) (r left right : Shape) → side i ≡ o → IsCut side (places l ++ i ∷ places r) → places left ≡ put side n (places l) → places right ≡ put side n (places r) → places (inserted_by o l i r left right) ≡ put side n (places l ++ i ∷ places r)
places_inserted_by side n Less l i r left right e h pl pr =
    places_settled left i r ∙ ap (λ ps. ps ++ i ∷ places r) pl ∙ sym (put_before side n (places l) i (places r) e)
places_inserted_by side n Equal l i r left right e h pl pr =
    let there : put side n (i ∷ places r) ≡ i ∷ places r = rw e refl in
    sym (put_behind side n (places l) i (places r) (λ f. cc) h ∙ ap (λ ps. places l ++ ps) there)
places_inserted_by side n Greater l i r left right e h pl pr =
    let there : put side n (i ∷ places r) ≡ i ∷ put side n (places r) = rw e refl in
    places_settled l i right ∙ ap (λ ps. places l ++ i ∷ ps) pr ∙ sym (put_behind side n (places l) i (places r) (λ f. cc) h ∙ ap (λ ps. places l ++ ps) there)

pub places_inserted : (side : ℕ → Ordering) (n : ℕ) (t : Shape) → IsCut side (places t) → places (inserted side n t) ≡ put side n (places t)
places_inserted side n Tip h = refl
places_inserted side n (Fork l i r) h =
    places_inserted_by side n (side i) l i r (inserted side n l) (inserted side n r) refl h
    (places_inserted side n l (cut_left side (places l) (i ∷ places r) h))
    (places_inserted side n r (cut_tail side i (places r) (cut_right side (places l) (i ∷ places r) h)))

-- one way down finds it

sought_found_by : (side : ℕ → Ordering) (o : Ordering) (l : Shape) (i : ℕ) (r : Shape) (left right : Option ℕ) → side i ≡ o → IsCut side (places l ++ i ∷ places r) → left ≡ found side (places l) → right ≡ found side (places r) → sought_by o i left right ≡ found side (places l ++ i ∷ places r)
sought_found_by side Less l i r left right e h sl sr = sl ∙ sym (found_before side (places l) i (places r) e h)
sought_found_by side Equal l i r left right e h sl sr =
    let there : found side (i ∷ places r) ≡ Some i = rw e refl in
    sym (found_behind side (places l) i (places r) (λ f. cc) h ∙ there)
sought_found_by side Greater l i r left right e h sl sr =
    let there : found side (i ∷ places r) ≡ found side (places r) = rw e refl in
    sr ∙ sym (found_behind side (places l) i (places r) (λ f. cc) h ∙ there)

pub sought_found : (side : ℕ → Ordering) (t : Shape) → IsCut side (places t) → sought side t ≡ found side (places t)
sought_found side Tip h = refl
sought_found side (Fork l i r) h =
    sought_found_by side (side i) l i r (sought side l) (sought side r) refl h
    (sought_found side l (cut_left side (places l) (i ∷ places r) h))
    (sought_found side r (cut_tail side i (places r) (cut_right side (places l) (i ∷ places r) h)))
