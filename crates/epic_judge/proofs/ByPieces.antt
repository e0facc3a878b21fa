-- A message is as another one where it is so piece by piece.
use Rattle.std.proofs.Common.{◌≡◌, ℕ, ◌+◌, ◌<◌, ◌≤◌, Bool, true, false, ◌&&◌, List, [], ◌∷◌, ◌++◌, length, map, take, drop, get_or, Option, Some, None, refl, sym, ap, ◌∙◌, arith}
use Rattle.std.specs.Prelude.{◌==◌, option_and_then, option_copied, bytes_eq, MatchOption, if◌then◌else◌}
use Rattle.std.specs.Borrow.{Bor}
use Rattle.std.specs.List.{flat_map, concat, range_with_len}
use Rattle.std.specs.Option.{option_map_or}
use Rattle.std.proofs.lemmas.Bool.Decides.{Decides-eqb}
use Rattle.std.proofs.lemmas.List.{append-nil, take_more, take_all}
use Rattle.std.proofs.lemmas.List.FromFn.{get_or-range_with_len}
use Rattle.std.proofs.lemmas.Grind.{flat_map-append}
use Rattle.epic_num.specs.BigEndian.{u16_bytes, u64_bytes}
use Rattle.epic_num.specs.Messages.{host_bytes, dest_domain}
use Rattle.epic_layout.specs.Contents.{Contents}
use Rattle.epic_layout.specs.Spelling.{dest_message, path_bytes}
use Rattle.epic_judge.specs.Compared.{after, behind, behind_path, is_rest}

-- ---- two pieces are like one

after_joined : (a b m : List ℕ) → after (a ++ b) m ≡ option_and_then (after b) (after a m)
unfolding after
after_joined [] b m = refl
after_joined (x ∷ a) b [] = refl
after_joined (x ∷ a) b (y ∷ m) = by (x == y) (after_joined a b m)
  where
    by : (c : Bool) → after (a ++ b) m ≡ option_and_then (after b) (after a m)
        → (if c then after (a ++ b) m else None) ≡ option_and_then (after b) (if c then after a m else None)
    by true rest = rest
    by false rest = refl

pub behind_joined : (a b : List ℕ) (o : Option (List ℕ)) → behind (a ++ b) o ≡ behind b (behind a o)
behind_joined a b None = refl
behind_joined a b (Some m) = after_joined a b m

pub behind_nothing : (o : Option (List ℕ)) → behind [] o ≡ o
unfolding after
behind_nothing None = refl
behind_nothing (Some m) = refl

rest_joined : (a b m : List ℕ) → bytes_eq (a ++ b) m ≡ is_rest b (after a m)
unfolding after
rest_joined [] b m = refl
rest_joined (x ∷ a) b [] = refl
rest_joined (x ∷ a) b (y ∷ m) = by (x == y) (rest_joined a b m)
  where
    by : (c : Bool) → bytes_eq (a ++ b) m ≡ is_rest b (after a m) → (c && bytes_eq (a ++ b) m) ≡ is_rest b (if c then after a m else None)
    by true rest = rest
    by false rest = refl

pub is_rest_joined : (a b : List ℕ) (o : Option (List ℕ)) → is_rest (a ++ b) o ≡ is_rest b (behind a o)
is_rest_joined a b None = refl
is_rest_joined a b (Some m) = rest_joined a b m

-- ---- what is read

flipped : (m n : ℕ) → (m == n) ≡ (n == m)
flipped m n = by (m == n) (n == m) refl refl
  where
    by : (a b : Bool) → (m == n) ≡ a → (n == m) ≡ b → a ≡ b
    by true true e k = refl
    by false false e k = refl
    by true false e k = let same = (Decides-eqb n m).1 (sym ((Decides-eqb m n).0 e)) in absurd (cc)
    by false true e k = let same = (Decides-eqb m n).1 (sym ((Decides-eqb n m).0 k)) in absurd (cc)

after_cut : (p s : List ℕ) → (if bytes_eq (take (length p) s) p then Some (drop (length p) s) else None) ≡ after p s
unfolding after
after_cut [] s = refl
after_cut (x ∷ p) [] = refl
after_cut (x ∷ p) (y ∷ s) = ap (λ (b : Bool). if b && bytes_eq (take (length p) s) p then Some (drop (length p) s) else None) (flipped y x) ∙ by (x == y) (after_cut p s)
  where
    by : (c : Bool) → (if bytes_eq (take (length p) s) p then Some (drop (length p) s) else None) ≡ after p s
        → (if c && bytes_eq (take (length p) s) p then Some (drop (length p) s) else None) ≡ (if c then after p s else None)
    by true rest = rest
    by false rest = refl

pub stripped : (p s : List ℕ) (r : Option (Bor (List ℕ)))
    → MatchOption r (bytes_eq (take (length p) s) p ≡ false) (λ x. (bytes_eq (take (length p) s) p ≡ true) × (x.now ≡ drop (length p) s) × (length x.now + length p ≡ length s))
    → option_copied r ≡ after p s
stripped p s None e = ap (λ (b : Bool). if b then Some (drop (length p) s) else None) (sym e) ∙ after_cut p s
stripped p s (Some x) e = ap Some e.1 ∙ (ap (λ (b : Bool). if b then Some (drop (length p) s) else None) (sym e.0) ∙ after_cut p s)

-- ---- rows

one_more : {X : Type 0} (f : X → List ℕ) (xs : List X) (i : ℕ) (d : X) → i < length xs
    → flat_map f (take i xs) ++ f (get_or xs i d) ≡ flat_map f (take (i + 1) xs)
one_more f xs i d below =
    ap (λ m. flat_map f (take i xs) ++ m) (sym (append-nil (f (get_or xs i d))))
    ∙ (sym (flat_map-append f (take i xs) (get_or xs i d ∷ []))
    ∙ ap (flat_map f) (sym (take_more xs i d below)))

pub behind_more : {X : Type 0} (f : X → List ℕ) (xs : List X) (i : ℕ) (d : X) (o r s : Option (List ℕ)) → i < length xs
    → r ≡ behind (flat_map f (take i xs)) o → s ≡ behind (f (get_or xs i d)) r → s ≡ behind (flat_map f (take (i + 1) xs)) o
behind_more f xs i d o r s below so_far next =
    next
    ∙ (ap (behind (f (get_or xs i d))) so_far
    ∙ (sym (behind_joined (flat_map f (take i xs)) (f (get_or xs i d)) o)
    ∙ ap (λ m. behind m o) (one_more f xs i d below)))

pub behind_all : {X : Type 0} (f : X → List ℕ) (xs : List X) (n : ℕ) (o r : Option (List ℕ)) → length xs ≤ n
    → r ≡ behind (flat_map f (take n xs)) o → r ≡ behind (flat_map f xs) o
behind_all f xs n o r past so_far = so_far ∙ ap (λ ys. behind (flat_map f ys) o) (take_all n xs past)

pub joined_rows : (xs : List (List ℕ)) → flat_map (λ x. x) xs ≡ concat xs
joined_rows [] = refl
joined_rows (x ∷ xs) = ap (λ m. x ++ m) (joined_rows xs)

pub concat_rows : {X : Type 0} (f : X → List ℕ) (xs : List X) → flat_map f xs ≡ concat (map f xs)
concat_rows f [] = refl
concat_rows f (x ∷ xs) = ap (λ m. f x ++ m) (concat_rows f xs)

pub in_range : (n i : ℕ) → i < n → i ≡ get_or (range_with_len 0 n) i 0
in_range n i lt = sym (get_or-range_with_len 0 n i 0 lt ∙ more i)
  where
    more : (k : ℕ) → 0 + k ≡ k
    more k = omega arith

-- ---- the message of a destination field

pub message_is : (p : Contents) (us : List (List ℕ)) (m : List ℕ) (r s : Option (List ℕ)) (result : Bool)
    → r ≡ behind_path p m → s ≡ behind (concat us) r → result ≡ is_rest (u16_bytes (length p.payload) ++ p.payload) s → result ≡ bytes_eq (dest_message p us) m
unfolding dest_message
message_is p us m r s result a b is =
    let size = u16_bytes (length p.payload) ++ p.payload in
    let o1 = behind (dest_domain p.first ∷ []) (Some m) in
    let o2 = behind (u64_bytes p.ts) o1 in
    let o3 = behind (host_bytes p.src) o2 in
    let o4 = behind (host_bytes p.dst) o3 in
    is
    ∙ (ap (is_rest size) (b ∙ ap (behind (concat us)) a)
    ∙ (sym (is_rest_joined (concat us) size (behind (path_bytes p.route) o4))
    ∙ (sym (is_rest_joined (path_bytes p.route) (concat us ++ size) o4)
    ∙ (sym (is_rest_joined (host_bytes p.dst) (path_bytes p.route ++ (concat us ++ size)) o3)
    ∙ (sym (is_rest_joined (host_bytes p.src) (host_bytes p.dst ++ (path_bytes p.route ++ (concat us ++ size))) o2)
    ∙ (sym (is_rest_joined (u64_bytes p.ts) (host_bytes p.src ++ (host_bytes p.dst ++ (path_bytes p.route ++ (concat us ++ size)))) o1)
    ∙ sym (is_rest_joined (dest_domain p.first ∷ []) (u64_bytes p.ts ++ (host_bytes p.src ++ (host_bytes p.dst ++ (path_bytes p.route ++ (concat us ++ size))))) (Some m))))))))
