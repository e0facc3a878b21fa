-- What the index behind another says of a list: its first node, or the next one.
use Rattle.std.proofs.Common.{◌≡◌, ℕ, ◌<◌, ◌≤◌, sym, ◌∙◌, ap, subst, List, [], ◌∷◌, ◌++◌, get_or, Some, None, ltb, arith}
use Rattle.std.proofs.lemmas.Bool.{cond-true, cond-false, lt-ltb, le-ltb}
use Rattle.epic_pool.specs.Inside.{lists_of, node_after}
use Rattle.epic_pool.specs.Pool.{first_of}
use Rattle.epic_pool.specs.Rings.{Path, ring, IsRings}
use Rattle.epic_pool.proofs.Lists.{list_is}

pub path_first : (base : ℕ) (next xs : List ℕ) (a b : ℕ) → Path base next a xs b → b < base → node_after base next a ≡ first_of xs
unfolding Path node_after
path_first base next [] a b p lt =
    cond-true (ltb (get_or next a 0) base) None (Some (get_or next a 0)) (lt-ltb (get_or next a 0) base (subst (λ (k : ℕ). k < base) (sym p) lt))
path_first base next (x ∷ xs) a b p lt =
    cond-false (ltb (get_or next a 0) base) None (Some (get_or next a 0)) (le-ltb (get_or next a 0) base (subst (λ (k : ℕ). base ≤ k) (sym p.0) p.1))
    ∙ ap (λ (k : ℕ). Some k) p.0

path_from : (base : ℕ) (next xs ys : List ℕ) (a n b : ℕ) → Path base next a (xs ++ n ∷ ys) b → Path base next n ys b
unfolding Path
path_from base next [] ys a n b p = p.2
path_from base next (x ∷ xs) ys a n b p = path_from base next xs ys x n b p.2

pub first_is : (base : ℕ) (next prev : List ℕ) (n l : ℕ) → IsRings base next prev → n ≤ base → l < n → node_after base next l ≡ first_of (get_or (lists_of base next n) l [])
first_is base next prev n l r le lt =
    path_first base next (ring base next l) l l (r.closed l (omega arith)) (omega arith) ∙ sym (ap first_of (list_is base next n l lt))

pub next_is : (base : ℕ) (next prev : List ℕ) (n l node : ℕ) (xs ys : List ℕ) → IsRings base next prev → n ≤ base → l < n → get_or (lists_of base next n) l [] ≡ xs ++ node ∷ ys
    → node_after base next node ≡ first_of ys
next_is base next prev n l node xs ys r le lt e =
    let p : Path base next l (xs ++ node ∷ ys) l = subst (λ (zs : List ℕ). Path base next l zs l) (sym (list_is base next n l lt) ∙ e) (r.closed l (omega arith)) in
    path_first base next ys node l (path_from base next xs ys l node l p) (omega arith)
