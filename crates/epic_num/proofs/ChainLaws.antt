-- What was issued stays as it is when more is issued.
use Rattle.std.proofs.Common.{◌≡◌, ℕ, zero, suc, ◌+◌, ◌-◌, ◌≤◌, ◌<◌, List, [], ◌∷◌, ◌++◌, length, refl, sym, ◌∙◌, ap, arith, add-one}
use Rattle.std.specs.Prelude.{Option, Some, None, option_map, slice_get}
use Rattle.std.specs.Option.{option_map_or}
use Rattle.std.proofs.lemmas.Option.{slice_get_past}
use Rattle.std.proofs.Math.Dec.{eqb-suc-zero}
use Rattle.epic_num.specs.Chains.{Issue, issue_at, name_of, last_names, chain}

pub slice_get-append : {A : Type 0} (xs ys : List A) (i : ℕ) → i < length xs → slice_get (xs ++ ys) i ≡ slice_get xs i
slice_get-append [] ys i h = absurd (omega arith)
slice_get-append (x ∷ xs) ys zero h = refl
slice_get-append (x ∷ xs) ys (suc i) h = slice_get-append xs ys i (omega arith)

pub issue_at-zero : (issues : List Issue) → issue_at issues 0 ≡ None
unfolding issue_at
issue_at-zero issues = refl

one_less : (n : ℕ) → suc n - 1 ≡ n
one_less n = omega arith

pub issue_at-suc : (issues : List Issue) (n : ℕ) → issue_at issues (suc n) ≡ slice_get issues n
unfolding issue_at
issue_at-suc issues n = rw (eqb-suc-zero n, one_less n)

pub issue_at-append : (issues more : List Issue) (n : ℕ) → n ≤ length issues → issue_at (issues ++ more) n ≡ issue_at issues n
issue_at-append issues more zero h = issue_at-zero (issues ++ more) ∙ sym (issue_at-zero issues)
issue_at-append issues more (suc n) h =
    issue_at-suc (issues ++ more) n ∙ (slice_get-append issues more n (omega arith) ∙ sym (issue_at-suc issues n))

pub slice_get-seam : {A : Type 0} (xs : List A) (x : A) → slice_get (xs ++ x ∷ []) (length xs) ≡ Some x
slice_get-seam [] x = refl
slice_get-seam (y ∷ xs) x = slice_get-seam xs x

-- the one that is issued next
pub issue_at-next : (issues : List Issue) (i : Issue) → issue_at (issues ++ i ∷ []) (length issues + 1) ≡ Some i
issue_at-next issues i = rw add-one (issue_at-suc (issues ++ i ∷ []) (length issues) ∙ slice_get-seam issues i)

-- there is no issue past the last
pub issue_at-past : (issues : List Issue) (n : ℕ) → length issues < n → issue_at issues n ≡ None
issue_at-past issues zero h = issue_at-zero issues
issue_at-past issues (suc n) h = issue_at-suc issues n ∙ slice_get_past issues n (omega arith)

pub name_of-append : (issues more : List Issue) (n : ℕ) → n ≤ length issues → name_of (issues ++ more) n ≡ name_of issues n
unfolding name_of
name_of-append issues more n h = ap (option_map (λ i. i.name)) (issue_at-append issues more n h)

-- every parent is among the issues
abbrev pub AreKnown : List Issue → Type 0
AreKnown issues = (n : ℕ) (i : Issue) → issue_at issues n ≡ Some i → i.parent ≤ length issues

-- two functions that agree where there is a value
map_or_same : {A B : Type 0} (f g : A → B) (o p : Option A) (d : B) → o ≡ p → ((x : A) → p ≡ Some x → f x ≡ g x) → option_map_or f o d ≡ option_map_or g p d
map_or_same {A} {B} f g o p d e same = ap (λ (q : Option A). option_map_or f q d) e ∙ agree p same
  where
    agree : (q : Option A) → ((x : A) → q ≡ Some x → f x ≡ g x) → option_map_or f q d ≡ option_map_or g q d
    agree None h = refl
    agree (Some x) h = h x refl

pub last_names-append : (issues more : List Issue) → AreKnown issues → (most n : ℕ) → n ≤ length issues → last_names (issues ++ more) most n ≡ last_names issues most n
unfolding last_names
last_names-append issues more known zero n h = refl
last_names-append issues more known (suc most) n h =
    map_or_same
    (λ i. last_names (issues ++ more) most i.parent ++ i.name ∷ [])
    (λ i. last_names issues most i.parent ++ i.name ∷ [])
    (issue_at (issues ++ more) n)
    (issue_at issues n)
    []
    (issue_at-append issues more n h)
    (λ i found. ap (λ names. names ++ i.name ∷ []) (last_names-append issues more known most i.parent (known n i found)))

pub chain-append : (issues more : List Issue) → AreKnown issues → (n : ℕ) → n ≤ length issues → chain (issues ++ more) n ≡ chain issues n
unfolding chain
chain-append issues more known n h =
    map_or_same
    (λ i. last_names (issues ++ more) i.name.body.pos n)
    (λ i. last_names issues i.name.body.pos n)
    (issue_at (issues ++ more) n)
    (issue_at issues n)
    []
    (issue_at-append issues more n h)
    (λ i found. last_names-append issues more known i.name.body.pos n h)
