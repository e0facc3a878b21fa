-- How often a packet comes to routers.
use Rattle.std.proofs.Common.{◌≡◌, ℕ, zero, suc, ◌+◌, ◌-◌, ◌<◌, ◌≤◌, Bool, true, false, ap, sym, subst, ◌∙◌, ⊎_elim, arith, add-one}
use Rattle.std.specs.Prelude.{if◌then◌else◌}
use Rattle.std.proofs.lemmas.Bool.{cond-true, cond-false, cases_Bool}
use Rattle.epic_layout.specs.Contents.{Contents}
use Rattle.epic_router.specs.Checks.{has_second, handled_hops}
use Rattle.epic_router.proofs.Right.{two, one}
use Rattle.epic_model.specs.Honest.{count_below}

pub count_yes : (test : ℕ → Bool) (j : ℕ) → test j ≡ true → count_below test (j + 1) ≡ count_below test j + 1
unfolding count_below
count_yes test j e = rw add-one (cond-true (test j) (count_below test j + 1) (count_below test j) e)

pub count_no : (test : ℕ → Bool) (j : ℕ) → test j ≡ false → count_below test (j + 1) ≡ count_below test j
unfolding count_below
count_no test j e = rw add-one (cond-false (test j) (count_below test j + 1) (count_below test j) e)

-- one hop more counts one more at most
count_most : (test : ℕ → Bool) (j : ℕ) → count_below test j ≤ count_below test (j + 1)
count_most test j = ⊎_elim (λ e. omega (arith, count_yes test j e)) (λ e. omega (arith, count_no test j e)) (cases_Bool (test j))

pub count_later : (test : ℕ → Bool) (j n : ℕ) → count_below test j ≤ count_below test (j + n)
count_later test j zero = (let same : j + 0 ≡ j = omega arith in subst (λ k. count_below test j ≤ count_below test k) (sym same) (omega arith))
count_later test j (suc n) =
    let same : j + n + 1 ≡ j + suc n = omega arith in
    subst (λ k. count_below test j ≤ count_below test k) same (omega (arith, count_later test j n, count_most test (j + n)))

pub count_up : (test : ℕ → Bool) (j n : ℕ) → j ≤ n → count_below test j ≤ count_below test n
count_up test j n h =
    let same : j + (n - j) ≡ n = omega arith in
    subst (λ k. count_below test j ≤ count_below test k) same (count_later test j (n - j))

-- where hop j counts, more are counted below n than below j
pub count_room : (test : ℕ → Bool) (j n : ℕ) → j < n → test j ≡ true → count_below test j + 1 ≤ count_below test n
count_room test j n h e = omega (arith, count_yes test j e, count_up test (j + 1) n (omega (arith, h)))

-- after a turn, whose second hop doesn't count
pub count_turn : (test : ℕ → Bool) (p : Contents) (j : ℕ) → (has_second p j ≡ true → test (j + 1) ≡ false)
    → count_below test (j + handled_hops p j) ≡ count_below test j + (if test j then 1 else 0)
count_turn test p j second =
    ⊎_elim
    (λ s. (let at : j + handled_hops p j ≡ j + 1 + 1 = omega (arith, two p j s) in
    ap (count_below test) at ∙ (count_no test (j + 1) (second s) ∙ first)))
    (λ s. (let at : j + handled_hops p j ≡ j + 1 = omega (arith, one p j s) in ap (count_below test) at ∙ first))
    (cases_Bool (has_second p j))
  where
    first : count_below test (j + 1) ≡ count_below test j + (if test j then 1 else 0)
    first =
        ⊎_elim
        (λ e. count_yes test j e ∙ ap (λ n. count_below test j + n) (sym {A = ℕ} (cond-true (test j) 1 0 e)))
        (λ e. count_no test j e ∙ (let none : ◌≡◌ {A = ℕ} 0 (if test j then 1 else 0) = sym {A = ℕ} (cond-false (test j) 1 0 e) in omega (arith, none)))
        (cases_Bool (test j))
