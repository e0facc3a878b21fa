-- A function applied again and again, while what is left of the applications grows less.
use Rattle.std.proofs.Common.{◌≡◌, ℕ, suc, ◌+◌, ◌-◌, ◌<◌, ◌≤◌, ap, sym, ◌∙◌, arith}
use Rattle.std.specs.Fn.{iterate}

pub iterate_more : {A : Type 0} (h : A → A) (n i : ℕ) (x y : A) → i < n → iterate h (n - i) x ≡ y →
    iterate h (n - (i + 1)) (h x) ≡ y
iterate_more h n i x y below left =
    let one : n - i ≡ suc (n - (i + 1)) = omega arith in
    sym (ap (λ k. iterate h k x) one) ∙ left

pub iterate_all : {A : Type 0} (h : A → A) (n i : ℕ) (x y : A) → n ≤ i → iterate h (n - i) x ≡ y → x ≡ y
iterate_all h n i x y over left =
    let none : n - i ≡ 0 = omega arith in
    sym (ap (λ k. iterate h k x) none) ∙ left
