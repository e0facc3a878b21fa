-- Options, one after the other.
use Rattle.std.proofs.Common.{◌≡◌, ℕ, suc, ◌+◌, ◌≤◌, Bool, true, false, cond, ltb, List, length, drop, Option, Result, Ok, Err, refl, ap, ◌∙◌, subst, arith}
use Rattle.std.specs.Prelude.{not, ◌==◌}
use Rattle.std.proofs.lemmas.Bool.{ltb-false}
use Rattle.std.proofs.lemmas.Bool.Decides.{nat_tests}
use Rattle.epic_capture.specs.declared.numbers.Order.{Order}
use Rattle.epic_capture.specs.Numbers.{number}
use Rattle.epic_pcapng.specs.declared.damage.NgError.{NgError}
use Rattle.epic_pcapng.specs.declared.options.Opt.{Opt}
use Rattle.epic_pcapng.specs.declared.options.Opt.TheVariants.{Last, Other, Resolution}
use Rattle.epic_pcapng.specs.declared.options.Resolved.{Resolved}
use Rattle.epic_pcapng.specs.Options.{padded, option_at, after_option, options_to, options}

-- an option has its bytes
abbrev fits_by : ℕ → Result Opt NgError → Type 0
fits_by len (Ok Last) = Unit {0}
fits_by len (Ok (Other size)) = size ≤ len
fits_by len (Ok (Resolution resolved)) = 8 ≤ len
fits_by len (Err e) = Unit {0}

choose : (len : ℕ) (b : Bool) (x y : Result Opt NgError) → (b ≡ true → fits_by len x) → (b ≡ false → fits_by len y) → fits_by len (cond b x y)
choose len true x y h k = h refl
choose len false x y h k = k refl

option_says : (order : Order) (offset : ℕ) (bytes : List ℕ) → fits_by (length bytes) (option_at order offset bytes)
unfolding option_at
option_says order offset bytes =
    choose (length bytes) (length bytes == 0) _ _ (λ h. tt) (λ h1. choose (length bytes) (ltb (length bytes) 4) _ _ (λ h. tt) (λ h2.
    choose (length bytes) (number order 2 bytes == 0) _ _ (λ h. tt) (λ h3.
    choose (length bytes) (ltb (length bytes) (padded (number order 2 (drop 2 bytes)))) _ _ (λ h. tt) (λ h4.
    choose (length bytes) (not (number order 2 bytes == 9)) _ _ (λ h. ltb-false (length bytes) (padded (number order 2 (drop 2 bytes))) h4) (λ h5.
    choose (length bytes) (not (number order 2 (drop 2 bytes) == 1)) _ _ (λ h. tt) (λ h6.
    eight (number order 2 (drop 2 bytes)) h6 (ltb-false (length bytes) (padded (number order 2 (drop 2 bytes))) h4)))))))
  where
    eight : (len : ℕ) → not (len == 1) ≡ false → padded len ≤ length bytes → 8 ≤ length bytes
    eight len h k =
        let one : len ≡ 1 = grind (arith, nat_tests) in
        omega (arith, one, k)

pub other_fits : (order : Order) (offset : ℕ) (bytes : List ℕ) (len : ℕ) → option_at order offset bytes ≡ Ok (Other len) → len ≤ length bytes
other_fits order offset bytes len h = subst (fits_by (length bytes)) h (option_says order offset bytes)

pub resolution_fits : (order : Order) (offset : ℕ) (bytes : List ℕ) (resolved : Resolved) → option_at order offset bytes ≡ Ok (Resolution resolved) → 8 ≤ length bytes
resolution_fits order offset bytes resolved h = subst (fits_by (length bytes)) h (option_says order offset bytes)

-- How far the options were read: the same resolution is last, and how many bytes are left.
pub record ReadsOn (order : Order) (first : ℕ) (bytes : List ℕ) (most : ℕ) (at : ℕ) (rest : List ℕ) (last : Option Resolved) : Type 0 where
  pub same : options order first bytes ≡ options_to most order at rest last
  pub fed : at + length rest ≡ first + length bytes

-- one option
pub options_step : (order : Order) (first : ℕ) (bytes : List ℕ) (most more at : ℕ) (rest : List ℕ) (last : Option Resolved) (r : Result Opt NgError)
    → most ≡ suc more → option_at order at rest ≡ r → ReadsOn order first bytes most at rest last
    → options order first bytes ≡ after_option at rest last r (λ offset bytes last. options_to more order offset bytes last)
unfolding options_to
options_step order first bytes most more at rest last r most_is is so_far =
    so_far.same ∙ ap (λ (n : ℕ). options_to n order at rest last) most_is
    ∙ ap (λ (r : Result Opt NgError). after_option at rest last r (λ offset bytes last. options_to more order offset bytes last)) is

pub options_end : (order : Order) (first : ℕ) (bytes : List ℕ) (most at : ℕ) (rest : List ℕ) (last : Option Resolved) → most ≡ 0
    → ReadsOn order first bytes most at rest last → options order first bytes ≡ Ok last
unfolding options_to
options_end order first bytes most at rest last most_is so_far = so_far.same ∙ ap (λ (n : ℕ). options_to n order at rest last) most_is
