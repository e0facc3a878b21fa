-- What the tests of time say of numbers.
use Rattle.std.proofs.Common.{◌≡◌, ℕ, false, arith}
use Rattle.std.proofs.lemmas.Bool.Decides.{nat_tests}
use Rattle.epic_num.specs.declared.profile.Profile.{Profile}
use Rattle.epic_num.specs.Moments.{is_early, is_stale, IsFresh}

pub fresh : (profile : Profile) (ts now : ℕ) → is_early profile ts now ≡ false → is_stale profile ts now ≡ false → IsFresh profile ts now
unfolding is_early is_stale
fresh profile ts now early stale = record { not_early = grind (arith, nat_tests); not_stale = grind (arith, nat_tests) }

pub not_early : (profile : Profile) (ts now : ℕ) → IsFresh profile ts now → is_early profile ts now ≡ false
unfolding is_early
not_early profile ts now f = let h = f.not_early in grind (arith, nat_tests)

pub not_stale : (profile : Profile) (ts now : ℕ) → IsFresh profile ts now → is_stale profile ts now ≡ false
unfolding is_stale
not_stale profile ts now f = let h = f.not_stale in grind (arith, nat_tests)
