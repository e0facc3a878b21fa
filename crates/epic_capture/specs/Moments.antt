-- The time of a record: seconds, and a fraction of a second in microseconds or nanoseconds.
use Rattle.std.specs.Prelude.{ℕ, ◌+◌, ◌*◌, ◌/◌}
use Rattle.epic_capture.specs.declared.format.TimeUnit.{TimeUnit}
use Rattle.epic_capture.specs.declared.format.TimeUnit.TheVariants.{Microseconds, Nanoseconds}

-- the whole microseconds of a fraction
abbrev pub microseconds : TimeUnit → ℕ → ℕ
microseconds Microseconds fraction = fraction
microseconds Nanoseconds fraction = fraction / 1000

-- the greatest fraction that is less than a second
abbrev pub most_fraction : TimeUnit → ℕ
most_fraction Microseconds = 999999
most_fraction Nanoseconds = 999999999

-- the moment in microseconds
abbrev pub moment_of : TimeUnit → ℕ → ℕ → ℕ
moment_of unit seconds fraction = seconds * 1000000 + microseconds unit fraction
