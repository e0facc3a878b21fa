-- The options of an interface: code and length in 2 bytes each, a value padded to 4 bytes. Code 0 ends them. Code 9 is a
-- resolution of one byte, and the last one counts.
use Rattle.std.specs.Prelude.{ℕ, zero, suc, ◌+◌, ◌-◌, ◌*◌, ◌/◌, ◌^◌, ◌==◌, nat_lt, not, if◌then◌else◌, List, length, drop, slice_index, Option, Some, None, Result, Ok, Err}
use Rattle.epic_capture.specs.declared.numbers.Order.{Order}
use Rattle.epic_capture.specs.Numbers.{number}
use Rattle.epic_pcapng.specs.declared.damage.NgError.{NgError}
use Rattle.epic_pcapng.specs.declared.damage.NgKind.TheVariants as kinds
use Rattle.epic_pcapng.specs.declared.options.Opt.{Opt}
use Rattle.epic_pcapng.specs.declared.options.Opt.TheVariants.{Last, Other, Resolution}
use Rattle.epic_pcapng.specs.declared.options.Resolved.{Resolved}
use Rattle.epic_pcapng.specs.Damage.{damage}

-- the bytes of an option whose value has `len`
abbrev pub padded : ℕ → ℕ
padded len = 4 + (len + 3) / 4 * 4

-- the option at the front of the bytes, at `offset` in the file
unfoldable pub option_at : Order → ℕ → List ℕ → Result Opt NgError
option_at order offset bytes =
    let code = number order 2 bytes in
    let len = number order 2 (drop 2 bytes) in
    if length bytes == 0 then Ok Last
    else if nat_lt (length bytes) 4 then Err (damage kinds.Bad offset)
    else if code == 0 then Ok Last
    else if nat_lt (length bytes) (padded len) then Err (damage kinds.Bad offset)
    else if not (code == 9) then Ok (Other (padded len))
    else if not (len == 1) then Err (damage kinds.Bad offset)
    else Ok (Resolution (record { value = slice_index bytes 4; offset = offset + 4 }))

-- The last resolution among at most so many options; `last` is the one before them.
abbrev pub after_option : ℕ → List ℕ → Option Resolved → Result Opt NgError → (ℕ → List ℕ → Option Resolved → Result (Option Resolved) NgError)
    → Result (Option Resolved) NgError
after_option offset bytes last (Err e) more = Err e
after_option offset bytes last (Ok Last) more = Ok last
after_option offset bytes last (Ok (Other len)) more = more (offset + len) (drop len bytes) last
after_option offset bytes last (Ok (Resolution resolved)) more = more (offset + 8) (drop 8 bytes) (Some resolved)

unfoldable pub options_to : ℕ → Order → ℕ → List ℕ → Option Resolved → Result (Option Resolved) NgError
options_to zero order offset bytes last = Ok last
options_to (suc most) order offset bytes last =
    after_option offset bytes last (option_at order offset bytes) (λ offset bytes last. options_to most order offset bytes last)

-- the last resolution of the options that begin at `offset`; there are no more options than bytes
abbrev pub options : Order → ℕ → List ℕ → Result (Option Resolved) NgError
options order offset bytes = options_to (length bytes) order offset bytes None

-- How many units a second has: 10^r up to r = 12; with the highest bit set 2^r up to r = 63; microseconds where no
-- option says otherwise.
unfoldable pub units_of : Option Resolved → Result ℕ NgError
units_of None = Ok 1000000
units_of (Some resolved) =
    if nat_lt resolved.value 128
    then (if nat_lt 12 resolved.value then Err (damage kinds.Resolution resolved.offset) else Ok (10 ^ resolved.value))
    else if nat_lt 191 resolved.value then Err (damage kinds.Resolution resolved.offset)
    else Ok (2 ^ (resolved.value - 128))
