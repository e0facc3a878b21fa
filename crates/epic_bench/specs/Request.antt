-- What the words ask for.
use Rattle.std.specs.Prelude.{ℕ, ◌==◌, ◌<◌, List, [], ◌∷◌, Option, Some, None, codes, bytes_eq, if◌then◌else◌}
use Rattle.std.specs.Option.{option_map, option_and_then}
use Rattle.epic_num.specs.Names.{number_within}
use Rattle.epic_bench.specs.declared.work.Load.TheVariants.{One, Hundred, Thousands}
use Rattle.epic_bench.specs.declared.work.Work.{Work}
use Rattle.epic_bench.specs.declared.work.Work.TheVariants.{Aes, Cmac, Short, Routed, Arrived, Sends, Window, Policing}
use Rattle.epic_num.specs.declared.hop.Level.TheVariants.{L0, L1, L2, L3}
use Rattle.epic_bench.specs.declared.words.Request.{Request}
use Rattle.epic_bench.specs.declared.words.Request.TheVariants.{Time, Digests}

abbrev pub positive : Option ℕ → Option ℕ
positive None = None
positive (Some n) = if n == 0 then None else Some n

-- a number of rounds, from 1 to 2^32 - 1: decimal digits without a zero in front
abbrev pub rounds_of : List ℕ → Option ℕ
rounds_of word = positive (number_within 0xffff_ffff word)

-- the work of a name
abbrev pub work_of : List ℕ → Option Work
work_of word =
    if bytes_eq word (codes "aes") then Some Aes
    else if bytes_eq word (codes "cmac") then Some Cmac
    else if bytes_eq word (codes "short") then Some Short
    else if bytes_eq word (codes "turn0") then Some (Routed L0)
    else if bytes_eq word (codes "turn1") then Some (Routed L1)
    else if bytes_eq word (codes "turn2") then Some (Routed L2)
    else if bytes_eq word (codes "turn3") then Some (Routed L3)
    else if bytes_eq word (codes "arrive3") then Some Arrived
    else if bytes_eq word (codes "send3") then Some Sends
    else if bytes_eq word (codes "window-1") then Some (Window One)
    else if bytes_eq word (codes "window-100") then Some (Window Hundred)
    else if bytes_eq word (codes "window-4096") then Some (Window Thousands)
    else if bytes_eq word (codes "police") then Some Policing
    else None

-- `digests`, or the name of a work
abbrev pub request_for : List ℕ → ℕ → Option Request
request_for word rounds =
    if bytes_eq word (codes "digests") then Some (Digests rounds)
    else option_map (λ work. Time work rounds) (work_of word)

-- two words; none where they are no command
abbrev pub request_of : List (List ℕ) → Option Request
request_of (word ∷ rounds ∷ []) = option_and_then (request_for word) (rounds_of rounds)
request_of words = None

-- there is a round at least
abbrev pub HasRounds : Request → Type 0
HasRounds (Time work rounds) = 0 < rounds
HasRounds (Digests rounds) = 0 < rounds
