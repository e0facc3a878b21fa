-- The answers of a sink in memory, by cases.
use Rattle.std.proofs.Common.{◌≡◌, ◌≢◌, ◌<◌, ℕ, List, [], ◌∷◌, length, true, false, Ok, Err, arith, refl}
use Rattle.std.proofs.Math.Bool.{or-true}
use Rattle.epic_ports.specs.declared.error.PortError.TheVariants.{Failed}
use Rattle.epic_ports.specs.declared.mem_sink.MemSink.{MemSink}
use Rattle.epic_ports.specs.Faults.{is_listed, next_count}
use Rattle.epic_ports.specs.MemSink.{answer_of, refuses, taken_of}

pub answer-refused : (sink : MemSink) (bytes : List ℕ)
    → 0 < length bytes
    → refuses sink bytes ≡ true
    → Err Failed ≡ answer_of sink bytes
answer-refused sink [] some is = absurd (omega arith)
answer-refused sink (byte ∷ bytes) some is = rw is refl

pub answer-taken : (sink : MemSink) (bytes : List ℕ)
    → 0 < length bytes
    → refuses sink bytes ≡ false
    → Ok (taken_of sink bytes) ≡ answer_of sink bytes
answer-taken sink [] some is = absurd (omega arith)
answer-taken sink (byte ∷ bytes) some is = rw is refl

pub refuses-full : (sink : MemSink) (bytes : List ℕ)
    → taken_of sink bytes ≡ 0
    → refuses sink bytes ≡ true
refuses-full sink bytes full = rw full refl

pub refuses-listed : (sink : MemSink) (bytes : List ℕ)
    → is_listed sink.fail.items (next_count sink.calls) ≡ true
    → refuses sink bytes ≡ true
refuses-listed sink bytes listed = rw (listed, or-true) refl

pub refuses-neither : (sink : MemSink) (bytes : List ℕ)
    → taken_of sink bytes ≢ 0
    → is_listed sink.fail.items (next_count sink.calls) ≡ false
    → refuses sink bytes ≡ false
refuses-neither sink bytes some listed = rw listed (grind arith)
