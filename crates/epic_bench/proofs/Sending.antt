-- A host that sends one packet more has sent what the definition says.
use Rattle.std.proofs.Common.{◌≡◌, ℕ, suc, zero, ◌+◌, ◌<◌, ◌≤◌, ◌^◌, Bool, List, refl, sym, ◌∙◌, subst, ap, add-one, Option, Some, None, Result, Ok, Err, arith}
use Rattle.std.specs.Prelude.{IfOk, IfSome}
use Rattle.epic_num.specs.Levels.{first_byte}
use Rattle.epic_num.specs.declared.hop.Level.TheVariants.{L3}
use Rattle.epic_num.specs.declared.name.HostId.{HostId}
use Rattle.epic_num.specs.declared.segment.Leg.{Leg}
use Rattle.epic_num.specs.declared.send_error.SendError.{SendError}
use Rattle.epic_num.specs.declared.send_error.SendError.TheVariants.{OutOfMemory}
use Rattle.epic_num.proofs.TableLaws.{unless_ok}
use Rattle.epic_keys.specs.Fetches.{Fetch}
use Rattle.epic_topo.specs.Network.{Network}
use Rattle.epic_ends.specs.Admitting.{admitted, next_ts}
use Rattle.epic_ends.specs.Sources.{Sender, answer}
use Rattle.epic_bench.specs.Sends.{sent, sent_one, with_answer}
use Rattle.epic_bench.specs.declared.arrived.TheConstants.{HOST}
use Rattle.epic_bench.specs.declared.sends.Sending.{Sending}
use Rattle.epic_bench.specs.declared.sends.TheConstants.{PAYLOAD}
use Rattle.epic_bench.specs.declared.way.TheConstants.{NOW}

-- where memory isn't missing a refusal leaves all as it was
pub refused : (t : Network) (legs : List Leg) (s : Sending) (given : Result ℕ SendError) (e : SendError)
    → IfOk given (λ _. e ≡ OutOfMemory) → (e ≡ OutOfMemory → ⊥) → with_answer t legs s given ≡ s
refused t legs s (Ok ts) e memory other = absurd (other memory)
refused t legs s (Err x) e memory other = refl

answered_ts : (t : Network) (fetched : Fetch → Bool) (s : Sender) (legs : List Leg) (first : ℕ) (dst : HostId) (payload : List ℕ) (now ts : ℕ)
    → answer t fetched s legs first dst payload now ≡ Ok ts → next_ts s.last now ≡ ts
unfolding answer admitted
answered_ts t fetched s legs first dst payload now ts ok = (unless_ok _ _ ts ok).1

next_bound : (last : Option ℕ) (n : ℕ) → IfSome last (λ ts. ts < NOW + n) → next_ts last NOW < NOW + suc n
next_bound None n h = omega arith
next_bound (Some ts) n h = omega (arith, h)

later : (last : Option ℕ) (n : ℕ) → IfSome last (λ ts. ts < NOW + n) → IfSome last (λ ts. ts < NOW + suc n)
later None n h = h
later (Some ts) n h = omega (arith, h)

-- so many packets have low timestamps, and are no more
pub record IsLow (n : ℕ) (s : Sending) : Type 0 where
  pub last : IfSome s.source.last (λ ts. ts < NOW + n)
  pub few : s.count ≤ n

low_answer : (t : Network) (legs : List Leg) (n : ℕ) (s : Sending) (given : Result ℕ SendError) → IsLow n s → ((ts : ℕ) → given ≡ Ok ts → ts < NOW + suc n)
    → IsLow (suc n) (with_answer t legs s given)
low_answer t legs n s (Ok ts) h below = record { last = below ts refl; few = omega (arith, h.few) }
low_answer t legs n s (Err e) h below = record { last = later s.source.last n h.last; few = omega (arith, h.few) }

low : (t : Network) (fetched : Fetch → Bool) (legs : List Leg) (n : ℕ) → IsLow n (sent t fetched legs n)
unfolding sent sent_one
low t fetched legs zero = record { last = search; few = omega arith }
low t fetched legs (suc n) =
    let s = sent t fetched legs n in
    low_answer t legs n s (answer t fetched s.source legs (first_byte 1 L3) HOST PAYLOAD NOW) (low t fetched legs n)
    (λ ts ok. subst (λ x. x < NOW + suc n) (answered_ts t fetched s.source legs (first_byte 1 L3) HOST PAYLOAD NOW ts ok) (next_bound s.source.last n (low t fetched legs n).last))

open_ts : (last : Option ℕ) (n : ℕ) → n < 2 ^ 32 → IfSome last (λ ts. ts < NOW + n) → IfSome last (λ ts. ts < 2 ^ 63)
open_ts None n small h = h
open_ts (Some ts) n small h = omega (arith, small, h)

pub sent_is_open : (t : Network) (fetched : Fetch → Bool) (legs : List Leg) (n : ℕ) (s : Sending) → s ≡ sent t fetched legs n → n < 2 ^ 32
    → IfSome s.source.last (λ ts. ts < 2 ^ 63)
sent_is_open t fetched legs n s is small =
    open_ts s.source.last n small (subst (λ x. IfSome x.source.last (λ ts. ts < NOW + n)) (sym is) (low t fetched legs n).last)

pub sent_is_few : (t : Network) (fetched : Fetch → Bool) (legs : List Leg) (n : ℕ) (s : Sending) → s ≡ sent t fetched legs n → n < 2 ^ 32
    → s.count < 2 ^ 63
sent_is_few t fetched legs n s is small =
    subst (λ x. x.count < 2 ^ 63) (sym is) (omega (arith, small, (low t fetched legs n).few))

pub sent_next : (t : Network) (fetched : Fetch → Bool) (legs : List Leg) (n : ℕ) (old new : Sending) → old ≡ sent t fetched legs n → new ≡ sent_one t fetched legs old
    → new ≡ sent t fetched legs (n + 1)
unfolding sent
sent_next t fetched legs n old new is one = rw add-one (one ∙ ap (sent_one t fetched legs) is)
