-- The commands of a generated script, by their places.
use Rattle.std.proofs.Common.{◌≡◌, ℕ, zero, suc, ◌+◌, ◌-◌, ◌*◌, ◌/◌, ◌%◌, ◌<◌, ◌≤◌, List, [], ◌∷◌, ◌++◌, length, length-append, flat_map, Option, Some, refl, ap, sym, ◌∙◌, arith}
use Rattle.std.specs.List.{All, range_with_len, slice_get}
use Rattle.std.proofs.lemmas.List.Elements.{All-append, All-nil}
use Rattle.epic_num.specs.declared.command.Command.{Command}
use Rattle.epic_gen.specs.Script.{generated, head_commands, packet_commands}

-- ---- places

same_place : (seed m p i j : ℕ) → m ≡ p → i ≡ j
    → slice_get (packet_commands seed m) i ≡ slice_get (packet_commands seed p) j
same_place seed m p i j e f = λ x. slice_get (packet_commands seed (e x)) (f x)

-- the commands of packets
packets_at : (seed a n k : ℕ) → k < 3 * n
    → slice_get (flat_map (packet_commands seed) (range_with_len a n)) k ≡ slice_get (packet_commands seed (a + k / 3)) (k % 3)
unfolding packet_commands
packets_at seed a zero k low = absurd (omega arith)
packets_at seed a (suc n) zero low = same_place seed a (a + 0 / 3) 0 (0 % 3) (omega arith) (omega arith)
packets_at seed a (suc n) (suc zero) low = same_place seed a (a + 1 / 3) 1 (1 % 3) (omega arith) (omega arith)
packets_at seed a (suc n) (suc (suc zero)) low = same_place seed a (a + 2 / 3) 2 (2 % 3) (omega arith) (omega arith)
packets_at seed a (suc n) (suc (suc (suc k))) low =
    packets_at seed (a + 1) n k (omega arith)
    ∙ same_place seed (a + 1 + k / 3) (a + suc (suc (suc k)) / 3) (k % 3) (suc (suc (suc k)) % 3) (omega arith) (omega arith)

behind_front : (xs ys : List Command) (k : ℕ) → length xs ≤ k → slice_get (xs ++ ys) k ≡ slice_get ys (k - length xs)
behind_front [] ys k past = ap (slice_get ys) (omega arith)
behind_front (x ∷ xs) ys zero past = absurd (omega arith)
behind_front (x ∷ xs) ys (suc k) past = behind_front xs ys k (omega arith) ∙ ap (slice_get ys) (omega arith)

in_front : (xs ys : List Command) (k : ℕ) → k < length xs → slice_get (xs ++ ys) k ≡ slice_get xs k
in_front [] ys k low = absurd (omega arith)
in_front (x ∷ xs) ys zero low = refl
in_front (x ∷ xs) ys (suc k) low = in_front xs ys k (omega arith)

few_head : (k : ℕ) → k < 14 → k < length head_commands
unfolding head_commands
few_head k low = low

pub head_at : (seed packets k : ℕ) → k < 14 → slice_get (generated seed packets) k ≡ slice_get head_commands k
unfolding generated
head_at seed packets k low = in_front head_commands (flat_map (packet_commands seed) (range_with_len 0 packets)) k (few_head k low)

pub packet_at : (seed packets k : ℕ) → 14 ≤ k → k < 14 + 3 * packets
    → slice_get (generated seed packets) k ≡ slice_get (packet_commands seed ((k - 14) / 3)) ((k - 14) % 3)
unfolding generated head_commands
packet_at seed packets k past low =
    behind_front head_commands (flat_map (packet_commands seed) (range_with_len 0 packets)) k past
    ∙ (packets_at seed 0 packets (k - 14) (omega arith)
    ∙ same_place seed (0 + (k - 14) / 3) ((k - 14) / 3) ((k - 14) % 3) ((k - 14) % 3) (omega arith) refl)

-- ---- how many there are

length-packets : (seed a n : ℕ) → length (flat_map (packet_commands seed) (range_with_len a n)) ≡ 3 * n
unfolding packet_commands
length-packets seed a zero = refl
length-packets seed a (suc n) = omega (arith, length-packets seed (a + 1) n)

pub length-generated : (seed packets : ℕ) → length (generated seed packets) ≡ 14 + 3 * packets
unfolding generated head_commands
length-generated seed packets = omega (arith, length-packets seed 0 packets)

-- ---- what holds of each

packets_all : (P : Command → Type 0) (seed a n : ℕ) → ((k : ℕ) → k < a + n → All P (packet_commands seed k))
    → All P (flat_map (packet_commands seed) (range_with_len a n))
packets_all P seed a zero each = All-nil P
packets_all P seed a (suc n) each =
    All-append P (packet_commands seed a) (flat_map (packet_commands seed) (range_with_len (a + 1) n))
    (each a (omega arith)) (packets_all P seed (a + 1) n (λ k low. each k (omega arith)))

pub generated_all : (P : Command → Type 0) (seed packets : ℕ) → All P head_commands
    → ((k : ℕ) → k < packets → All P (packet_commands seed k)) → All P (generated seed packets)
unfolding generated
generated_all P seed packets head each =
    All-append P head_commands (flat_map (packet_commands seed) (range_with_len 0 packets)) head
    (packets_all P seed 0 packets (λ k low. each k (omega arith)))
