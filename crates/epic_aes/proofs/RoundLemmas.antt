-- The rounds and the round keys, one step at a time.
use Rattle.std.proofs.Common.{◌≡◌, ℕ, suc, ◌+◌, ◌%◌, ◌<◌, List, [], get_or, ap, sym, subst, ◌∙◌, refl, arith}
use Rattle.std.proofs.lemmas.List.FromFn.{get_or-map-range_with_len}
use Rattle.epic_aes.specs.Cipher.{add_round_key, round, last_round, next_key, round_constant, round_key, after_rounds, aes}
use Rattle.epic_aes.specs.Keys.{lanes_at, first_key, HasRoundKeys}
use Rattle.epic_aes.specs.Lanes.{key_of, rounds_of_key}
use Rattle.epic_aes.specs.declared.cipher.RoundKey.{RoundKey}

-- vector i + 1 holds round key i + 1
pub key_at : (keys : List RoundKey) (i : ℕ) → HasRoundKeys keys → i < 10 →
    key_of (rounds_of_key (1 + i)) (lanes_at keys (1 + i)) ≡ round_key (first_key keys) (1 + i)
key_at keys i held below =
    sym (get_or-map-range_with_len (λ r. key_of (rounds_of_key r) (lanes_at keys r)) 1 10 i (1 + i) [] below refl)
    ∙ ap (λ list. get_or list i []) held
    ∙ get_or-map-range_with_len (round_key (first_key keys)) 1 10 i (1 + i) [] below refl

-- as the round after n rounds takes it
pub key_after : (keys : List RoundKey) (n : ℕ) → HasRoundKeys keys → n < 9 →
    key_of (n + 1) (lanes_at keys (n + 1)) ≡ round_key (first_key keys) (n + 1)
key_after keys n held below =
    let within : n < 10 = omega arith in
    let turned : 1 + n ≡ n + 1 = omega arith in
    let small : (n + 1) % 10 ≡ n + 1 = omega arith in
    subst (λ r. key_of r (lanes_at keys (n + 1)) ≡ round_key (first_key keys) (n + 1)) small
    (subst (λ r. key_of (rounds_of_key r) (lanes_at keys r) ≡ round_key (first_key keys) r) turned (key_at keys n held within))

pub next-key : (key : List ℕ) (r x : ℕ) (k next : List ℕ) →
    k ≡ round_key key r → x ≡ round_constant r → next ≡ next_key k x → next ≡ round_key key (suc r)
unfolding round_key
next-key key r x k next held constant step = step ∙ (λ i. next_key (held i) (constant i))

pub first-sum : (key block s : List ℕ) → s ≡ add_round_key block key → s ≡ after_rounds key block 0
unfolding after_rounds round_key
first-sum key block s step = step

pub next-round : (key block : List ℕ) (r : ℕ) (s k t : List ℕ) →
    s ≡ after_rounds key block r → k ≡ round_key key (suc r) → t ≡ round s k → t ≡ after_rounds key block (suc r)
unfolding after_rounds
next-round key block r s k t before held step = step ∙ (λ i. round (before i) (held i))

pub round-after : (key block : List ℕ) (n : ℕ) (s k t : List ℕ) →
    s ≡ after_rounds key block n → k ≡ round_key key (n + 1) → t ≡ round s k → t ≡ after_rounds key block (n + 1)
round-after key block n s k t before held step =
    let next : suc n ≡ n + 1 = omega arith in
    subst (λ r. t ≡ after_rounds key block r) next
    (next-round key block n s k t before (subst (λ r. k ≡ round_key key r) (sym next) held) step)

pub last-round : (key block s k t : List ℕ) →
    s ≡ after_rounds key block 9 → k ≡ round_key key 10 → t ≡ last_round s k → t ≡ aes key block
unfolding aes
last-round key block s k t before held step = step ∙ (λ i. last_round (before i) (held i))
