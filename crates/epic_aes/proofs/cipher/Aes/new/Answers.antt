use Rattle.std.proofs.Common.{◌≡◌, [], ◌∷◌, refl, ◌∙◌}
use Rattle.epic_aes.specs.Field.{double}
use Rattle.epic_aes.specs.Cipher.{round_constant, round_key}
use Rattle.epic_aes.specs.Lanes.{state_of}
use Rattle.epic_aes.proofs.RoundLemmas.{next-key}
use Rattle.epic_aes.proofs.cipher.Aes.new.Goals as goal

pub invariant_of-result : goal.invariant_of-result
unfolding double round_constant round_key
invariant_of-result c =
    let key = state_of 0 c.enter-key0.result in
    let key0 : key ≡ round_key key 0 = refl in
    let key1 : state_of 0 c.next_key-key1.result ≡ round_key key 1 =
    next-key key 0 0x01 _ _ key0 refl c.next_key-key1.ensures in
    let key2 : state_of 0 c.next_key-key2.result ≡ round_key key 2 =
    next-key key 1 0x02 _ _ key1 refl c.next_key-key2.ensures in
    let key3 : state_of 0 c.next_key-key3.result ≡ round_key key 3 =
    next-key key 2 0x04 _ _ key2 refl c.next_key-key3.ensures in
    let key4 : state_of 0 c.next_key-key4.result ≡ round_key key 4 =
    next-key key 3 0x08 _ _ key3 refl c.next_key-key4.ensures in
    let key5 : state_of 0 c.next_key-key5.result ≡ round_key key 5 =
    next-key key 4 0x10 _ _ key4 refl c.next_key-key5.ensures in
    let key6 : state_of 0 c.next_key-key6.result ≡ round_key key 6 =
    next-key key 5 0x20 _ _ key5 refl c.next_key-key6.ensures in
    let key7 : state_of 0 c.next_key-key7.result ≡ round_key key 7 =
    next-key key 6 0x40 _ _ key6 refl c.next_key-key7.ensures in
    let key8 : state_of 0 c.next_key-key8.result ≡ round_key key 8 =
    next-key key 7 0x80 _ _ key7 refl c.next_key-key8.ensures in
    let key9 : state_of 0 c.next_key-key9.result ≡ round_key key 9 =
    next-key key 8 0x1b _ _ key8 refl c.next_key-key9.ensures in
    let key10 : state_of 0 c.next_key-key10.result ≡ round_key key 10 =
    next-key key 9 0x36 _ _ key9 refl c.next_key-key10.ensures in
    λ i. (c.round_key.ensures ∙ key1) i ∷ (c.round_key-2.ensures ∙ key2) i ∷ (c.round_key-3.ensures ∙ key3) i ∷ (c.round_key-4.ensures ∙ key4) i ∷ (c.round_key-5.ensures ∙ key5) i ∷ (c.round_key-6.ensures ∙ key6) i ∷ (c.round_key-7.ensures ∙ key7) i ∷ (c.round_key-8.ensures ∙ key8) i ∷ (c.round_key-9.ensures ∙ key9) i ∷ (c.round_key-10.ensures ∙ key10) i ∷ []
