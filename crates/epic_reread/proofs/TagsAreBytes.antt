-- The tags of hops are bytes.
use Rattle.std.proofs.Common.{◌≡◌, ℕ, zero, suc, ◌-◌, ◌*◌, ◌==◌, Bool, true, false, cond, List, [], ◌∷◌, ◌++◌, length, take, drop, replicate, Option, Some, None, find, refl, sym, ap, subst, ◌∙◌, arith}
use Rattle.std.specs.Prelude.{⊤, All, unwrap_or, option_map}
use Rattle.std.specs.Simd.{first_chunks}
use Rattle.std.proofs.lemmas.Bool.{cond_both}
use Rattle.std.proofs.lemmas.List.Elements.{All-head, All-tail}
use Rattle.std.proofs.lemmas.Option.{same_Some}
use Rattle.hex.specs.Hex.{IsBytes as AreBytes}
use Rattle.epic_aes.specs.Chain.{block_sum, chain}
use Rattle.epic_aes.specs.Cipher.{aes}
use Rattle.epic_cmac.specs.Cmac.{block_double, blocks, cmac, count_before_last, first_subkey, last_block, padded_block, second_subkey, zero_block}
use Rattle.epic_num.specs.declared.hop.HopName.{HopName}
use Rattle.epic_num.specs.declared.name.AsId.{AsId}
use Rattle.epic_num.specs.Bodies.{body_bytes, IsBody}
use Rattle.epic_num.specs.BigEndian.{u32_bytes}
use Rattle.epic_num.specs.Messages.{authenticator_message, forwarding_message, link_message}
use Rattle.epic_num.specs.Same.{same_as}
use Rattle.epic_gen.proofs.TagBytes.{aes_bytes, block_sum_bytes}
use Rattle.epic_layout.specs.Contents.{IsBytes}
use Rattle.epic_topo.specs.Lawful.{IsSystem, IsTopology}
use Rattle.epic_topo.specs.Network.{Network, master}
use Rattle.epic_topo.specs.declared.network.System.{System}
use Rattle.epic_keys.specs.Keys.{forwarding_key, key, master_key}
use Rattle.epic_fields.specs.Formulas.{authenticator, link_tag}
use Rattle.epic_fields.specs.Tags.{hop_key, link, sigma}
use Rattle.epic_reread.proofs.Bytes.{body_bytes_are, byte_onto, bytes_onto, high_bytes}

-- ---- tags of messages

pub taken : (n : ℕ) (bytes : List ℕ) → AreBytes bytes → AreBytes (take n bytes)
taken zero bytes h i = omega arith
taken (suc n) [] h i = omega arith
taken (suc n) (b ∷ bytes) h i = byte_onto b (take n bytes) (h zero) (taken n bytes (λ j. h (suc j))) i

pub dropped : (n : ℕ) (bytes : List ℕ) → AreBytes bytes → AreBytes (drop n bytes)
dropped zero bytes h = h
dropped (suc n) [] h = λ i. omega arith
dropped (suc n) (b ∷ bytes) h = dropped n bytes (λ j. h (suc j))

pub zeros : (n : ℕ) → AreBytes (replicate n 0)
zeros zero i = omega arith
zeros (suc n) i = byte_onto 0 (replicate n 0) (omega arith) (zeros n) i

abbrev EachBytes : List (List ℕ) → Type 0
EachBytes [] = ⊤
EachBytes (block ∷ more) = AreBytes block × EachBytes more

chained : (k x : List ℕ) (each : List (List ℕ)) → AreBytes k → AreBytes x → EachBytes each → AreBytes (chain k x each)
unfolding chain
chained k x [] key_is is h = is
chained k x (block ∷ more) key_is is h =
    chained k (aes k (block_sum x block)) more key_is (aes_bytes k (block_sum x block) key_is (block_sum_bytes x block is h.0)) h.1

chunks : (count : ℕ) (message last : List ℕ) → AreBytes message → AreBytes last → EachBytes (first_chunks 16 count message ++ last ∷ [])
chunks zero message last h g = (g, tt)
chunks (suc count) message last h g = (taken 16 message h, chunks count (drop 16 message) last (dropped 16 message h) g)

doubled : (block : List ℕ) → AreBytes (block_double block)
unfolding block_double
doubled block = high_bytes 16 _

last_is : (k rest : List ℕ) → AreBytes rest → AreBytes (last_block k rest)
unfolding last_block first_subkey second_subkey
last_is k rest h =
    cond_both (length rest == 16) (block_sum rest (first_subkey k)) (block_sum (padded_block rest) (second_subkey k)) AreBytes
    (λ e. block_sum_bytes rest (first_subkey k) h (doubled (aes k zero_block)))
    (λ e. block_sum_bytes (padded_block rest) (second_subkey k)
    (bytes_onto rest (0x80 ∷ replicate (15 - length rest) 0) h (byte_onto 0x80 (replicate (15 - length rest) 0) (omega arith) (zeros (15 - length rest))))
    (doubled (first_subkey k)))

pub cmac_is : (k message : List ℕ) → AreBytes k → AreBytes message → AreBytes (cmac k message)
unfolding cmac blocks
cmac_is k message key_is h =
    let count = count_before_last message in
    chained k zero_block (blocks k message) key_is (zeros 16)
    (chunks count message (last_block k (drop (16 * count) message)) h (last_is k (drop (16 * count) message) (dropped (16 * count) message h)))

-- ---- keys

found_is : (P : System → Type 0) (test : System → Bool) (xs : List System) → All P xs → (x : System) → find test xs ≡ Some x → P x
found_is P test [] h x e = absurd (cc)
found_is P test (y ∷ ys) h x e = by (found_is P test ys (All-tail P y ys h) x) (test y) refl
  where
    by : (find test ys ≡ Some x → P x) → (b : Bool) → test y ≡ b → P x
    by more true is = subst P (same_Some y x (sym (ap (λ b. cond b (Some y) (find test ys)) is) ∙ e)) (All-head P y ys h)
    by more false is = more (sym (ap (λ b. cond b (Some y) (find test ys)) is) ∙ e)

pub master_is : (t : Network) (a : AsId) → IsTopology t → AreBytes (master_key t a)
unfolding master_key master
master_is t a ok = by (find (λ s. same_as s.asn a) t.systems) refl
  where
    by : (o : Option System) → find (λ s. same_as s.asn a) t.systems ≡ o → AreBytes (unwrap_or (option_map (λ s. s.master) o) [])
    by None e = λ i. omega arith
    by (Some s) e = (found_is IsSystem (λ r. same_as r.asn a) t.systems ok.each_system s e).bytes

hop_key_is : (t : Network) (x : HopName) → IsTopology t → AreBytes (hop_key t x)
unfolding hop_key key forwarding_key forwarding_message u32_bytes
hop_key_is t x ok =
    cmac_is (master_key t x.asn) (forwarding_message x.generation) (master_is t x.asn ok)
    (byte_onto 0x46 (u32_bytes x.generation) (omega arith) (high_bytes 4 x.generation))

-- ---- tags of hops

pub sigma_is : (t : Network) (x : HopName) → IsTopology t → IsBody x.body → IsBytes x.body.link → AreBytes (sigma t x)
unfolding sigma authenticator authenticator_message
sigma_is t x ok body bytes =
    cmac_is (hop_key t x) (authenticator_message x.body) (hop_key_is t x ok)
    (byte_onto 0x01 (body_bytes x.body) (omega arith) (body_bytes_are x.body body bytes))

pub link_is : (t : Network) (x : HopName) → IsTopology t → IsBody x.body → IsBytes x.body.link → AreBytes (link t x)
unfolding link link_tag link_message
link_is t x ok body bytes =
    taken 8 (cmac (hop_key t x) (link_message x.body))
    (cmac_is (hop_key t x) (link_message x.body) (hop_key_is t x ok)
    (byte_onto 0x02 (body_bytes x.body) (omega arith) (body_bytes_are x.body body bytes)))
