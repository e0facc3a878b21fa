-- The keys of a topology are bytes, and so are the fields that packets carry.
use Rattle.std.proofs.Common.{ℕ, ◌<◌, List, ◌++◌, take, drop, arith}
use Rattle.hex.specs.Hex.{IsBytes as AreBytes}
use Rattle.epic_cmac.specs.Cmac.{cmac}
use Rattle.epic_num.specs.declared.hop.HopName.{HopName}
use Rattle.epic_num.specs.declared.hop.Level.{Level}
use Rattle.epic_num.specs.declared.hop.Level.TheVariants.{L0, L1, L2, L3}
use Rattle.epic_num.specs.declared.key_name.KeyName.{KeyName}
use Rattle.epic_num.specs.declared.key_name.KeyName.TheVariants.{Dest, Field, Fwd}
use Rattle.epic_num.specs.declared.name.AsId.{AsId}
use Rattle.epic_num.specs.BigEndian.{u32_bytes, u64_bytes}
use Rattle.epic_num.specs.Bodies.{IsBody}
use Rattle.epic_num.specs.Levels.{level_of, width_of}
use Rattle.epic_num.specs.Messages.{as_key_message, dest_key_message, field1_message, field23_message, forwarding_message, host_key_message, secret_message}
use Rattle.epic_layout.specs.Contents.{Contents, IsBytes}
use Rattle.epic_layout.specs.Spelling.{dest_message}
use Rattle.epic_topo.specs.Lawful.{IsTopology}
use Rattle.epic_topo.specs.Network.{Network}
use Rattle.epic_keys.specs.Keys.{as_key, dest_key, forwarding_key, host_key, key, master_key, secret_value}
use Rattle.epic_fields.specs.Formulas.{dest_tag, field0, field1, field23, field_part, update_part}
use Rattle.epic_fields.specs.PacketTags.{dest_field_of, dest_name, field_by, field_of, field_over, shared_key, tag_over, update_of, update_over}
use Rattle.epic_fields.specs.Tags.{sigma}
use Rattle.epic_reread.proofs.Bytes.{are_bytes, byte_onto, bytes_onto, high_bytes}
use Rattle.epic_reread.proofs.PacketBytes.{field1_message_is, field23_message_is, is_bytes}
use Rattle.epic_reread.proofs.TagsAreBytes.{cmac_is, dropped, master_is, sigma_is, taken}

-- ---- keys

module _ (t : Network) (topology : IsTopology t) where
  secret_is : (a : AsId) (epoch : ℕ) → AreBytes (secret_value (master_key t a) epoch)
  unfolding secret_value secret_message u64_bytes
  secret_is a epoch =
      cmac_is (master_key t a) (secret_message epoch) (master_is t a topology) (byte_onto 0x53 (u64_bytes epoch) (omega arith) (high_bytes 8 epoch))

  as_key_is : (secret : List ℕ) (a : AsId) → AreBytes secret → AreBytes (as_key secret a)
  unfolding as_key as_key_message u64_bytes
  as_key_is secret a is = cmac_is secret (as_key_message a) is (byte_onto 0x41 (u64_bytes a.0) (omega arith) (high_bytes 8 a.0))

  pub key_is : (k : KeyName) → AreBytes (key t k)
  unfolding key forwarding_key host_key dest_key forwarding_message host_key_message dest_key_message u32_bytes
  key_is (Fwd a g) =
      cmac_is (master_key t a) (forwarding_message g) (master_is t a topology) (byte_onto 0x46 (u32_bytes g) (omega arith) (high_bytes 4 g))
  key_is (Field a src epoch) =
      let secret = secret_value (master_key t a) epoch in
      cmac_is (as_key secret src.asn) (host_key_message src.host) (as_key_is secret src.asn (secret_is a epoch))
      (byte_onto 0x48 (u32_bytes src.host) (omega arith) (high_bytes 4 src.host))
  key_is (Dest dst src epoch) =
      let secret = secret_value (master_key t dst.asn) epoch in
      cmac_is (as_key secret src.asn) (dest_key_message dst.host src.host) (as_key_is secret src.asn (secret_is dst.asn epoch))
      (byte_onto 0x44 (u32_bytes dst.host ++ u32_bytes src.host) (omega arith)
      (bytes_onto (u32_bytes dst.host) (u32_bytes src.host) (high_bytes 4 dst.host) (high_bytes 4 src.host)))

  -- ---- fields of hops

  tag_is : (x : HopName) (p : Contents) (j : ℕ) → IsBody x.body → IsBytes x.body.link → j < 256
      → AreBytes (tag_over (shared_key t x.asn p) (sigma t x) p j)
  unfolding tag_over field23 shared_key
  tag_is x p j body link low =
      cmac_is (shared_key t x.asn p) (field23_message p.first p.ts p.src j (sigma t x)) (key_is _)
      (are_bytes (field23_message p.first p.ts p.src j (sigma t x))
      (field23_message_is p.first p.ts p.src j (sigma t x) low (sigma_is t x topology body link)))

  pub update_is : (x : HopName) (p : Contents) (j : ℕ) → IsBody x.body → IsBytes x.body.link → j < 256 → IsBytes (update_of t x p j)
  unfolding update_of update_over update_part
  update_is x p j body link low =
      let tag = tag_over (shared_key t x.asn p) (sigma t x) p j in
      let w = width_of p.first in
      is_bytes (take w (drop w tag)) (taken w (drop w tag) (dropped w tag (tag_is x p j body link low)))

  pub field_is : (x : HopName) (p : Contents) (j : ℕ) → IsBody x.body → IsBytes x.body.link → j < 256 → IsBytes (field_of t x p j)
  unfolding field_of field_over field_by field0 field1 field_part
  field_is x p j body link low = by (level_of p.first)
    where
      tag : List ℕ
      tag = tag_over (shared_key t x.asn p) (sigma t x) p j

      s : List ℕ
      s = sigma t x

      by : (level : Level) → IsBytes (field_by level (shared_key t x.asn p) (sigma t x) p j)
      by L0 = is_bytes (take 3 s) (taken 3 s (sigma_is t x topology body link))
      by L1 =
          let message = field1_message p.ts p.src j in
          is_bytes (take 3 (cmac s message))
          (taken 3 (cmac s message) (cmac_is s message (sigma_is t x topology body link) (are_bytes message (field1_message_is p.ts p.src j low))))
      by L2 = is_bytes (take (width_of p.first) tag) (taken (width_of p.first) tag (tag_is x p j body link low))
      by L3 = is_bytes (take (width_of p.first) tag) (taken (width_of p.first) tag (tag_is x p j body link low))

  pub dest_field_is : (p : Contents) (updates : List (List ℕ)) → IsBytes (dest_message p updates) → IsBytes (dest_field_of t p updates)
  unfolding dest_field_of dest_tag
  dest_field_is p updates message =
      is_bytes (cmac (key t (dest_name t p)) (dest_message p updates))
      (cmac_is (key t (dest_name t p)) (dest_message p updates) (key_is (dest_name t p)) (are_bytes (dest_message p updates) message))
