-- The tags of a hop by the packet's level, and what they look at.
use Rattle.std.proofs.Common.{◌≡◌, ℕ, true, false, inl, inr, List, ◌∷◌, ◌++◌, length, ◌∙◌, ap, refl}
use Rattle.std.specs.List.{concat}
use Rattle.epic_cmac.specs.Cmac.{cmac}
use Rattle.epic_num.specs.declared.hop.HopName.{HopName}
use Rattle.epic_num.specs.declared.hop.Level.{Level}
use Rattle.epic_num.specs.declared.hop.Level.TheVariants.{L0, L1, L2, L3}
use Rattle.epic_num.specs.Levels.{is_first_byte, is_tagged, level_of, width_of}
use Rattle.epic_num.specs.BigEndian.{u16_bytes, u64_bytes}
use Rattle.epic_num.specs.Messages.{host_bytes, dest_domain, field23_message}
use Rattle.epic_num.specs.Moments.{epoch_of}
use Rattle.epic_num.specs.declared.key_name.KeyName.TheVariants.{Field, Dest}
use Rattle.epic_num.proofs.LevelLaws.{at_first, untagged}
use Rattle.epic_num.proofs.MessageLaws.{at_tagged}
use Rattle.epic_layout.specs.Contents.{Contents}
use Rattle.epic_layout.specs.Spelling.{SameDestContent, path_bytes, dest_message}
use Rattle.epic_topo.specs.Network.{Network}
use Rattle.epic_keys.specs.Keys.{key}
use Rattle.epic_fields.specs.Formulas.{field0, field1, field23, field_part, update_part, dest_tag}
use Rattle.epic_fields.specs.Laws.{SameStamp, TagsLookAtStamp, FormulasLookAtStamp, DestFieldsLookAtContent}
use Rattle.epic_fields.specs.PacketTags.{message_over, tag_over, field_by, field_over, update_over, field_name, dest_name, shared_key, hop_message, hop_tag, field_of, update_of, dest_field_of}
use Rattle.epic_fields.specs.Tags.{sigma}

-- ---- by levels

pub field_over-tagged : (shared s : List ℕ) (p : Contents) (j : ℕ) → is_tagged p.first ≡ true
    → field_over shared s p j ≡ field_part p.first (tag_over shared s p j)
unfolding field_over field_by level_of
field_over-tagged shared s p j tagged =
    at_tagged (λ first. field_by (level_of first) shared s p j ≡ field_part p.first (tag_over shared s p j)) refl refl refl refl p.first tagged

pub field_over-level : (level : Level) (shared s : List ℕ) (p : Contents) (j : ℕ) → level_of p.first ≡ level
    → field_over shared s p j ≡ field_by level shared s p j
unfolding field_over
field_over-level level shared s p j e = ap (λ l. field_by l shared s p j) e

-- fields without a shared key are of three bytes
pub untagged_width : (first : ℕ) → is_first_byte first ≡ true → is_tagged first ≡ false → width_of first ≡ 3
unfolding is_tagged width_of
untagged_width =
    at_first (λ f. is_tagged f ≡ false → width_of f ≡ 3)
    (λ h. refl) (λ h. refl) (λ h. absurd (cc)) (λ h. absurd (cc)) (λ h. absurd (cc)) (λ h. absurd (cc))

-- one of them that isn't of level 0 is of level 1
pub level_1 : (first : ℕ) → is_first_byte first ≡ true → is_tagged first ≡ false → (level_of first ≡ L0 → ⊥) → level_of first ≡ L1
level_1 first known free not_0 = elim (untagged first known free) [ inl e ↦ absurd (not_0 e) | inr e ↦ e ]

pub field_of-tagged : (t : Network) (x : HopName) (p : Contents) (j : ℕ) → is_tagged p.first ≡ true
    → field_of t x p j ≡ field_part p.first (hop_tag t x p j)
unfolding field_of hop_tag
field_of-tagged t x p j tagged = field_over-tagged (shared_key t x.asn p) (sigma t x) p j tagged

-- ---- what they look at

tag_stamp : (shared s : List ℕ) (p q : Contents) (j : ℕ) → SameStamp p q → tag_over shared s p j ≡ tag_over shared s q j
unfolding tag_over
tag_stamp shared s p q j e i = field23 shared (e.first i) (e.ts i) (e.src i) j s

by_level : (level : Level) (shared s : List ℕ) (p q : Contents) (j : ℕ) → SameStamp p q → field_by level shared s p j ≡ field_by level shared s q j
unfolding field_by
by_level L0 shared s p q j e i = field0 s
by_level L1 shared s p q j e i = field1 s (e.ts i) (e.src i) j
by_level L2 shared s p q j e i = field_part (e.first i) (tag_stamp shared s p q j e i)
by_level L3 shared s p q j e i = field_part (e.first i) (tag_stamp shared s p q j e i)

pub field_over-stamp : (shared s : List ℕ) (p q : Contents) (j : ℕ) → SameStamp p q → field_over shared s p j ≡ field_over shared s q j
unfolding field_over
field_over-stamp shared s p q j e = by_level (level_of p.first) shared s p q j e ∙ ap (λ first. field_by (level_of first) shared s q j) e.first

pub update_over-stamp : (shared s : List ℕ) (p q : Contents) (j : ℕ) → SameStamp p q → update_over shared s p j ≡ update_over shared s q j
unfolding update_over
update_over-stamp shared s p q j e i = update_part (e.first i) (tag_stamp shared s p q j e i)

key_stamp : (t : Network) (x : HopName) (p q : Contents) → SameStamp p q → shared_key t x.asn p ≡ shared_key t x.asn q
unfolding shared_key field_name
key_stamp t x p q e i = key t (Field x.asn (e.src i) (epoch_of t.profile (e.ts i)))

pub tags_stamp : TagsLookAtStamp
unfolding hop_message message_over field_of update_of
tags_stamp t x p q j e = record {
  message = λ i. field23_message (e.first i) (e.ts i) (e.src i) j (sigma t x);
  field = field_over-stamp (shared_key t x.asn p) (sigma t x) p q j e ∙ ap (λ k. field_over k (sigma t x) q j) (key_stamp t x p q e);
  update = update_over-stamp (shared_key t x.asn p) (sigma t x) p q j e ∙ ap (λ k. update_over k (sigma t x) q j) (key_stamp t x p q e);
}

pub formulas_stamp : FormulasLookAtStamp
formulas_stamp shared s p q j e = (field_over-stamp shared s p q j e, update_over-stamp shared s p q j e)

pub dest_stamp : DestFieldsLookAtContent
unfolding dest_field_of dest_name dest_tag dest_message
dest_stamp t p q us vs e i =
    cmac (key t (Dest (e.same_dst i) (e.same_src i) (epoch_of t.profile (e.same_ts i))))
    (dest_domain (e.same_first i)
    ∷ (u64_bytes (e.same_ts i)
    ++ (host_bytes (e.same_src i)
    ++ (host_bytes (e.same_dst i)
    ++ (path_bytes (e.same_route i)
    ++ (concat (e.same_updates i)
    ++ (u16_bytes (length (e.same_payload i)) ++ e.same_payload i)))))))
