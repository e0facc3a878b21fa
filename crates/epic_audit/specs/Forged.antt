-- Forged tags: the tag that stands in the packet is right under a key, and no holder of the key made it. Here `x` is the
-- name of hop j of the packet.
use Rattle.std.specs.Prelude.{◌≡◌, ℕ, true, List, Some, slice_get}
use Rattle.epic_num.specs.declared.hop.HopName.{HopName}
use Rattle.epic_num.specs.declared.key_name.Holder.TheVariants.{As}
use Rattle.epic_num.specs.Chains.{Issue, issue_at}
use Rattle.epic_num.specs.Holders.{holders}
use Rattle.epic_num.specs.Levels.{is_tagged}
use Rattle.epic_num.specs.Moments.{epoch_of}
use Rattle.epic_layout.specs.Contents.{Contents, field}
use Rattle.epic_layout.specs.Spelling.{path_bytes, dest_message}
use Rattle.epic_topo.specs.Network.{Network}
use Rattle.epic_fields.specs.Tags.{sigma}
use Rattle.epic_fields.specs.Formulas.{field_part}
use Rattle.epic_fields.specs.PacketTags.{field_name, dest_name, hop_tag, field_of, update_of, dest_field_of}
use Rattle.epic_ledger.specs.Facts.{Facts, Sent, sent_name}
use Rattle.epic_num.specs.Levels.{is_updated, is_timed}
use Rattle.epic_audit.specs.Clauses.{IsIssued}
use Rattle.epic_fields.specs.PacketTags.{hop_message}
use Rattle.epic_audit.specs.Made.{IsMadeField, IsMadeDest, IsGivenOut}
use Rattle.epic_layout.specs.Updates.{own_updates}
use Rattle.epic_audit.specs.Reveals.{IsRevealed, NoneRevealed}

-- the field is that of a hop which its AS never issued; at levels 1 to 3 nobody was given the authenticator either
pub record IsForgedIssue (t : Network) (f : Facts) (x : HopName) (p : Contents) (j : ℕ) : Type 0 where
  pub not_issued : IsIssued f.issues x → ⊥
  pub not_revealed : IsRevealed f.reveals (As x.asn) → ⊥
  pub field_is : field p j ≡ field_of t x p j
  pub not_given : is_timed p.first ≡ true → (number : ℕ) (i : Issue) → issue_at f.issues number ≡ Some i
      → i.name.asn ≡ x.asn → sigma t i.name ≡ sigma t x → ⊥

-- the field is that of the packet and the hop, and its message was never sent
pub record IsForgedField (t : Network) (f : Facts) (x : HopName) (p : Contents) (j : ℕ) : Type 0 where
  pub tagged : is_tagged p.first ≡ true
  pub field_is : field p j ≡ field_part p.first (hop_tag t x p j)
  pub not_made : IsMadeField t f x.asn p.src (epoch_of t.profile p.ts) (hop_message t x p j) → ⊥
  pub not_revealed : NoneRevealed f.reveals (holders (field_name t x.asn p))

-- this is the one packet that p's source sent with p's timestamp
pub record IsOnlySend (sends : List Sent) (p : Contents) (s : Sent) : Type 0 where
  pub index : ℕ
  pub there : slice_get sends index ≡ Some s
  pub src_is : s.packet.src ≡ p.src
  pub ts_is : s.packet.ts ≡ p.ts
  pub alone : (n : ℕ) (other : Sent) → slice_get sends n ≡ Some other → other.packet.src ≡ p.src → other.packet.ts ≡ p.ts
      → n ≡ index

-- the field is the update of a hop that the source sent the packet over, and no router of the hop's AS gave it out
pub record IsForgedUpdate (t : Network) (f : Facts) (x : HopName) (p : Contents) (j : ℕ) : Type 0 where
  pub level : is_updated p.first ≡ true
  pub send : Sent
  pub only : IsOnlySend f.sends p send
  pub first_is : send.packet.first ≡ p.first
  pub path_is : path_bytes send.packet.route ≡ path_bytes p.route
  pub named : sent_name f.issues send j ≡ Some x
  pub field_is : field p j ≡ update_of t x p j
  pub not_given_out : IsGivenOut t f.passes x.asn p.src (epoch_of t.profile p.ts) (hop_message t x p j) → ⊥
  pub not_revealed : NoneRevealed f.reveals (holders (field_name t x.asn p))

-- the destination field is that of the packet, and its message was never sent
pub record IsForgedDest (t : Network) (f : Facts) (p : Contents) : Type 0 where
  pub tagged : is_tagged p.first ≡ true
  pub dest_field_is : p.dest_field ≡ dest_field_of t p (own_updates p)
  pub not_made : IsMadeDest t f p.dst p.src (epoch_of t.profile p.ts) (dest_message p (own_updates p)) → ⊥
  pub not_revealed : NoneRevealed f.reveals (holders (dest_name t p))
