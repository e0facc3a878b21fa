-- What the holders of keys made: the messages of fields and destination fields that a source sent tags of, and those that
-- routers gave out updates of.
use Rattle.std.specs.Prelude.{◌≡◌, ℕ, true, List, [], map, slice_get, Some}
use Rattle.std.specs.List.{range_with_len}
use Rattle.std.specs.Option.{option_map_or}
use Rattle.epic_num.specs.declared.hop.HopName.{HopName}
use Rattle.epic_num.specs.declared.name.AsId.{AsId}
use Rattle.epic_num.specs.declared.name.HostId.{HostId}
use Rattle.epic_num.specs.Chains.{Issue}
use Rattle.epic_num.specs.Levels.{is_tagged}
use Rattle.epic_num.specs.Moments.{epoch_of}
use Rattle.epic_layout.specs.Contents.{hop_count}
use Rattle.epic_layout.specs.Spelling.{dest_message, update_count}
use Rattle.epic_topo.specs.Network.{Network}
use Rattle.epic_fields.specs.PacketTags.{hop_message, update_of}
use Rattle.epic_ledger.specs.Facts.{Facts, Sent, Pass, pass_name, sent_name}
use Rattle.epic_num.specs.Levels.{is_updated}

-- the source at hand sent, in this epoch, a packet of level 2 or 3 over a hop of this AS, for which this is the message
pub record IsMadeField (t : Network) (f : Facts) (asn : AsId) (src : HostId) (epoch : ℕ) (message : List ℕ) : Type 0 where
  pub index : ℕ
  pub send : Sent
  pub hop : ℕ
  pub name : HopName
  pub there : slice_get f.sends index ≡ Some send
  pub src_is : send.packet.src ≡ src
  pub tagged : is_tagged send.packet.first ≡ true
  pub epoch_is : epoch_of t.profile send.packet.ts ≡ epoch
  pub named : sent_name f.issues send hop ≡ Some name
  pub asn_is : name.asn ≡ asn
  pub message_is : hop_message t name send.packet hop ≡ message

-- the update that the router of a sent packet's hop is to give out, by its formula
unfoldable pub sent_update : Network → List Issue → Sent → ℕ → List ℕ
sent_update t issues s j = option_map_or (λ x. update_of t x s.packet j) (sent_name issues s j) []

-- those over which the source made the destination field: one for each hop at level 3, none at level 2
unfoldable pub sent_updates : Network → List Issue → Sent → List (List ℕ)
sent_updates t issues s =
    map (sent_update t issues s) (range_with_len 0 (update_count s.packet.first (hop_count s.packet)))

-- the source sent, in this epoch, a packet of level 2 or 3 to this destination, for which this is the message
pub record IsMadeDest (t : Network) (f : Facts) (dst src : HostId) (epoch : ℕ) (message : List ℕ) : Type 0 where
  pub index : ℕ
  pub send : Sent
  pub there : slice_get f.sends index ≡ Some send
  pub src_is : send.packet.src ≡ src
  pub dst_is : send.packet.dst ≡ dst
  pub tagged : is_tagged send.packet.first ≡ true
  pub epoch_is : epoch_of t.profile send.packet.ts ≡ epoch
  pub message_is : dest_message send.packet (sent_updates t f.issues send) ≡ message

-- a router of this AS accepted, in this epoch, a hop of a level 3 packet of the source, for which this is the message
pub record IsGivenOut (t : Network) (passes : List Pass) (asn : AsId) (src : HostId) (epoch : ℕ) (message : List ℕ) : Type 0 where
  pub index : ℕ
  pub pass : Pass
  pub there : slice_get passes index ≡ Some pass
  pub asn_is : pass.asn ≡ asn
  pub src_is : pass.packet.src ≡ src
  pub level : is_updated pass.packet.first ≡ true
  pub epoch_is : epoch_of t.profile pass.packet.ts ≡ epoch
  pub message_is : hop_message t (pass_name pass) pass.packet pass.hop ≡ message
