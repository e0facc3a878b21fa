-- Private: serves proofs of this crate alone; no public contract cites it.
-- The keys that a router keeps ready.
use Rattle.std.specs.Prelude.{◌≡◌, ℕ, ◌-◌, true, List}
use Rattle.epic_num.specs.declared.name.AsId.{AsId}
use Rattle.epic_num.specs.Levels.{is_tagged}
use Rattle.epic_layout.specs.Contents.{Contents, IsPacket}
use Rattle.epic_topo.specs.Network.{Network}
use Rattle.epic_num.specs.declared.key_name.KeyName.{KeyName}
use Rattle.epic_fields.specs.PacketTags.{field_name, shared_key}
use Rattle.epic_keys.specs.Keys.{master_key}
use Rattle.epic_keys.specs.Ready.{IsKept, Places}

-- a kept forwarding key: the master key that it was made from, and its generation
pub record Numbered : Type 0 where
  pub master : List ℕ
  pub number : ℕ

-- at levels 2 and 3 this is the name of the key that the AS shares with the packet's source, and the key is kept
pub record IsSharedKept (t : Network) (a : AsId) (p : Contents) (places : Places) (name : KeyName) : Type 0 where
  pub name_is : is_tagged p.first ≡ true → name ≡ field_name t a p
  pub kept : is_tagged p.first ≡ true → IsKept places t name

-- at levels 2 and 3 this is the key that the AS shares with the packet's source; at levels 0 and 1 no such key is looked at
pub record IsShared (t : Network) (a : AsId) (p : Contents) (shared : List ℕ) : Type 0 where
  pub key_is : is_tagged p.first ≡ true → shared ≡ shared_key t a p

-- a packet that is within the limits of the layout comes to an AS whose forwarding keys of a generation and of the one before it, and
-- whose shared key, are these
pub record IsReady (t : Network) (a : AsId) (p : Contents) (present previous : Numbered) (shared : List ℕ) : Type 0 where
  pub present_is : present.master ≡ master_key t a
  pub previous_is : previous.master ≡ master_key t a
  pub packet : IsPacket p
  pub before : previous.number ≡ present.number - 1
  pub shared_is : IsShared t a p shared
