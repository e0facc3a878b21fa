-- Private: serves proofs of this crate alone; no public contract cites it.
-- A packet that passes a hop, with what the hop's router puts in its field's place.
use Rattle.std.specs.Prelude.{◌≡◌, ℕ, true, if◌then◌else◌, List}
use Rattle.epic_num.specs.declared.hop.Field.{Field}
use Rattle.epic_num.specs.declared.name.AsId.{AsId}
use Rattle.epic_num.specs.Levels.{is_updated, width_of}
use Rattle.epic_layout.specs.Contents.{Contents, advanced, as_field, with_field}
use Rattle.epic_topo.specs.Network.{Network}
use Rattle.epic_fields.specs.HopChecks.{hop_name}
use Rattle.epic_fields.specs.PacketTags.{update_of}

-- the packet with this in the place of its current hop's field, at level 3 alone
unfoldable pub updated_by : List ℕ → Contents → Contents
updated_by update p = if is_updated p.first then with_field p p.current update else p

-- and past this hop
unfoldable pub passed : List ℕ → Contents → Contents
passed update p = advanced (updated_by update p) 1

-- at level 3 this is the update of hop j at an AS, under a generation of its forwarding key; at other levels it is anything
abbrev pub IsUpdate : Network → AsId → ℕ → Contents → ℕ → Field → Type 0
IsUpdate t a generation p j update = is_updated p.first ≡ true → update ≡ as_field (update_of t (hop_name a generation p j) p j)

-- at level 3 it is as wide as the packet's fields
abbrev pub HasWidth : Contents → Field → Type 0
HasWidth p update = is_updated p.first ≡ true → update.width ≡ width_of p.first
