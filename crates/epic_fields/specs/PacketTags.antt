-- The tags that a packet carries: over given authenticators and keys, and over those of a topology.
use Rattle.std.specs.Prelude.{ℕ, List}
use Rattle.epic_num.specs.declared.hop.HopName.{HopName}
use Rattle.epic_num.specs.declared.hop.Level.{Level}
use Rattle.epic_num.specs.declared.hop.Level.TheVariants.{L0, L1, L2, L3}
use Rattle.epic_num.specs.declared.key_name.KeyName.{KeyName}
use Rattle.epic_num.specs.declared.key_name.KeyName.TheVariants.{Field, Dest}
use Rattle.epic_num.specs.declared.name.AsId.{AsId}
use Rattle.epic_num.specs.Levels.{level_of}
use Rattle.epic_num.specs.Messages.{field23_message}
use Rattle.epic_num.specs.Moments.{epoch_of}
use Rattle.epic_layout.specs.Contents.{Contents}
use Rattle.epic_topo.specs.Network.{Network}
use Rattle.epic_keys.specs.Keys.{key}
use Rattle.epic_fields.specs.Formulas.{field0, field1, field23, field_part, update_part, dest_tag}
use Rattle.epic_fields.specs.Tags.{sigma}

-- ---- over a hop's authenticator, and the key that the hop's AS shares with the packet's source

-- what the tag of hop j is made over, at levels 2 and 3
unfoldable pub message_over : List ℕ → Contents → ℕ → List ℕ
message_over authenticator p j = field23_message p.first p.ts p.src j authenticator

-- the tag
unfoldable pub tag_over : List ℕ → List ℕ → Contents → ℕ → List ℕ
tag_over shared authenticator p j = field23 shared p.first p.ts p.src j authenticator

-- the field of hop j, by the packet's level; at levels 0 and 1 no key is looked at
unfoldable pub field_by : Level → List ℕ → List ℕ → Contents → ℕ → List ℕ
field_by L0 shared authenticator p j = field0 authenticator
field_by L1 shared authenticator p j = field1 authenticator p.ts p.src j
field_by L2 shared authenticator p j = field_part p.first (tag_over shared authenticator p j)
field_by L3 shared authenticator p j = field_part p.first (tag_over shared authenticator p j)

unfoldable pub field_over : List ℕ → List ℕ → Contents → ℕ → List ℕ
field_over shared authenticator p j = field_by (level_of p.first) shared authenticator p j

-- the update that the hop's router puts in its place at level 3
unfoldable pub update_over : List ℕ → List ℕ → Contents → ℕ → List ℕ
update_over shared authenticator p j = update_part p.first (tag_over shared authenticator p j)

-- ---- under the keys of a topology

-- the name of the key that an AS shares with the packet's source
unfoldable pub field_name : Network → AsId → Contents → KeyName
field_name t asn p = Field asn p.src (epoch_of t.profile p.ts)

-- the name of the key that the packet's destination shares with its source
unfoldable pub dest_name : Network → Contents → KeyName
dest_name t p = Dest p.dst p.src (epoch_of t.profile p.ts)

-- that key of the AS
unfoldable pub shared_key : Network → AsId → Contents → List ℕ
shared_key t asn p = key t (field_name t asn p)

-- the same where hop j has this name
unfoldable pub hop_message : Network → HopName → Contents → ℕ → List ℕ
hop_message t x p j = message_over (sigma t x) p j

unfoldable pub hop_tag : Network → HopName → Contents → ℕ → List ℕ
hop_tag t x p j = tag_over (shared_key t x.asn p) (sigma t x) p j

unfoldable pub field_of : Network → HopName → Contents → ℕ → List ℕ
field_of t x p j = field_over (shared_key t x.asn p) (sigma t x) p j

unfoldable pub update_of : Network → HopName → Contents → ℕ → List ℕ
update_of t x p j = update_over (shared_key t x.asn p) (sigma t x) p j

-- the packet's destination field over these updates
unfoldable pub dest_field_of : Network → Contents → List (List ℕ) → List ℕ
dest_field_of t p updates = dest_tag (key t (dest_name t p)) p updates
