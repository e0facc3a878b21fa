-- The messages over which sources made fields, and over which routers gave out updates.
use Rattle.std.specs.Prelude.{ℕ, Bool, ◌&&◌, ◌==◌, bytes_eq, List, [], ◌∷◌, IsTrue, if◌then◌else◌}
use Rattle.std.specs.List.{All, flat_map, range_with_len}
use Rattle.std.specs.Option.{option_map_or}
use Rattle.epic_num.specs.Chains.{Issue}
use Rattle.epic_num.specs.Levels.{is_tagged, is_updated}
use Rattle.epic_num.specs.Moments.{epoch_of}
use Rattle.epic_num.specs.declared.hop.HopName.{HopName}
use Rattle.epic_num.specs.declared.name.AsId.{AsId}
use Rattle.epic_num.specs.declared.name.HostId.{HostId}
use Rattle.epic_layout.specs.Contents.{Contents, hop_count}
use Rattle.epic_topo.specs.Network.{Network, has}
use Rattle.epic_fields.specs.PacketTags.{hop_message}
use Rattle.epic_ledger.specs.Facts.{Sent, Pass, as_send, as_pass, pass_name, sent_name}
use Rattle.epic_ledger.specs.History.{Emission}
use Rattle.epic_ledger.specs.declared.event.Event.{Event}
use Rattle.epic_index.specs.declared.fields.FieldKey.{FieldKey}

-- a message under the key that an AS shares with a source in an epoch
unfoldable pub field_key : AsId → HostId → ℕ → List ℕ → FieldKey
field_key a src epoch message = record { asn = a.0; source = src.asn.0; host = src.host; epoch = epoch; message = message }

abbrev pub field_eq : FieldKey → FieldKey → Bool
field_eq k l = k.asn == l.asn && (k.source == l.source && (k.host == l.host && (k.epoch == l.epoch && bytes_eq k.message l.message)))

-- the one of hop j of a packet, whose name is x
unfoldable pub message_key : Network → HopName → Contents → ℕ → FieldKey
message_key t x p j = field_key x.asn p.src (epoch_of t.profile p.ts) (hop_message t x p j)

unfoldable pub field_keys_at : Network → List Issue → Sent → ℕ → List FieldKey
field_keys_at t issues s j = option_map_or (λ x. message_key t x s.packet j ∷ []) (sent_name issues s j) []

-- those of a sent packet of level 2 or 3
unfoldable pub field_keys : Network → List Issue → Sent → List FieldKey
field_keys t issues s = if is_tagged s.packet.first then flat_map (field_keys_at t issues s) (range_with_len 0 (hop_count s.packet)) else []

unfoldable pub field_rows : Network → List Emission → List Issue → Event → List FieldKey
field_rows t emissions issues e = option_map_or (field_keys t issues) (as_send emissions e) []

-- the one of a hop that was accepted on a packet of level 3
unfoldable pub update_keys : Network → Pass → List FieldKey
update_keys t w = if is_updated w.packet.first then message_key t (pass_name w) w.packet w.hop ∷ [] else []

unfoldable pub update_rows : Network → List Emission → Event → List FieldKey
update_rows t emissions e = option_map_or (update_keys t) (as_pass emissions e) []

-- each hop was issued by an AS of the network
abbrev pub AreIssuersKnown : Network → List Issue → Type 0
AreIssuersKnown t issues = All (λ i. IsTrue (has t i.name.asn)) issues
