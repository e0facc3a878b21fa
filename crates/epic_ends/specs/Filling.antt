-- Private: serves proofs of this crate alone; no public contract cites it.
-- Sending by the list of a path's hops, as the code goes through it.
use Rattle.std.specs.Prelude.{◌≡◌, ℕ, Bool, not, List, [], ◌∷◌, ◌++◌, length, map, slice_index_or, if◌then◌else◌}
use Rattle.std.specs.List.{range_with_len}
use Rattle.epic_num.specs.declared.segment.SegHop.{SegHop}
use Rattle.epic_num.specs.declared.send_error.SendError.TheVariants.{Expired}
use Rattle.epic_num.specs.Levels.{is_tagged}
use Rattle.epic_num.specs.Moments.{is_expired}
use Rattle.epic_layout.specs.Contents.{Contents, hop_count}
use Rattle.epic_layout.specs.Spelling.{update_count}
use Rattle.epic_num.specs.declared.name.HostId.{HostId}
use Rattle.epic_topo.specs.Network.{Network}
use Rattle.epic_keys.specs.Keys.{host_key, secret_value}
use Rattle.epic_ends.specs.declared.ready_keys.ReadyKey.{ReadyKey}
use Rattle.epic_fields.specs.PacketTags.{shared_key, field_over, update_over, dest_field_of}
use Rattle.epic_ends.specs.Admitting.{Row}
use Rattle.epic_ends.specs.Sending.{no_hop}

abbrev pub nth : List SegHop → ℕ → SegHop
nth hops j = slice_index_or hops j no_hop

-- the validity of hop j is over
unfoldable pub expired_at : List SegHop → ℕ → ℕ → Row
expired_at hops now j = (is_expired (nth hops j).body.ts_path (nth hops j).body.exp now, Expired j)

unfoldable pub expired_rows : List SegHop → ℕ → List Row
expired_rows hops now = map (expired_at hops now) (range_with_len 0 (length hops))

-- the field of hop j, and its update
unfoldable pub field_by : Network → List SegHop → Contents → ℕ → List ℕ
field_by t hops p j = field_over (shared_key t (nth hops j).asn p) (nth hops j).sigma p j

unfoldable pub update_by : Network → List SegHop → Contents → ℕ → List ℕ
update_by t hops p j = update_over (shared_key t (nth hops j).asn p) (nth hops j).sigma p j

unfoldable pub fields_by : Network → List SegHop → Contents → List (List ℕ)
fields_by t hops p = map (field_by t hops p) (range_with_len 0 (hop_count p))

unfoldable pub updates_by : Network → List SegHop → Contents → ℕ → List (List ℕ)
updates_by t hops p n = map (update_by t hops p) (range_with_len 0 n)

-- the packet with the fields of these hops, and at levels 2 and 3 with its destination field
unfoldable pub filled : Network → List SegHop → Contents → Contents
filled t hops p = record p {
  fields = fields_by t hops p;
  dest_field = if is_tagged p.first then dest_field_of t p (updates_by t hops p (update_count p.first (hop_count p))) else p.dest_field;
}

-- a kept key is the one that the host shares with the AS of the master key
abbrev pub IsReady : HostId → ReadyKey → Type 0
IsReady src ready = ready.key ≡ host_key (secret_value ready.master ready.epoch) src
