-- The hops of packets that sources sent.
use Rattle.std.specs.Prelude.{ℕ, Bool, ◌&&◌, ◌==◌, List, [], ◌∷◌}
use Rattle.std.specs.List.{flat_map, range_with_len}
use Rattle.std.specs.Option.{option_map_or}
use Rattle.epic_num.specs.Chains.{Issue}
use Rattle.epic_num.specs.declared.hop.HopName.{HopName}
use Rattle.epic_layout.specs.Contents.{Contents, hop_count}
use Rattle.epic_ledger.specs.Facts.{Sent, as_send, sent_name}
use Rattle.epic_ledger.specs.History.{Emission}
use Rattle.epic_ledger.specs.declared.event.Event.{Event}
use Rattle.epic_index.specs.Names.{name_eq, name_key}
use Rattle.epic_index.specs.declared.sources.SourceKey.{SourceKey}

-- hop j of a packet, whose name is x
unfoldable pub source_key : Contents → ℕ → HopName → SourceKey
source_key p j x = record {
  ts = p.ts;
  asn = p.src.asn.0;
  host = p.src.host;
  first = p.first;
  hop = j;
  name = name_key x;
}

abbrev pub source_eq : SourceKey → SourceKey → Bool
source_eq k l = k.ts == l.ts && (k.asn == l.asn && (k.host == l.host && (k.first == l.first && (k.hop == l.hop && name_eq k.name l.name))))

-- what hop j of a sent packet is sought by
unfoldable pub source_keys_at : List Issue → Sent → ℕ → List SourceKey
source_keys_at issues s j = option_map_or (λ x. source_key s.packet j x ∷ []) (sent_name issues s j) []

unfoldable pub source_keys : List Issue → Sent → List SourceKey
source_keys issues s = flat_map (source_keys_at issues s) (range_with_len 0 (hop_count s.packet))

unfoldable pub source_rows : List Emission → List Issue → Event → List SourceKey
source_rows emissions issues e = option_map_or (source_keys issues) (as_send emissions e) []
