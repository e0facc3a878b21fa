-- The packets that sources sent, by source and timestamp, and those of which one was sent before.
use Rattle.std.specs.Prelude.{Bool, ◌&&◌, ◌==◌, List, [], ◌∷◌, ◌++◌, if◌then◌else◌}
use Rattle.std.specs.List.{list_any}
use Rattle.std.specs.Option.{option_map_or}
use Rattle.epic_layout.specs.Contents.{Contents}
use Rattle.epic_ledger.specs.Facts.{Sent, as_send}
use Rattle.epic_ledger.specs.History.{Emission}
use Rattle.epic_ledger.specs.declared.event.Event.{Event}
use Rattle.epic_index.specs.declared.origins.OriginKey.{OriginKey}

unfoldable pub origin_key : Contents → OriginKey
origin_key p = record { ts = p.ts; asn = p.src.asn.0; host = p.src.host }

abbrev pub origin_eq : OriginKey → OriginKey → Bool
origin_eq k l = k.ts == l.ts && (k.asn == l.asn && k.host == l.host)

abbrev pub origin_keys : Sent → List OriginKey
origin_keys s = origin_key s.packet ∷ []

unfoldable pub origin_rows : List Emission → Event → List OriginKey
origin_rows emissions e = option_map_or origin_keys (as_send emissions e) []

-- the keys that stand among those before them
unfoldable pub repeats : List OriginKey → List OriginKey → List OriginKey
repeats before [] = []
repeats before (k ∷ keys) = (if list_any (origin_eq k) before then k ∷ [] else []) ++ repeats (before ++ k ∷ []) keys
