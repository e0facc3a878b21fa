-- The packets that sources sent, by what makes two of them alike.
use Rattle.std.specs.Prelude.{Bool, ◌&&◌, ◌==◌, List, [], ◌∷◌}
use Rattle.std.specs.Option.{option_map_or}
use Rattle.epic_layout.specs.Contents.{Contents}
use Rattle.epic_ledger.specs.Facts.{Sent, as_send}
use Rattle.epic_ledger.specs.History.{Emission}
use Rattle.epic_ledger.specs.declared.event.Event.{Event}
use Rattle.epic_index.specs.declared.likes.LikeKey.{LikeKey}

unfoldable pub like_key : Contents → LikeKey
like_key p = record { ts = p.ts; asn = p.src.asn.0; host = p.src.host; first = p.first }

abbrev pub like_eq : LikeKey → LikeKey → Bool
like_eq k l = k.ts == l.ts && (k.asn == l.asn && (k.host == l.host && k.first == l.first))

abbrev pub like_keys : Sent → List LikeKey
like_keys s = like_key s.packet ∷ []

unfoldable pub like_rows : List Emission → Event → List LikeKey
like_rows emissions e = option_map_or like_keys (as_send emissions e) []
