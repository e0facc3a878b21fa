-- When a source sends: its refusals, of which the first that applies is told, and the timestamp of the packet.
use Rattle.std.specs.Prelude.{ℕ, ◌+◌, max, Bool, not, ◌&&◌, nat_lt, if◌then◌else◌, List, [], ◌∷◌, ◌++◌, length, map, Option, None, Some, Result}
use Rattle.std.specs.List.{range_with_len}
use Rattle.epic_num.specs.declared.hop.Level.{Level}
use Rattle.epic_num.specs.declared.name.AsId.{AsId}
use Rattle.epic_num.specs.declared.name.HostId.{HostId}
use Rattle.epic_num.specs.declared.segment.Leg.{Leg}
use Rattle.epic_num.specs.declared.send_error.SendError.{SendError}
use Rattle.epic_num.specs.declared.send_error.SendError.TheVariants.{WrongEnds, PayloadTooLong, Expired, NoKey}
use Rattle.epic_num.specs.Levels.{first_byte, is_tagged}
use Rattle.epic_num.specs.Moments.{is_expired}
use Rattle.epic_num.specs.Paths.{path_hops, path_start, path_end}
use Rattle.epic_num.specs.Same.{same_as}
use Rattle.epic_num.specs.Tables.{first_row, unless}
use Rattle.epic_layout.specs.declared.wire.TheConstants.{MAX_PAYLOAD}
use Rattle.epic_ends.specs.Sending.{hop_of_path}

-- the timestamp of the next packet: this moment, or the number after the last packet's timestamp where that is greater
abbrev pub next_ts : Option ℕ → ℕ → ℕ
next_ts None now = now
next_ts (Some last) now = max now (last + 1)

-- a row: whether it applies, and what it tells
abbrev pub Row : Type 0
Row = Bool × SendError

-- the path leads elsewhere, or the payload has more than 8,192 bytes
unfoldable pub end_rows : List Leg → HostId → HostId → List ℕ → List Row
end_rows legs src dst payload =
    (not (same_as (path_start legs) src.asn && same_as (path_end legs) dst.asn), WrongEnds)
    ∷ (nat_lt MAX_PAYLOAD (length payload), PayloadTooLong)
    ∷ []

-- the validity of a hop is over, by the hops in travel order
unfoldable pub expiry_rows : List Leg → ℕ → List Row
expiry_rows legs now =
    map
    (λ j. (is_expired (hop_of_path legs j).body.ts_path (hop_of_path legs j).body.exp now, Expired j))
    (range_with_len 0 (length (path_hops legs)))

-- the ASes whose keys a packet of level 2 or 3 is made with: those of its hops in travel order, and then the destination's
unfoldable pub key_owners : List Leg → HostId → List AsId
key_owners legs dst = map (λ h. h.asn) (path_hops legs) ++ dst.asn ∷ []

-- The source lacks an AS's keys of the epoch. `known` says of which ASes it has them.
unfoldable pub key_rows : (AsId → Bool) → ℕ → List AsId → List Row
key_rows known epoch owners = map (λ a. (not (known a), NoKey (record { owner = a; epoch = epoch }))) owners

-- all refusals of a packet with this first byte, whose timestamp lies in this epoch
unfoldable pub send_rows : (AsId → Bool) → ℕ → List Leg → ℕ → HostId → HostId → List ℕ → ℕ → List Row
send_rows known epoch legs first src dst payload now =
    end_rows legs src dst payload
    ++ (expiry_rows legs now
    ++ (if is_tagged first then key_rows known epoch (key_owners legs dst) else []))

-- the timestamp of a packet that is sent, or the refusal
unfoldable pub admitted : (AsId → Bool) → ℕ → List Leg → ℕ → HostId → HostId → List ℕ → ℕ → ℕ → Result ℕ SendError
admitted known epoch legs first src dst payload now ts =
    unless (first_row (send_rows known epoch legs first src dst payload now)) ts
