-- What a destination answers to a packet: a table of checks, of which the first that fails is told.
use Rattle.std.specs.Prelude.{ℕ, ◌==◌, Bool, not, if◌then◌else◌, List, [], ◌∷◌, ◌++◌, Option, None, Some, option_map, bytes_eq}
use Rattle.epic_num.specs.declared.arrival.Arrival.{Arrival}
use Rattle.epic_num.specs.declared.arrival.Arrival.TheVariants.{Accepted, Unchecked, Refused}
use Rattle.epic_num.specs.declared.arrival.DestCheck.{DestCheck}
use Rattle.epic_num.specs.declared.arrival.DestCheck.TheVariants.{Layout, WrongHost, NotAtEnd, Stale, Early, BadDestinationField, Replay, WindowFull}
use Rattle.epic_num.specs.declared.name.HostId.{HostId}
use Rattle.epic_num.specs.Levels.{is_first_byte, is_tagged}
use Rattle.epic_num.specs.Same.{same_host}
use Rattle.epic_num.specs.Tables.{first_row}
use Rattle.epic_num.specs.Windows.{Told, fresh_rows, window_rows}
use Rattle.epic_layout.specs.Contents.{Contents, hop_count}
use Rattle.epic_layout.specs.Layout.{fault, parse}
use Rattle.epic_layout.specs.Updates.{own_updates}
use Rattle.epic_topo.specs.Network.{Network}
use Rattle.epic_fields.specs.PacketTags.{dest_field_of}

-- a row: whether its check fails, and the check
abbrev pub Row : Type 0
Row = Bool × DestCheck

-- the packet is for another host, or some hop wasn't handled yet
unfoldable pub end_rows : HostId → Contents → List Row
end_rows d p = (not (same_host p.dst d), WrongHost) ∷ (not (p.current == hop_count p), NotAtEnd) ∷ []

-- the destination field is the one that the key shared with the source gives
unfoldable pub dest_field_fits : Network → Contents → Bool
dest_field_fits t p = bytes_eq p.dest_field (dest_field_of t p (own_updates p))

-- the packet's freshness, its destination field, and what the host's window tells, at levels 2 and 3
unfoldable pub tagged_rows : Network → ℕ → Told → Contents → List Row
tagged_rows t now told p =
    fresh_rows t.profile p.ts now Stale Early
    ++ ((not (dest_field_fits t p), BadDestinationField)
    ∷ window_rows t.profile told (λ first. Replay first) (λ live. WindowFull live))

-- all checks of a packet at a host
unfoldable pub rows : Network → HostId → ℕ → Told → Contents → List Row
rows t d now told p = end_rows d p ++ (if is_tagged p.first then tagged_rows t now told p else [])

-- the answer, unless a check failed
abbrev pub unless : Option DestCheck → Arrival → Arrival
unless None answer = answer
unless (Some check) answer = Refused check

-- what the host answers to a packet: only levels 2 and 3 have a destination field to check
unfoldable pub arrived : Network → HostId → ℕ → Told → Contents → Arrival
arrived t d now told p = unless (first_row (rows t d now told p)) (if is_tagged p.first then Accepted else Unchecked)

-- what it answers to bytes at a moment, where its window tells this of the packet
unfoldable pub arrival_of : Network → HostId → ℕ → Told → List ℕ → Arrival
arrival_of t d now told bytes = unless (option_map (λ e. Layout e) (fault is_first_byte bytes)) (arrived t d now told (parse bytes))
