-- What holds of a packet that a destination takes.
use Rattle.std.specs.Prelude.{◌≡◌, ℕ, true, false, List, None}
use Rattle.epic_num.specs.declared.arrival.Arrival.{Arrival}
use Rattle.epic_num.specs.declared.arrival.Arrival.TheVariants.{Accepted, Unchecked, Refused}
use Rattle.epic_num.specs.declared.name.HostId.{HostId}
use Rattle.epic_num.specs.Levels.{is_first_byte, is_tagged}
use Rattle.epic_num.specs.Moments.{is_stale, is_early}
use Rattle.epic_num.specs.Windows.{Told, was_here, has_no_room}
use Rattle.epic_layout.specs.Contents.{Contents, hop_count}
use Rattle.epic_layout.specs.Layout.{fault, parse}
use Rattle.epic_layout.specs.Updates.{own_updates}
use Rattle.epic_topo.specs.Network.{Network}
use Rattle.epic_fields.specs.PacketTags.{dest_field_of}
use Rattle.epic_ends.specs.Arriving.{arrival_of}

-- the bytes are a packet for the host, whose hops were all handled
pub record IsAtEnd (d : HostId) (bytes : List ℕ) : Type 0 where
  pub faultless : fault is_first_byte bytes ≡ None
  pub host_is : (parse bytes).dst ≡ d
  pub ended : (parse bytes).current ≡ hop_count (parse bytes)

-- the packet is fresh, its destination field is right, it wasn't here before, and there is room to remember it
pub record IsChecked (t : Network) (now : ℕ) (told : Told) (p : Contents) : Type 0 where
  pub tagged : is_tagged p.first ≡ true
  pub not_stale : is_stale t.profile p.ts now ≡ false
  pub not_early : is_early t.profile p.ts now ≡ false
  pub dest_field_right : p.dest_field ≡ dest_field_of t p (own_updates p)
  pub unseen : was_here told ≡ false
  pub room : has_no_room t.profile told ≡ false

-- an answer that takes bytes is right
abbrev pub IsRightArrival : Network → HostId → ℕ → Told → List ℕ → Arrival → Type 0
IsRightArrival t d now told bytes Accepted = IsAtEnd d bytes × IsChecked t now told (parse bytes)
IsRightArrival t d now told bytes Unchecked = IsAtEnd d bytes × (is_tagged (parse bytes).first ≡ false)
IsRightArrival t d now told bytes (Refused check) = Unit {0}

-- what a destination takes is right, whatever the bytes and whatever its window tells
abbrev pub ArrivalsAreRight : Type 0
ArrivalsAreRight =
    (t : Network) (d : HostId) (now : ℕ) (told : Told) (bytes : List ℕ)
    → IsRightArrival t d now told bytes (arrival_of t d now told bytes)
