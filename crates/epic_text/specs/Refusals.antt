-- The words of refusals.
use Rattle.std.specs.Prelude.{ℕ, List, [], ◌∷◌, codes, decimal}
use Rattle.epic_num.specs.declared.answer.Refusal.{Refusal}
use Rattle.epic_num.specs.declared.answer.Refusal.TheVariants as refusal
use Rattle.epic_num.specs.declared.arrival.DestCheck.{DestCheck}
use Rattle.epic_num.specs.declared.arrival.DestCheck.TheVariants as dest_check
use Rattle.epic_num.specs.declared.beacon_error.BeaconError.{BeaconError}
use Rattle.epic_num.specs.declared.beacon_error.BeaconError.TheVariants as beacon
use Rattle.epic_num.specs.declared.layout_error.LayoutError.{LayoutError}
use Rattle.epic_num.specs.declared.layout_error.LayoutError.TheVariants as layout
use Rattle.epic_num.specs.declared.path_error.PathError.{PathError}
use Rattle.epic_num.specs.declared.path_error.PathError.TheVariants as path_error
use Rattle.epic_num.specs.declared.send_error.SendError.{SendError}
use Rattle.epic_num.specs.declared.send_error.SendError.TheVariants as send_error
use Rattle.epic_num.specs.declared.turn.Check.{Check}
use Rattle.epic_num.specs.declared.turn.Check.TheVariants as check
use Rattle.epic_num.specs.declared.name.AsId.{AsId}
use Rattle.epic_num.specs.Names.{as_text}

-- ---- packets

unfoldable pub layout_word : LayoutError → List ℕ
layout_word layout.Short = codes "short"
layout_word layout.Version = codes "version"
layout_word layout.Flags = codes "flags"
layout_word layout.SegmentCount = codes "segment-count"
layout_word layout.Reserved = codes "reserved"
layout_word layout.HopCount = codes "hop-count"
layout_word layout.HeaderLength = codes "header-length"
layout_word layout.PayloadLength = codes "payload-length"
layout_word layout.CurrentHop = codes "current-hop"

-- a turn that is refused at a hop
abbrev pub at_hop : List ℕ → ℕ → List (List ℕ)
at_hop check hop = codes "refused" ∷ check ∷ codes "hop" ∷ decimal hop ∷ []

-- the same, where the check names a number besides
abbrev pub numbered_at_hop : List ℕ → ℕ → ℕ → List (List ℕ)
numbered_at_hop check number hop = codes "refused" ∷ check ∷ decimal number ∷ codes "hop" ∷ decimal hop ∷ []

-- a refused turn: a layout fault is that of no hop; a replay names the step of the first time, a full window its entries
abbrev pub turn_words : Check → ℕ → List (List ℕ)
turn_words (check.Layout fault) hop = codes "refused" ∷ codes "layout" ∷ layout_word fault ∷ []
turn_words check.Ended hop = at_hop (codes "ended") hop
turn_words check.WrongIngress hop = at_hop (codes "wrong-ingress") hop
turn_words check.WrongSource hop = at_hop (codes "wrong-source") hop
turn_words check.PathFuture hop = at_hop (codes "path-future") hop
turn_words check.Expired hop = at_hop (codes "expired") hop
turn_words check.Stale hop = at_hop (codes "stale") hop
turn_words check.Early hop = at_hop (codes "early") hop
turn_words check.BadField hop = at_hop (codes "bad-field") hop
turn_words check.BadLink hop = at_hop (codes "bad-link") hop
turn_words check.WrongSwitch hop = at_hop (codes "wrong-switch") hop
turn_words check.NoInterface hop = at_hop (codes "no-interface") hop
turn_words check.WrongDestination hop = at_hop (codes "wrong-destination") hop
turn_words (check.Replay first) hop = numbered_at_hop (codes "replay") first hop
turn_words (check.WindowFull live) hop = numbered_at_hop (codes "window-full") live hop

abbrev pub refused : List ℕ → List (List ℕ)
refused cause = codes "refused" ∷ cause ∷ []

abbrev pub refused_number : List ℕ → ℕ → List (List ℕ)
refused_number cause number = codes "refused" ∷ cause ∷ decimal number ∷ []

-- a refused arrival
abbrev pub arrival_words : DestCheck → List (List ℕ)
arrival_words (dest_check.Layout fault) = codes "refused" ∷ codes "layout" ∷ layout_word fault ∷ []
arrival_words dest_check.WrongHost = refused (codes "wrong-host")
arrival_words dest_check.NotAtEnd = refused (codes "not-at-end")
arrival_words dest_check.Stale = refused (codes "stale")
arrival_words dest_check.Early = refused (codes "early")
arrival_words dest_check.BadDestinationField = refused (codes "bad-destination-field")
arrival_words (dest_check.Replay first) = refused_number (codes "replay") first
arrival_words (dest_check.WindowFull live) = refused_number (codes "window-full") live

-- ---- steps

-- a refusal that names an AS
abbrev pub refused_as : List ℕ → AsId → List (List ℕ)
refused_as cause asn = codes "refused" ∷ cause ∷ as_text asn.0 ∷ []

abbrev pub beacon_words : BeaconError → List (List ℕ)
beacon_words beacon.NotCore = refused (codes "not-core")
beacon_words beacon.Unknown = refused (codes "unknown")
beacon_words beacon.Ended = refused (codes "ended")
beacon_words beacon.TooLong = refused (codes "too-long")
beacon_words (beacon.Loop asn) = refused_as (codes "loop") asn
beacon_words beacon.UnknownInterface = refused (codes "unknown-interface")
beacon_words beacon.WrongKind = refused (codes "wrong-kind")
beacon_words beacon.Expired = refused (codes "expired")
beacon_words (beacon.Duplicate number) = refused_number (codes "duplicate") number
beacon_words beacon.Full = refused (codes "full")
-- no refusal carries it
beacon_words beacon.OutOfMemory = refused (codes "memory")

abbrev pub path_error_words : PathError → List (List ℕ)
path_error_words path_error.Empty = refused (codes "path-empty")
path_error_words path_error.TooLong = refused (codes "path-too-long")
path_error_words (path_error.Unjoined leg) = refused_number (codes "unjoined") leg
path_error_words path_error.WrongKind = refused (codes "path-kind")

abbrev pub send_error_words : SendError → List (List ℕ)
send_error_words send_error.WrongEnds = refused (codes "wrong-ends")
send_error_words send_error.PayloadTooLong = refused (codes "payload-too-long")
send_error_words (send_error.Expired hop) = refused_number (codes "expired") hop
send_error_words (send_error.NoKey key) =
    codes "refused" ∷ codes "no-key" ∷ as_text key.owner.0 ∷ decimal key.epoch ∷ []
-- no refusal carries it
send_error_words send_error.OutOfMemory = refused (codes "memory")

-- a refused step
unfoldable pub refusal_words : Refusal → List (List ℕ)
refusal_words (refusal.UnknownAs asn) = refused_as (codes "unknown-as") asn
refusal_words (refusal.Beacon error) = beacon_words error
refusal_words refusal.TooManyPaths = refused (codes "too-many-paths")
refusal_words (refusal.NoSegment number) = refused_number (codes "no-segment") number
refusal_words (refusal.Path error) = path_error_words error
refusal_words (refusal.Send error) = send_error_words error
refusal_words refusal.Full = refused (codes "full")
refusal_words (refusal.UnknownEmission emission) = refused_number (codes "unknown-emission") emission
