-- What a ledger file tells, or its first fault.
use Rattle.std.specs.Prelude.{ℕ, ◌+◌, ◌==◌, ◌&&◌, nat_lt, nat_le, Bool, true, false, List, [], ◌∷◌, ◌++◌, length, filter_map, Option, Some, None, is_none, Result, Ok, Err, if◌then◌else◌}
use Rattle.std.specs.Option.{option_map_or}
use Rattle.epic_num.specs.declared.hop.HopName.{HopName}
use Rattle.epic_num.specs.declared.key_name.Holder.{Holder}
use Rattle.epic_num.specs.declared.key_name.Holder.TheVariants as holder
use Rattle.epic_num.specs.declared.name.AsId.{AsId}
use Rattle.epic_num.specs.declared.passed.Place.{Place}
use Rattle.epic_num.specs.declared.passed.Place.TheVariants.{Router, Host}
use Rattle.epic_num.specs.Chains.{Issue, name_of}
use Rattle.epic_num.specs.Levels.{is_first_byte}
use Rattle.epic_num.specs.Same.{same_host}
use Rattle.epic_layout.specs.declared.head.SegmentHead.{SegmentHead}
use Rattle.epic_layout.specs.Contents.{hop_count}
use Rattle.epic_layout.specs.Layout.{fault, parse}
use Rattle.epic_topo.specs.Network.{Network, has}
use Rattle.epic_ledger.specs.declared.event.Event.{Event}
use Rattle.epic_ledger.specs.declared.event.Event.TheVariants as event
use Rattle.epic_ledger.specs.Facts.{issues_in, packet_at}
use Rattle.epic_ledger.specs.History.{Emission, History}
use Rattle.epic_text.specs.Lines.{parts}
use Rattle.epic_record.specs.declared.fault.FileKind.{FileKind}
use Rattle.epic_record.specs.declared.fault.FileKind.TheVariants.{BadPlace, TooLong}
use Rattle.epic_record.specs.declared.item.Item.{Item}
use Rattle.epic_record.specs.declared.item.Item.TheVariants as items
use Rattle.epic_record.specs.LedgerLine.{item_of}

-- ---- what lines tell together

unfoldable pub as_event : Item → Option Event
as_event (items.Event e) = Some e
as_event item = None

unfoldable pub as_emission : Item → Option Emission
as_emission (items.Emission number due bytes) = Some (record { place = due; bytes = bytes })
as_emission item = None

-- the ledger that lines tell
unfoldable pub history_in : List Item → History
history_in told = record { events = filter_map as_event told; emissions = filter_map as_emission told }

-- ---- where a line may stand

-- the number is that of the newest emission
abbrev pub is_newest : List Emission → ℕ → Bool
is_newest emissions number = nat_lt 0 number && number == length emissions

-- the bytes are a packet's
abbrev pub is_packet : List ℕ → Bool
is_packet bytes = is_none (fault is_first_byte bytes)

-- the first of a chain, or the next after an earlier issue; a chain has at most 16 hops
abbrev pub goes_on : List Issue → HopName → ℕ → Bool
goes_on issues x parent =
    if parent == 0 then x.body.pos == 1
    else option_map_or (λ before. x.body.pos == before.body.pos + 1) (name_of issues parent) false

-- the issues are there, one a segment, and each one's position is the number of the segment's hops
abbrev pub are_lasts : List Issue → List ℕ → List SegmentHead → Bool
are_lasts issues [] [] = true
are_lasts issues (number ∷ more) (head ∷ heads) =
    option_map_or (λ x. x.body.pos == head.count) (name_of issues number) false && are_lasts issues more heads
are_lasts issues numbers heads = false

-- the AS of a holder
abbrev pub holder_as : Holder → AsId
holder_as (holder.As a) = a
holder_as (holder.Host h) = h.asn

-- an event may follow a ledger
unfoldable pub is_event_placed : Network → History → Event → Bool
is_event_placed t h (event.Issue step number x parent) =
    number == length (issues_in h.events) + 1 && has t x.asn && nat_le x.body.pos 16
    && goes_on (issues_in h.events) x parent
is_event_placed t h (event.Fetch step source owner epoch) = has t source && has t owner
is_event_placed t h (event.Send step emission segments) =
    is_newest h.emissions emission
    && are_lasts (issues_in h.events) segments.items (packet_at h.emissions emission).route.segments
is_event_placed t h (event.Pass step a hop generation emission) =
    has t a && is_newest h.emissions emission && nat_lt hop (hop_count (packet_at h.emissions emission))
is_event_placed t h (event.Arrive step host src ts hops checked) =
    has t host.asn && nat_le 2 hops && nat_le hops 32
is_event_placed t h (event.Reveal step who) = has t (holder_as who)
is_event_placed t h (event.Roll step a generation) = has t a

-- the AS where a packet is due
abbrev pub due_as : Place → AsId
due_as (Router a iface) = a
due_as (Host h) = h.asn

-- a line may follow a ledger
abbrev pub is_placed : Network → History → Item → Bool
is_placed t h (items.Event e) = is_event_placed t h e
is_placed t h (items.Emission number due bytes) =
    number == length h.emissions + 1 && has t (due_as due) && is_packet bytes
is_placed t h (items.AcceptHop a generation hop bytes) =
    has t a && is_packet bytes && nat_lt hop (hop_count (parse bytes))
is_placed t h (items.AcceptDest host bytes) =
    has t host.asn && is_packet bytes && same_host (parse bytes).dst host

-- ---- the file

-- a line, counted from 1, and why it is refused; the file as a whole is line 0
abbrev pub Fault : Type 0
Fault = ℕ × FileKind

-- what a line tells after a ledger; that it may not stand there is the last of its faults
abbrev pub placed : Network → History → Result Item FileKind → Result Item FileKind
placed t h (Err kind) = Err kind
placed t h (Ok item) = if is_placed t h item then Ok item else Err BadPlace

abbrev pub on_line : {A C : Type 0} → ℕ → Result A FileKind → (A → Result C Fault) → Result C Fault
on_line number (Ok told) next = next told
on_line number (Err kind) next = Err (number, kind)

-- lines after others, the first of which has this number
abbrev pub items_after : Network → List Item → ℕ → List (List ℕ) → Result (List Item) Fault
items_after t before number [] = Ok before
items_after t before number (line ∷ more) =
    on_line number (placed t (history_in before) (item_of line))
    (λ item. items_after t (before ++ item ∷ []) (number + 1) more)

-- the greatest number of a ledger file's bytes
abbrev pub most_ledger : ℕ
most_ledger = 268435456

-- what a ledger file tells, line by line, or its first fault
unfoldable pub ledger_file : Network → List ℕ → Result (List Item) Fault
ledger_file t bytes =
    if nat_lt most_ledger (length bytes) then Err (0, TooLong) else items_after t [] 1 (parts bytes)
