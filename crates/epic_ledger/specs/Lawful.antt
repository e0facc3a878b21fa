-- What every ledger keeps: its emissions are packets, its events name what is there, and steps ascend.
use Rattle.std.specs.Prelude.{◌≡◌, ℕ, ◌+◌, ◌<◌, ◌≤◌, List, length, take, slice_get, slice_index_or, Some, None, IsSome, ⊤}
use Rattle.std.specs.List.{All}
use Rattle.epic_num.specs.Chains.{Issue, issue_at, chain}
use Rattle.epic_num.specs.Levels.{is_first_byte}
use Rattle.epic_layout.specs.Contents.{IsPacket, hop_count}
use Rattle.epic_layout.specs.Layout.{fault, parse}
use Rattle.epic_layout.specs.Route.{no_segment}
use Rattle.epic_ledger.specs.History.{History, Emission, emission_at, step_of}
use Rattle.epic_ledger.specs.Facts.{issues_in, packet_at}
use Rattle.epic_ledger.specs.declared.event.Event.{Event}
use Rattle.epic_ledger.specs.declared.event.Event.TheVariants as event

-- an emission's bytes spell a packet within the layout's limits
pub record IsEmission (e : Emission) : Type 0 where
  pub packet : IsPacket (parse e.bytes)
  pub faultless : fault is_first_byte e.bytes ≡ None

-- an issue has the next number, and goes on from none or from one that is there
pub record FitsIssue (issues : List Issue) (number parent : ℕ) : Type 0 where
  pub next : number ≡ length issues + 1
  pub earlier : parent < number

-- a sent packet is there; it has as many segments as issues are named, each of which is there, and has a chain as long as
-- the segment
pub record FitsSend (emissions : List Emission) (issues : List Issue) (emission : ℕ) (segments : List ℕ) : Type 0 where
  pub there : IsSome (emission_at emissions emission)
  pub count : length segments ≡ length (packet_at emissions emission).route.segments
  pub issued : (i : ℕ) → i < length segments → IsSome (issue_at issues (slice_index_or segments i 0))
  pub chains : (i : ℕ) → i < length segments
      → length (chain issues (slice_index_or segments i 0))
      ≡ (slice_index_or (packet_at emissions emission).route.segments i no_segment).count

-- a packet that passed is there, and has the hop
pub record FitsPass (emissions : List Emission) (emission hop : ℕ) : Type 0 where
  pub there : IsSome (emission_at emissions emission)
  pub within : hop < hop_count (packet_at emissions emission)

-- what an event names is there, among these emissions and after these issues
abbrev pub Fits : List Emission → List Issue → Event → Type 0
Fits emissions issues (event.Issue step number name parent) = FitsIssue issues number parent
Fits emissions issues (event.Send step emission segments) = FitsSend emissions issues emission segments.items
Fits emissions issues (event.Pass step a hop generation emission) = FitsPass emissions emission hop
Fits emissions issues (event.Fetch step source owner epoch) = ⊤
Fits emissions issues (event.Arrive step host src ts hops checked) = ⊤
Fits emissions issues (event.Reveal step holder) = ⊤
Fits emissions issues (event.Roll step a generation) = ⊤

-- no event so far is of a later step
abbrev pub IsLast : List Event → ℕ → Type 0
IsLast events step = All (λ e. step_of e ≤ step) events

pub record IsLawful (h : History) : Type 0 where
  pub packets : All IsEmission h.emissions
  pub fit : (n : ℕ) (e : Event) → slice_get h.events n ≡ Some e → Fits h.emissions (issues_in (take n h.events)) e
  pub ascending : (n : ℕ) (e : Event) → slice_get h.events n ≡ Some e → IsLast (take n h.events) (step_of e)
