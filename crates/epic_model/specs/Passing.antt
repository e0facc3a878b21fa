-- What becomes of a packet at the place where it is due, and what the ledger records of it.
use Rattle.std.specs.Prelude.{ℕ, zero, suc, ◌+◌, ◌==◌, nat_lt, Bool, true, false, if◌then◌else◌, List, [], ◌∷◌, ◌++◌, length, take, count_by}
use Rattle.std.specs.Option.{option_map_or}
use Rattle.epic_num.specs.declared.arrival.Arrival.{Arrival}
use Rattle.epic_num.specs.declared.arrival.Arrival.TheVariants as arrival
use Rattle.epic_num.specs.declared.name.AsId.{AsId}
use Rattle.epic_num.specs.declared.name.HostId.{HostId}
use Rattle.epic_num.specs.declared.passed.PassResult.{PassResult}
use Rattle.epic_num.specs.declared.passed.PassResult.TheVariants.{Turned, Arrived, Full}
use Rattle.epic_num.specs.declared.passed.Place.{Place}
use Rattle.epic_num.specs.declared.passed.Place.TheVariants.{Router, Host}
use Rattle.epic_num.specs.declared.turn.Turn.{Turn}
use Rattle.epic_num.specs.declared.turn.Turn.TheVariants.{Forward, Deliver, Refused}
use Rattle.epic_num.specs.declared.verdict.Verdict.{Verdict}
use Rattle.epic_num.specs.Same.{same_as}
use Rattle.epic_layout.specs.Contents.{Contents, hop_count}
use Rattle.epic_layout.specs.Layout.{parse}
use Rattle.epic_layout.specs.Spelling.{spelling}
use Rattle.epic_topo.specs.Network.{Network, neighbour}
use Rattle.epic_fields.specs.HopChecks.{hop_name}
use Rattle.epic_router.specs.Candidates.{candidates_of}
use Rattle.epic_router.specs.Handling.{turn_of}
use Rattle.epic_router.specs.Leaving.{packet_after}
use Rattle.epic_ends.specs.Arriving.{arrival_of}
use Rattle.epic_ledger.specs.History.{History, emission_at, emitted}
use Rattle.epic_ledger.specs.Facts.{Facts, facts_of}
use Rattle.epic_ledger.specs.declared.event.Event.{Event}
use Rattle.epic_ledger.specs.declared.event.Event.TheVariants as event
use Rattle.epic_audit.specs.Verdicts.{hop_verdict, dest_verdict}
use Rattle.epic_model.specs.Windows.{router_window, host_window}
use Rattle.epic_router.specs.Remembering.{key_at}
use Rattle.epic_window.specs.Entries.{told_of}

-- how many bytes all emissions may have
abbrev pub most_emitted : ℕ
most_emitted = 268435456

-- ---- generations

unfoldable pub is_roll : AsId → Event → Bool
is_roll a (event.Roll step b generation) = same_as b a
is_roll a (event.Issue step number name parent) = false
is_roll a (event.Fetch step source owner epoch) = false
is_roll a (event.Send step emission segments) = false
is_roll a (event.Pass step b hop generation emission) = false
is_roll a (event.Arrive step host src ts hops checked) = false
is_roll a (event.Reveal step holder) = false

-- the generation of an AS's forwarding key: how often the AS has rolled it
abbrev pub rolls : List Event → AsId → ℕ
rolls events a = count_by (is_roll a) events

-- ---- what became of a packet

-- the answer, the number of the emission that it made, 0 for none, the verdicts, and the ledger after that
pub record Happened : Type 0 where
  pub result : PassResult
  pub emission : ℕ
  pub verdicts : List Verdict
  pub history : History

-- nothing was recorded
abbrev pub nothing : History → PassResult → Happened
nothing h result = record { result = result; emission = 0; verdicts = []; history = h }

-- ---- routers

-- the events of the hops that were handled, from hop j on, one a generation
abbrev pub passes_from : ℕ → AsId → ℕ → ℕ → List ℕ → List Event
passes_from step a number j [] = []
passes_from step a number j (g ∷ gs) = event.Pass step a j g number ∷ passes_from step a number (j + 1) gs

-- the verdicts on those hops, over what a ledger says
abbrev pub hop_verdicts : Network → Facts → AsId → Contents → ℕ → List ℕ → List Verdict
hop_verdicts t f a p j [] = []
hop_verdicts t f a p j (g ∷ gs) = hop_verdict t f (hop_name a g p j) p j ∷ hop_verdicts t f a p (j + 1) gs

-- The packet leaves as an emission that is due at a place, after its hops were handled under these generations. The verdicts are
-- those over the ledger before, on the packet as it came in.
unfoldable pub left : Network → ℕ → History → AsId → List ℕ → Turn → Place → List ℕ → Happened
left t step h a bytes turn due generations =
    let p = parse bytes in
    let number = length h.emissions + 1 in
    record {
      result = Turned turn;
      emission = number;
      verdicts = hop_verdicts t (facts_of h) a p p.current generations;
      history = record {
        events = h.events ++ passes_from step a number p.current generations;
        emissions = h.emissions ++ record { place = due; bytes = spelling (packet_after t a turn p) } ∷ [];
      };
    }

-- the other end of the link at an interface
unfoldable pub due_behind : Network → AsId → ℕ → Place
due_behind t a out = option_map_or (λ far. Router far.0 far.1) (neighbour t a out) (Router a out)

unfoldable pub turned_by : Network → ℕ → History → AsId → List ℕ → Turn → Happened
turned_by t step h a bytes (Forward out hops generations) =
    left t step h a bytes (Forward out hops generations) (due_behind t a out) (take hops generations)
turned_by t step h a bytes (Deliver host hops generations) =
    left t step h a bytes (Deliver host hops generations) (Host (record { asn = a; host = host })) (take hops generations)
turned_by t step h a bytes (Refused check hop) = nothing h (Turned (Refused check hop))

-- what the router of an AS answers to bytes at a moment
unfoldable pub answer_at : Network → ℕ → History → AsId → ℕ → List ℕ → Turn
answer_at t now h a iface bytes =
    let p = parse bytes in
    let told = told_of t.profile (router_window h a) now (key_at p p.current) in
    turn_of t a (candidates_of (rolls h.events a)) iface now told bytes

-- the router is asked where there is room for what it may emit
unfoldable pub turned_at : Network → ℕ → ℕ → History → AsId → ℕ → List ℕ → Happened
turned_at t step now h a iface bytes =
    if nat_lt most_emitted (emitted h.emissions + length bytes) then nothing h Full
    else turned_by t step h a bytes (answer_at t now h a iface bytes)

-- ---- destinations

-- an arrival is recorded, whether it was checked or not
unfoldable pub arrives : Network → ℕ → History → HostId → Contents → Arrival → Bool → Happened
arrives t step h d p answer checked = record {
  result = Arrived answer;
  emission = 0;
  verdicts = dest_verdict t (facts_of h) p ∷ [];
  history = record h { events = h.events ++ event.Arrive step d p.src p.ts (hop_count p) checked ∷ [] };
}

unfoldable pub arrived_by : Network → ℕ → History → HostId → List ℕ → Arrival → Happened
arrived_by t step h d bytes arrival.Accepted = arrives t step h d (parse bytes) arrival.Accepted true
arrived_by t step h d bytes arrival.Unchecked = arrives t step h d (parse bytes) arrival.Unchecked false
arrived_by t step h d bytes (arrival.Refused check) = nothing h (Arrived (arrival.Refused check))

-- what a host answers to bytes at a moment
unfoldable pub arrival_at : Network → ℕ → History → HostId → List ℕ → Arrival
arrival_at t now h d bytes =
    let p = parse bytes in
    let told = told_of t.profile (host_window h d) now (key_at p (hop_count p)) in
    arrival_of t d now told bytes

unfoldable pub arrived_at : Network → ℕ → ℕ → History → HostId → List ℕ → Happened
arrived_at t step now h d bytes = arrived_by t step h d bytes (arrival_at t now h d bytes)

-- ---- emissions

-- a packet at a place
unfoldable pub pass_at : Network → ℕ → ℕ → History → Place → List ℕ → Happened
pass_at t step now h (Router a iface) bytes = turned_at t step now h a iface bytes
pass_at t step now h (Host d) bytes = arrived_at t step now h d bytes

-- an emission at the place where it is due
unfoldable pub passed_on : Network → ℕ → ℕ → History → ℕ → Happened
passed_on t step now h number =
    option_map_or (λ e. pass_at t step now h e.place e.bytes) (emission_at h.emissions number) (nothing h Full)

-- The passes of an emission, then of the one that this made, and so on to the one that made none, at most so many. All are of one
-- step.
unfoldable pub carried : Network → ℕ → ℕ → ℕ → History → ℕ → List Happened
carried t step now zero h number = []
carried t step now (suc most) h number =
    let d = passed_on t step now h number in
    d ∷ (if d.emission == 0 then [] else carried t step now most d.history d.emission)

-- the ledger after the last of these
abbrev pub last_history : History → List Happened → History
last_history h [] = h
last_history h (d ∷ ds) = last_history d.history ds
