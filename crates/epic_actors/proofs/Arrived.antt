-- What a host answers whose window stands for what the ledger tells, and for what it stands afterwards.
use Rattle.std.proofs.Common.{◌≡◌, ◌≢◌, ℕ, List, subst, ◌∙◌}
use Rattle.std.specs.Prelude.{Some}
use Rattle.epic_num.specs.declared.arrival.Arrival.{Arrival}
use Rattle.epic_num.specs.declared.name.HostId.{HostId}
use Rattle.epic_layout.specs.Contents.{hop_count}
use Rattle.epic_layout.specs.Layout.{parse}
use Rattle.epic_topo.specs.Network.{Network}
use Rattle.epic_window.specs.Entries.{told_of}
use Rattle.epic_router.specs.Remembering.{key_at, Retains}
use Rattle.epic_ends.specs.Arriving.{arrival_of}
use Rattle.epic_ends.specs.Destinations.{Destination, end_key, told_at, is_accepted}
use Rattle.epic_ends.specs.RightArrivals.{IsRightArrival}
use Rattle.epic_ledger.specs.History.{History}
use Rattle.epic_model.specs.Passing.{arrival_at, arrived_at}
use Rattle.epic_model.specs.Windows.{host_window}
use Rattle.epic_model.proofs.Standing.{windows_tell, hosts_stand, other_hosts_stand}
use Rattle.epic_actors.specs.Hosts.{HostStandsAt}
use Rattle.epic_actors.specs.Telling.{IsRightArrivalAt}

module _ (t : Network) (now : ℕ) (h : History) (d : HostId) (bytes : List ℕ) (x : Destination) (own : HostStandsAt t now h d (Some x)) where
  -- what its window tells
  tells : told_at x.window now (parse bytes) ≡ told_of t.profile (host_window h d) now (key_at (parse bytes) (hop_count (parse bytes)))
  unfolding told_at end_key
  tells = windows_tell t now x.window (host_window h d) (key_at (parse bytes) (hop_count (parse bytes))) own.1

  pub arrival_is : arrival_of t x.host now (told_at x.window now (parse bytes)) bytes ≡ arrival_at t now h d bytes
  unfolding arrival_at
  arrival_is i = arrival_of t (own.0 i) now (tells i) bytes

  pub right_arrival : (answer : Arrival) → IsRightArrival t x.host now (told_at x.window now (parse bytes)) bytes answer → IsRightArrivalAt t now h d bytes answer
  right_arrival answer right =
      subst (λ y. IsRightArrival t d now y bytes answer) tells
      (subst (λ e. IsRightArrival t e now (told_at x.window now (parse bytes)) bytes answer) own.0 right)

  pub arrived_stands : (step : ℕ) (y : Destination) (answer : Arrival) → answer ≡ arrival_at t now h d bytes → y.host ≡ x.host
      → Retains x.window y.window (end_key (parse bytes)) now step (is_accepted answer)
      → HostStandsAt t now (arrived_at t step now h d bytes).history d (Some y)
  arrived_stands step y answer is host retains = (
    host ∙ own.0,
    hosts_stand t step now h d bytes x.window y.window own.1
        (subst (λ z. Retains x.window y.window (end_key (parse bytes)) now step (is_accepted z)) is retains),
  )

pub others_left : (t : Network) (step now : ℕ) (h : History) (d : HostId) (bytes : List ℕ)
    → (e : HostId) → d ≢ e → host_window (arrived_at t step now h d bytes).history e ≡ host_window h e
others_left t step now h d bytes = (other_hosts_stand t step now h d bytes).0
