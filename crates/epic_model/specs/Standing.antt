-- How the windows of routers and hosts stand for what the ledger tells, and that they go on to.
use Rattle.std.specs.Prelude.{◌≡◌, ◌≢◌, ℕ, ◌+◌, ◌≤◌, Bool, false, nat_lt, List, length}
use Rattle.epic_num.specs.declared.arrival.Arrival.{Arrival}
use Rattle.epic_num.specs.declared.name.AsId.{AsId}
use Rattle.epic_num.specs.declared.name.HostId.{HostId}
use Rattle.epic_layout.specs.Layout.{parse}
use Rattle.epic_layout.specs.Reading.{IsRead}
use Rattle.epic_topo.specs.Network.{Network}
use Rattle.epic_window.specs.Entries.{Entries, Same, told_of}
use Rattle.epic_window.specs.Offers.{Held}
use Rattle.epic_window.specs.declared.key.WinKey.{WinKey}
use Rattle.epic_router.specs.Remembering.{Remembers, Retains, is_accepted}
use Rattle.epic_ends.specs.Destinations.{end_key, is_accepted as is_taken}
use Rattle.epic_ledger.specs.History.{History, emitted}
use Rattle.epic_ledger.specs.Lawful.{IsLawful}
use Rattle.epic_model.specs.Passing.{most_emitted, answer_at, turned_at, arrival_at, arrived_at}
use Rattle.epic_model.specs.Windows.{router_window, host_window}

-- from a moment on a window tells the same as these entries, in whatever order it holds them; its settings are the topology's
pub record StandsFor (t : Network) (now : ℕ) (window : Held) (entries : Entries) : Type 0 where
  pub tells : Same t.profile now window.entries entries
  pub profile : window.profile ≡ t.profile
  pub latest : window.latest ≤ now

-- what it tells of a key is what these entries tell
abbrev pub WindowsTell : Type 0
WindowsTell =
    (t : Network) (now : ℕ) (window : Held) (entries : Entries) (key : WinKey)
    → StandsFor t now window entries → told_of window.profile window.entries now key ≡ told_of t.profile entries now key

-- it goes on to stand for them as time passes
abbrev pub WindowsLast : Type 0
WindowsLast = (t : Network) (now later : ℕ) (window : Held) (entries : Entries) → now ≤ later → StandsFor t now window entries → StandsFor t later window entries

-- After a turn that there was room for, the window of the AS's router stands for the ledger that the turn leaves, where it remembers
-- what the router accepted.
abbrev pub RoutersStand : Type 0
RoutersStand =
    (t : Network) (step now : ℕ) (h : History) (a : AsId) (iface : ℕ) (bytes : List ℕ) (old new : Held)
    → IsRead bytes → IsLawful h → nat_lt most_emitted (emitted h.emissions + length bytes) ≡ false
    → StandsFor t now old (router_window h a)
    → Remembers old new now step (parse bytes) (is_accepted (answer_at t now h a iface bytes))
    → StandsFor t now new (router_window (turned_at t step now h a iface bytes).history a)

-- and the windows of others stand for it as they are
abbrev pub OthersStand : Type 0
OthersStand =
    (t : Network) (step now : ℕ) (h : History) (a : AsId) (iface : ℕ) (bytes : List ℕ) → IsRead bytes → IsLawful h
    → ((b : AsId) → a ≢ b → router_window (turned_at t step now h a iface bytes).history b ≡ router_window h b)
    × ((d : HostId) → host_window (turned_at t step now h a iface bytes).history d ≡ host_window h d)

-- so after an arrival
abbrev pub HostsStand : Type 0
HostsStand =
    (t : Network) (step now : ℕ) (h : History) (d : HostId) (bytes : List ℕ) (old new : Held)
    → StandsFor t now old (host_window h d)
    → Retains old new (end_key (parse bytes)) now step (is_taken (arrival_at t now h d bytes))
    → StandsFor t now new (host_window (arrived_at t step now h d bytes).history d)

abbrev pub OtherHostsStand : Type 0
OtherHostsStand =
    (t : Network) (step now : ℕ) (h : History) (d : HostId) (bytes : List ℕ)
    → ((e : HostId) → d ≢ e → host_window (arrived_at t step now h d bytes).history e ≡ host_window h e)
    × ((a : AsId) → router_window (arrived_at t step now h d bytes).history a ≡ router_window h a)
