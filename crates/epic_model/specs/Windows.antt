-- What routers and destinations remember of packets: all of it is read from the ledger.
use Rattle.std.specs.Prelude.{◌≡◌, ℕ, ◌&&◌, if◌then◌else◌, List, filter_map, slice_get, Option, None, Some}
use Rattle.epic_num.specs.declared.name.AsId.{AsId}
use Rattle.epic_num.specs.declared.name.HostId.{HostId}
use Rattle.epic_num.specs.Levels.{is_timed}
use Rattle.epic_num.specs.Same.{same_as, same_host}
use Rattle.epic_window.specs.Entries.{Entries}
use Rattle.epic_window.specs.declared.key.WinKey.{WinKey}
use Rattle.epic_router.specs.Checks.{is_turn}
use Rattle.epic_router.specs.Remembering.{key_at}
use Rattle.epic_ledger.specs.History.{History, Emission}
use Rattle.epic_ledger.specs.Facts.{packet_at}
use Rattle.epic_ledger.specs.declared.event.Event.{Event}
use Rattle.epic_ledger.specs.declared.event.Event.TheVariants as event

-- What the router of an AS remembers of an event: the packets of levels 1 to 3 that it accepted, by the hop at which each came to
-- it, with the step.
unfoldable pub router_entry : List Emission → AsId → Event → Option (WinKey × ℕ)
router_entry emissions a (event.Pass step b hop generation emission) =
    let p = packet_at emissions emission in
    if same_as b a && is_timed p.first && is_turn p hop then Some (key_at p hop, step) else None
router_entry emissions a (event.Issue step number name parent) = None
router_entry emissions a (event.Fetch step source owner epoch) = None
router_entry emissions a (event.Send step emission segments) = None
router_entry emissions a (event.Arrive step host src ts hops checked) = None
router_entry emissions a (event.Reveal step holder) = None
router_entry emissions a (event.Roll step b generation) = None

abbrev pub router_window : History → AsId → Entries
router_window h a = filter_map (router_entry h.emissions a) h.events

-- what a host remembers of an event: the packets of levels 2 and 3 that it accepted
unfoldable pub host_entry : HostId → Event → Option (WinKey × ℕ)
host_entry d (event.Arrive step host src ts hops checked) =
    if same_host host d && checked then Some (record { src = src; ts = ts; hop = hops }, step) else None
host_entry d (event.Issue step number name parent) = None
host_entry d (event.Fetch step source owner epoch) = None
host_entry d (event.Send step emission segments) = None
host_entry d (event.Pass step a hop generation emission) = None
host_entry d (event.Reveal step holder) = None
host_entry d (event.Roll step a generation) = None

abbrev pub host_window : History → HostId → Entries
host_window h d = filter_map (host_entry d) h.events

-- ---- no packet twice

-- of the events that are remembered no two have one key
abbrev pub AreOnce : (Event → Option (WinKey × ℕ)) → List Event → Type 0
AreOnce remembered events =
    (m n : ℕ) (e d : Event) (x y : WinKey × ℕ)
    → slice_get events m ≡ Some e → slice_get events n ≡ Some d
    → remembered e ≡ Some x → remembered d ≡ Some y
    → x.0 ≡ y.0 → m ≡ n

-- no router accepts a packet of levels 1 to 3 twice at one hop, and no host a packet of levels 2 and 3 twice
pub record NoneTwice (h : History) : Type 0 where
  pub routers : (a : AsId) → AreOnce (router_entry h.emissions a) h.events
  pub hosts : (d : HostId) → AreOnce (host_entry d) h.events
