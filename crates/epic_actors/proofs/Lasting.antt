-- Routers and hosts go on to stand for the ledger as other things happen.
use Rattle.std.proofs.Common.{◌≡◌, ℕ, ◌≤◌, List, [], ◌∷◌, ◌++◌, take, Option, None, Some, refl, ap, sym, subst, ◌∙◌}
use Rattle.std.specs.Prelude.{filter_map}
use Rattle.std.specs.List.{cons_option}
use Rattle.std.proofs.lemmas.List.{append-nil}
use Rattle.std.proofs.lemmas.List.Elements.{filter_map-append}
use Rattle.epic_num.specs.declared.name.AsId.{AsId}
use Rattle.epic_num.specs.declared.name.HostId.{HostId}
use Rattle.epic_topo.specs.Network.{Network}
use Rattle.epic_router.specs.Routers.{RouterState}
use Rattle.epic_ends.specs.Destinations.{Destination}
use Rattle.epic_ledger.specs.History.{History, Emission}
use Rattle.epic_ledger.specs.Facts.{issues_in}
use Rattle.epic_ledger.specs.Lawful.{IsLawful}
use Rattle.epic_ledger.specs.OneMore.{with_event}
use Rattle.epic_ledger.specs.declared.event.Event.{Event}
use Rattle.epic_ledger.specs.declared.event.Event.TheVariants as event
use Rattle.epic_audit.proofs.Lists.{same_answers}
use Rattle.epic_model.specs.Keeping.{sent_at}
use Rattle.epic_model.specs.Passing.{turned_at}
use Rattle.epic_model.specs.Windows.{router_entry, router_window, host_entry, host_window}
use Rattle.epic_model.proofs.Grown.{entry_stays}
use Rattle.epic_model.proofs.Standing.{windows_last, others_stand, other_hosts_stand}
use Rattle.epic_actors.specs.Hosts.{HostStandsAt, host_of}
use Rattle.epic_actors.specs.Routers.{StandsAt, router_of}
use Rattle.epic_actors.specs.Lasting.{IsOther, NoneStand, StandAsTimePasses, RoutersStandByArrivals, HostsStandByTurns, StandByOthers, StandBySends}
use Rattle.epic_actors.proofs.HostTables as hosts
use Rattle.epic_actors.proofs.Tables as routers

pub none_stand : NoneStand
none_stand t now = (
  λ table none a. subst (StandsAt t now (record { events = []; emissions = [] }) a) (sym (none a)) refl,
  λ table none d. subst (HostStandsAt t now (record { events = []; emissions = [] }) d) (sym (none d)) refl,
)

-- ---- time

later_router : (t : Network) (h : History) (now later : ℕ) (a : AsId) (o : Option RouterState) → now ≤ later → StandsAt t now h a o → StandsAt t later h a o
later_router t h now later a None more s = s
later_router t h now later a (Some r) more s = (s.0, windows_last t now later r.window (router_window h a) more s.1)

later_host : (t : Network) (h : History) (now later : ℕ) (d : HostId) (o : Option Destination) → now ≤ later → HostStandsAt t now h d o → HostStandsAt t later h d o
later_host t h now later d None more s = s
later_host t h now later d (Some x) more s = (s.0, windows_last t now later x.window (host_window h d) more s.1)

pub stand_as_time_passes : StandAsTimePasses
stand_as_time_passes t h now later more = record {
  routers = λ table s a. later_router t h now later a (router_of table a) more (s a);
  hosts = λ table s d. later_host t h now later d (host_of table d) more (s d);
}

-- ---- passes

pub routers_stand_by_arrivals : RoutersStandByArrivals
routers_stand_by_arrivals t step now h d bytes table s a =
    routers.moved_stands t now h _ a (router_of table a) ((other_hosts_stand t step now h d bytes).1 a) (s a)

pub hosts_stand_by_turns : HostsStandByTurns
hosts_stand_by_turns t step now h a iface bytes table read lawful s d =
    hosts.moved_stands t now h (turned_at t step now h a iface bytes).history d (host_of table d) ((others_stand t step now h a iface bytes read lawful).1 d) (s d)

-- ---- other events

unremembered : (es : List Emission) (a : AsId) (e : Event) → IsOther e → router_entry es a e ≡ None
unfolding router_entry
unremembered es a (event.Pass step b hop generation emission) other = absurd other
unremembered es a (event.Arrive step host src ts hops checked) other = absurd other
unremembered es a (event.Issue step number name parent) other = refl
unremembered es a (event.Fetch step source owner epoch) other = refl
unremembered es a (event.Send step emission segments) other = refl
unremembered es a (event.Reveal step holder) other = refl
unremembered es a (event.Roll step b generation) other = refl

unremembered_host : (d : HostId) (e : Event) → IsOther e → host_entry d e ≡ None
unfolding host_entry
unremembered_host d (event.Pass step b hop generation emission) other = absurd other
unremembered_host d (event.Arrive step host src ts hops checked) other = absurd other
unremembered_host d (event.Issue step number name parent) other = refl
unremembered_host d (event.Fetch step source owner epoch) other = refl
unremembered_host d (event.Send step emission segments) other = refl
unremembered_host d (event.Reveal step holder) other = refl
unremembered_host d (event.Roll step b generation) other = refl

one_none : {X Y : Type 0} (f : X → Option Y) (xs : List X) (x : X) → f x ≡ None → filter_map f (xs ++ x ∷ []) ≡ filter_map f xs
one_none f xs x none =
    filter_map-append f xs (x ∷ [])
    ∙ (ap (λ o. filter_map f xs ++ cons_option o []) none ∙ append-nil (filter_map f xs))

same_host_window : (h : History) (e : Event) (d : HostId) → IsOther e → filter_map (host_entry d) (h.events ++ e ∷ []) ≡ host_window h d
same_host_window h e d other = one_none (host_entry d) h.events e (unremembered_host d e other)

pub stand_by_others : StandByOthers
stand_by_others t now h e lawful other = record {
  routers = λ table s a.
      routers.moved_stands t now h _ a (router_of table a) (one_none (router_entry h.emissions a) h.events e (unremembered h.emissions a e other)) (s a);
  hosts = λ table s d. hosts.moved_stands t now h (with_event h e) d (host_of table d) (same_host_window h e d other) (s d);
}

-- among more emissions
same_window : (h : History) (more : List Emission) (e : Event) (a : AsId) → IsLawful h → IsOther e
    → filter_map (router_entry (h.emissions ++ more) a) (h.events ++ e ∷ []) ≡ router_window h a
same_window h more e a lawful other =
    one_none (router_entry (h.emissions ++ more) a) h.events e (unremembered (h.emissions ++ more) a e other)
    ∙ same_answers (router_entry (h.emissions ++ more) a) (router_entry h.emissions a) h.events
    (λ n d at. entry_stays h.emissions more a (issues_in (take n h.events)) d (lawful.fit n d at))

pub stand_by_sends : StandBySends
unfolding sent_at
stand_by_sends t now step h numbers p lawful = record {
  routers = λ table s a. routers.moved_stands t now h _ a (router_of table a) (same_window h _ _ a lawful tt) (s a);
  hosts = λ table s d. hosts.moved_stands t now h (sent_at step h numbers p) d (host_of table d) (same_host_window h _ d tt) (s d);
}
