-- Sources and keys go on to stand for the ledger as other things happen.
use Rattle.std.proofs.Common.{◌≡◌, ℕ, ◌+◌, ◌==◌, Bool, true, false, List, [], ◌∷◌, ◌++◌, length, take, refl, ap, sym, subst, ◌∙◌, arith}
use Rattle.std.specs.Prelude.{◌&&◌, ◌||◌, filter_map}
use Rattle.std.specs.List.{list_any}
use Rattle.std.proofs.lemmas.Bool.Decides.{nat_tests}
use Rattle.std.proofs.lemmas.List.Folds.{list_any-append}
use Rattle.epic_num.specs.declared.name.AsId.{AsId}
use Rattle.epic_num.specs.Same.{same_as}
use Rattle.epic_layout.specs.Contents.{hop_count}
use Rattle.epic_layout.specs.Layout.{parse}
use Rattle.epic_layout.specs.Spelling.{spelling}
use Rattle.epic_keys.specs.Fetches.{Fetch, same_fetch}
use Rattle.epic_router.specs.Leaving.{packet_after}
use Rattle.epic_ledger.specs.History.{History}
use Rattle.epic_ledger.specs.Facts.{as_send, sends_in}
use Rattle.epic_ledger.specs.OneMore.{with_event}
use Rattle.epic_ledger.specs.declared.event.Event.{Event}
use Rattle.epic_ledger.specs.declared.event.Event.TheVariants as event
use Rattle.epic_audit.proofs.Lists.{one_more, none_more}
use Rattle.epic_model.specs.Keeping.{latest_sent, sent_at}
use Rattle.epic_model.specs.Passing.{left, arrives, passes_from}
use Rattle.epic_model.specs.State.{as_fetch}
use Rattle.epic_model.proofs.Grown.{passes_at}
use Rattle.epic_model.proofs.Longer.{none_behind, same_sends}
use Rattle.epic_model.proofs.Once.{after_turn, after_arrival}
use Rattle.epic_model.proofs.Riding.{lawful_there}
use Rattle.epic_actors.specs.Sources.{SourceStandsAt, source_of, SourcesStandOn, KeysStandOn, NoSendersStand, SendersStandByTurns, SendersStandByArrivals, SendersStandByOthers, KeysStandBySends, KeysStandByFetches}
use Rattle.epic_actors.proofs.SourceTables.{moved_stands}

pub no_senders_stand : NoSendersStand
no_senders_stand = (
  λ table none d. subst (SourceStandsAt (record { events = []; emissions = [] }) d) (sym (none d)) refl,
  λ keys none f. none f,
)

-- the same was sent, and the same fetched
moved_sources : (h g : History) → sends_in g ≡ sends_in h → SourcesStandOn h g
moved_sources h g same table stand d = moved_stands h g d (source_of table d) (ap (λ ss. latest_sent ss d) same) (stand d)

moved_keys : (h g : History) → filter_map as_fetch g.events ≡ filter_map as_fetch h.events → KeysStandOn h g
moved_keys h g same keys stand f = stand f ∙ ap (list_any (same_fetch f)) (sym same)

-- ---- passes

no_fetches : (events : List Event) (step : ℕ) (a : AsId) (number j : ℕ) (gs : List ℕ) → filter_map as_fetch (events ++ passes_from step a number j gs) ≡ filter_map as_fetch events
unfolding as_fetch
no_fetches events step a number j gs =
    none_behind as_fetch events (passes_from step a number j gs) (λ n e at. (let is = passes_at step a number j gs n e at in ap as_fetch is.1.1))

pub senders_stand_by_turns : SendersStandByTurns
unfolding left
senders_stand_by_turns t step now h a iface bytes read lawful =
    after_turn t step now h a iface bytes (λ g. SourcesStandOn h g × KeysStandOn h g) read (λ table s. s, λ keys s. s)
    (λ turn due hops generations acc _. (
      moved_sources h (left t step h a bytes turn due (take hops generations)).history
          (same_sends h step a (length h.emissions + 1) (parse bytes).current _ (record { place = due; bytes = spelling (packet_after t a turn (parse bytes)) }) (lawful_there h lawful)),
      moved_keys h (left t step h a bytes turn due (take hops generations)).history (no_fetches h.events step a (length h.emissions + 1) (parse bytes).current (take hops generations)),
    ))

pub senders_stand_by_arrivals : SendersStandByArrivals
unfolding arrives as_send as_fetch
senders_stand_by_arrivals t step now h d bytes =
    after_arrival t step now h d bytes (λ g. SourcesStandOn h g × KeysStandOn h g) (λ table s. s, λ keys s. s)
    (λ answer checked _ _. (
      moved_sources h (arrives t step h d (parse bytes) answer checked).history (none_more (as_send h.emissions) h.events (event.Arrive step d (parse bytes).src (parse bytes).ts (hop_count (parse bytes)) checked) refl),
      moved_keys h (arrives t step h d (parse bytes) answer checked).history (none_more as_fetch h.events (event.Arrive step d (parse bytes).src (parse bytes).ts (hop_count (parse bytes)) checked) refl),
    ))

-- ---- one event

pub senders_stand_by_others : SendersStandByOthers
senders_stand_by_others h e = (
  λ none. moved_sources h (with_event h e) (none_more (as_send h.emissions) h.events e none),
  λ none. moved_keys h (with_event h e) (none_more as_fetch h.events e none),
)

pub keys_stand_by_sends : KeysStandBySends
unfolding sent_at as_fetch
keys_stand_by_sends step h numbers p = moved_keys h (sent_at step h numbers p) (none_more as_fetch h.events (event.Send step (length h.emissions + 1) numbers) refl)

-- ---- a fetch

eq_flip : (a b : ℕ) → (a == b) ≡ (b == a)
eq_flip a b = grind (arith, nat_tests)

same_fetch_flip : (f g : Fetch) → same_fetch f g ≡ same_fetch g f
unfolding same_fetch same_as
same_fetch_flip f g i =
    eq_flip f.source.0 g.source.0 i && eq_flip f.owner.0 g.owner.0 i && eq_flip f.epoch g.epoch i

-- put behind, or in front
behind_or_first : (a b : Bool) → (a || b) ≡ (b || (a || false))
behind_or_first true true = refl
behind_or_first true false = refl
behind_or_first false true = refl
behind_or_first false false = refl

any_more : (f g : Fetch) (rows : List Fetch) → list_any (same_fetch f) (rows ++ g ∷ []) ≡ (same_fetch g f || list_any (same_fetch f) rows)
any_more f g rows =
    list_any-append (same_fetch f) rows (g ∷ [])
    ∙ (sym (behind_or_first (same_fetch f g) (list_any (same_fetch f) rows))
    ∙ ap (λ b. b || list_any (same_fetch f) rows) (same_fetch_flip f g))

pub keys_stand_by_fetches : KeysStandByFetches
unfolding as_fetch
keys_stand_by_fetches step h g old new stand adds f =
    adds f
    ∙ (ap (λ b. same_fetch g f || b) (stand f)
    ∙ (sym (any_more f g (filter_map as_fetch h.events)) ∙ ap (list_any (same_fetch f)) (sym (one_more as_fetch h.events (event.Fetch step g.source g.owner g.epoch) g refl))))
