use Rattle.std.proofs.Common.{◌≡◌, List, [], ◌∷◌, length, get_or, refl, below_more, below_none, arith}
use Rattle.std.specs.Prelude.{IsSome}
use Rattle.epic_num.specs.Chains.{issue_at, chain, last_names}
use Rattle.epic_num.specs.declared.passed.Place.TheVariants.{Host}
use Rattle.epic_layout.specs.Layout.{parse, route_in, segments_in, segment_at}
use Rattle.epic_layout.specs.Pieces.{number}
use Rattle.epic_layout.specs.Route.{hops_of, no_segment}
use Rattle.epic_ledger.specs.Facts.{issues_in, as_issue, packet_at}
use Rattle.epic_ledger.specs.History.{Emission, emission_at}
use Rattle.epic_ledger.specs.Lawful.{FitsSend, FitsPass}
use Rattle.epic_ledger.specs.declared.event.Event.{Event}
use Rattle.epic_ledger.specs.declared.event.Event.TheVariants.{Issue}
use Rattle.epic_ledger.specs.declared.tests.TheConstants.{FIRST_HOP, SECOND_HOP, PACKET, TARGET}
use Rattle.epic_ledger.proofs.tests.send.Goals as goal

emissions : List Emission
emissions = record { place = Host TARGET; bytes = PACKET } ∷ []

events : List Event
events = Issue 7 1 FIRST_HOP 0 ∷ Issue 7 2 SECOND_HOP 1 ∷ []

fits_send : FitsSend emissions (issues_in events) 1 (2 ∷ [])
unfolding emissions events emission_at packet_at parse route_in segments_in segment_at number issue_at chain last_names as_issue
fits_send = record {
  there = refl;
  count = refl;
  issued = below_more (λ i. IsSome (issue_at (issues_in events) (get_or (2 ∷ []) i 0))) 0 (below_none (λ i. IsSome (issue_at (issues_in events) (get_or (2 ∷ []) i 0)))) refl;
  chains =
      below_more
      (λ i. length (chain (issues_in events) (get_or (2 ∷ []) i 0)) ≡ (get_or (packet_at emissions 1).route.segments i no_segment).count)
      0 (below_none (λ i. length (chain (issues_in events) (get_or (2 ∷ []) i 0)) ≡ (get_or (packet_at emissions 1).route.segments i no_segment).count))
      refl;
}

fits_pass : FitsPass emissions 1 0
unfolding emissions emission_at packet_at parse route_in segments_in segment_at number hops_of
fits_pass = record { there = refl; within = omega arith }

pub record_event-requires-clause-fits : goal.record_event-requires-clause-fits
unfolding emissions events
record_event-requires-clause-fits c = rw (c.push.ensures.items, c.new-segments.ensures, c.requires.issues, c.requires.emissions) fits_send

pub record_event-requires-2-clause-fits : goal.record_event-requires-2-clause-fits
unfolding emissions
record_event-requires-2-clause-fits c = rw (c.record_event.ensures.emissions, c.requires.emissions) fits_pass
