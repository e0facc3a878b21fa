use Rattle.std.proofs.Common.{ap}
use Rattle.std.specs.Prelude.{unwrap_or}
use Rattle.epic_window.specs.Counts.{in_slot, total_of, no_total}
use Rattle.epic_window.proofs.growth.grow.Goals as goal

pub returns-in_err-grow_map-2-clause-slots : goal.returns-in_err-grow_map-2-clause-slots
unfolding in_slot
returns-in_err-grow_map-2-clause-slots c a b = ap (λ o. unwrap_or o 0) (c.grow_map-2.ensures.entries.2 (record { asn = a; bucket = b }))

pub returns-in_err-grow_map-3-clause-slots : goal.returns-in_err-grow_map-3-clause-slots
unfolding in_slot
returns-in_err-grow_map-3-clause-slots c a b = ap (λ o. unwrap_or o 0) (c.grow_map-2.ensures.entries.2 (record { asn = a; bucket = b }))

pub returns-in_err-grow_map-3-clause-totals : goal.returns-in_err-grow_map-3-clause-totals
unfolding total_of
returns-in_err-grow_map-3-clause-totals c a = ap (λ o. unwrap_or o no_total) (c.grow_map-3.ensures.entries.2 a)

pub returns-clause-slots : goal.returns-clause-slots
unfolding in_slot
returns-clause-slots c a b = ap (λ o. unwrap_or o 0) (c.grow_map-2.ensures.entries.2 (record { asn = a; bucket = b }))

pub returns-clause-totals : goal.returns-clause-totals
unfolding total_of
returns-clause-totals c a = ap (λ o. unwrap_or o no_total) (c.grow_map-3.ensures.entries.2 a)
