use Rattle.std.proofs.Common.{◌≡◌, ◌<◌, sym, subst, rules}
use Rattle.std.specs.Prelude.{cond, ◌==◌}
use Rattle.epic_num.specs.declared.name.AsId.{AsId}
use Rattle.epic_window.specs.Counts.{total_of, with_one}
use Rattle.epic_window.proofs.Tallies.{has_total}
use Rattle.epic_window.proofs.TotalLaws.{settled_below}
use Rattle.epic_window.proofs.totals.count_one.Goals as goal

pub returns-then-raise-clause-counts : goal.returns-then-raise-clause-counts
returns-then-raise-clause-counts c =
    let old = c.args.totals.now.entries in
    let below : (total_of old c.args.asn).live < c.args.profile.now.window = search rules in
    subst
    (λ t. (t.live < c.args.profile.now.window) × ((a : AsId) → total_of c.raise.new.totals.entries a ≡ cond (c.args.asn.0 == a.0) (with_one t) (total_of old a)))
    (sym (settled_below c.args.profile.now c.args.slots.now.entries c.args.asn (total_of old c.args.asn) c.args.now below))
    (below, λ a. c.if-raise.ensures.totals a)

pub keep-requires : goal.keep-requires
keep-requires c more =
    has_total c.args.profile.now c.args.slots.now.entries _ c.args.asn c.args.now (subst (λ t. 0 < t.live) c.settled-total.ensures more)
