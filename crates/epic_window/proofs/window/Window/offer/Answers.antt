use Rattle.std.proofs.Common.{◌≤◌, ◌∙◌, sym, refl, arith}
use Rattle.std.specs.Prelude.{nat_lt}
use Rattle.epic_window.specs.Counts.{settled, total_of}
use Rattle.epic_window.specs.Room.{room}
use Rattle.epic_window.specs.declared.totals.Total.{Total}
use Rattle.epic_window.proofs.Answering.{answers_seen, answers_full, answers_fresh}
use Rattle.epic_window.proofs.Buckets.{fresh_from, later_bucket}
use Rattle.epic_window.proofs.SameEntries.{Same-added, Same-refl}
use Rattle.epic_window.proofs.Tallies.{live_exact, live-le, slot-le, total_settled, Tallied-added, Tallied-kept, Tallied-later}
use Rattle.epic_window.proofs.window.Window.offer.Goals as goal

pub invariant_of-self : goal.invariant_of-self
invariant_of-self c = Tallied-later _ _ _ _ _ _ (rw (← c.self.view_is) at c.requires.latest) c.self.invariant

pub returns-in-Some : goal.returns-in-Some
returns-in-Some c =
    let fresh = rw (← c.self.view_is) at c.requires.fresh in
    rw (← c.self.view_is)
    (record {
      answers = answers_seen _ _ _ _ _ fresh (sym c.in-Some.ensures);
      entries = Same-refl _ _ _;
      latest = refl;
      profile = refl;
      spare = omega arith;
    })

pub count_one-requires-clause-early : goal.count_one-requires-clause-early
count_one-requires-clause-early c =
    let later = rw (← c.self.view_is) at c.requires.latest in
    omega (arith, (c.self.invariant.totals_of c.args.key.src.asn).early, later_bucket c.self.inside.profile c.self.inside.latest c.args.now later)

pub count_one-requires-clause-room : goal.count_one-requires-clause-room
unfolding room
count_one-requires-clause-room c = let more = rw (← c.self.view_is) at c.requires.room in omega arith

pub invariant_of-self-in-Some-count_one : goal.invariant_of-self-in-Some-count_one
invariant_of-self-in-Some-count_one c =
    let later = rw (← c.self.view_is) at c.requires.latest in
    let asn = c.args.key.src.asn in
    let total : Total = settled c.self.inside.profile c.self.inside.slots.entries asn (total_of c.self.inside.totals.entries asn) c.args.now in
    Tallied-kept _ _ _ _ _ _ _ asn total (nat_lt 0 total.live) later c.self.invariant
    (total_settled _ _ _ _ _ _ _ _ later c.self.invariant refl)
    c.in-Some-count_one.ensures.counts.2

pub returns-in-Some-count_one : goal.returns-in-Some-count_one
unfolding room
returns-in-Some-count_one c =
    let later = rw (← c.self.view_is) at c.requires.latest in
    let fresh = rw (← c.self.view_is) at c.requires.fresh in
    let asn = c.args.key.src.asn in
    let total : Total = settled c.self.inside.profile c.self.inside.slots.entries asn (total_of c.self.inside.totals.entries asn) c.args.now in
    let counts = c.in-Some-count_one.ensures.counts in
    let reaches : c.self.inside.profile.window ≤ total.live = omega (arith, counts.0, counts.1) in
    rw (← c.self.view_is)
    (record {
      answers = answers_full _ _ _ _ _ fresh (sym c.turn_of.ensures ∙ c.in_default.is)
          (counts.0 ∙ live_exact _ _ _ _ _ _ _ total later c.self.invariant refl reaches)
          counts.1;
      entries = Same-refl _ _ _;
      latest = refl;
      profile = refl;
      spare = omega (arith, c.in-Some-count_one.ensures.spare);
    })

pub add-requires-clause-room : goal.add-requires-clause-room
unfolding room
add-requires-clause-room c = let more = rw (← c.self.view_is) at c.requires.room in omega arith

pub add-requires-2-clause-room : goal.add-requires-2-clause-room
unfolding room
add-requires-2-clause-room c = let more = rw (← c.self.view_is) at c.requires.room in omega arith

pub add-requires-2-clause-small : goal.add-requires-2-clause-small
add-requires-2-clause-small c =
    let later = rw (← c.self.view_is) at c.requires.latest in
    let fresh = rw (← c.self.view_is) at c.requires.fresh in
    let asn = c.args.key.src.asn in
    let total : Total = settled c.self.inside.profile c.self.inside.slots.entries asn (total_of c.self.inside.totals.entries asn) c.args.now in
    let is = total_settled _ _ _ _ _ _ asn total later c.self.invariant refl in
    let starts : total.from ≤ c.bucket.result =
    omega (arith, is.early, c.bucket.ensures.value, fresh_from c.self.inside.profile c.args.key.ts c.args.now fresh) in
    let le = slot-le c.self.inside.turns.entries c.self.inside.slots.entries asn total.from c.bucket.result starts (c.self.invariant.slots_of asn c.bucket.result) in
    omega (arith, is.live_is, le, c.in_default-count_one.ensures.counts.0)

pub invariant_of-self-2 : goal.invariant_of-self-2
invariant_of-self-2 c =
    let later = rw (← c.self.view_is) at c.requires.latest in
    let fresh = rw (← c.self.view_is) at c.requires.fresh in
    Tallied-added _ _ _ _ _ _ _ _ _ c.args.key c.args.turn c.bucket.result _ later fresh c.bucket.ensures.value c.self.invariant
    (total_settled _ _ _ _ _ _ _ _ later c.self.invariant refl)
    c.add.ensures.entries c.add-2.ensures.counts c.in_default-count_one.ensures.counts.1

pub returns : goal.returns
unfolding room
returns c =
    let later = rw (← c.self.view_is) at c.requires.latest in
    let fresh = rw (← c.self.view_is) at c.requires.fresh in
    let asn = c.args.key.src.asn in
    let total : Total = settled c.self.inside.profile c.self.inside.slots.entries asn (total_of c.self.inside.totals.entries asn) c.args.now in
    let is = total_settled _ _ _ _ _ _ asn total later c.self.invariant refl in
    rw (← c.self.view_is)
    (record {
      answers = answers_fresh _ _ _ _ fresh (sym c.turn_of.ensures ∙ c.in_default.is)
          (omega (arith, live-le _ _ _ _ _ is, c.in_default-count_one.ensures.counts.0));
      entries = Same-added _ _ _ _ _ _ c.add.ensures.entries c.add.ensures.turns;
      latest = refl;
      profile = refl;
      spare = omega (arith, c.add.ensures.spare, c.add-2.ensures.spare, c.in_default-count_one.ensures.spare);
    })
