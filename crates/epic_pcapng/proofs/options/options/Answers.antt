use Rattle.std.proofs.Common.{◌≡◌, ℕ, suc, ◌+◌, ◌-◌, ◌<◌, List, length, drop, length-drop, Option, Some, Result, Ok, Err, sym, ◌∙◌, arith}
use Rattle.std.proofs.lemmas.Result.{err_from_is_err_and}
use Rattle.epic_capture.specs.declared.numbers.Order.{Order}
use Rattle.epic_pcapng.specs.declared.damage.NgError.{NgError}
use Rattle.epic_pcapng.specs.declared.options.Opt.{Opt}
use Rattle.epic_pcapng.specs.declared.options.Opt.TheVariants.{Last, Other, Resolution}
use Rattle.epic_pcapng.specs.declared.options.Resolved.{Resolved}
use Rattle.epic_pcapng.specs.Options.{option_at}
use Rattle.epic_pcapng.proofs.OptionRuns.{ReadsOn, options_step, options_end, other_fits, resolution_fits}
use Rattle.epic_pcapng.proofs.options.options.Goals as goal
use Rattle.epic_pcapng.proofs.options.options.Goals.{in-Other, in-Resolution}

-- which option was found
option_is : (order : Order) (at : ℕ) (rest : List ℕ) (r : Result Opt NgError) (o o2 : Opt) → r ≡ option_at order at rest → r ≡ Ok o → o ≡ o2 → option_at order at rest ≡ Ok o2
option_is order at rest r o o2 is was same = cc

-- one option fewer may come
one_less : (end counter : ℕ) → counter < end → end - counter ≡ suc (end - (counter + 1))
one_less end counter h = omega arith

other_on : (order : Order) (first : ℕ) (bytes : List ℕ) (most more at at2 : ℕ) (rest rest2 : List ℕ) (last last2 : Option Resolved) (len : ℕ)
    → most ≡ suc more → option_at order at rest ≡ Ok (Other len) → at2 ≡ at + len → rest2 ≡ drop len rest → last2 ≡ last
    → ReadsOn order first bytes most at rest last → ReadsOn order first bytes more at2 rest2 last2
other_on order first bytes most more at at2 rest rest2 last last2 len most_is is at_is rest_is last_is so_far =
    let fits = other_fits order at rest len is in
    rw (at_is, rest_is, last_is) (record {
      same = options_step order first bytes most more at rest last (Ok (Other len)) most_is is so_far;
      fed = omega (arith, length-drop len rest, fits, so_far.fed);
    })

resolution_on : (order : Order) (first : ℕ) (bytes : List ℕ) (most more at at2 : ℕ) (rest rest2 : List ℕ) (last last2 : Option Resolved) (resolved : Resolved)
    → most ≡ suc more → option_at order at rest ≡ Ok (Resolution resolved) → at2 ≡ at + 8 → rest2 ≡ drop 8 rest → last2 ≡ Some resolved
    → ReadsOn order first bytes most at rest last → ReadsOn order first bytes more at2 rest2 last2
resolution_on order first bytes most more at at2 rest rest2 last last2 resolved most_is is at_is rest_is last_is so_far =
    let fits = resolution_fits order at rest resolved is in
    rw (at_is, rest_is, last_is) (record {
      same = options_step order first bytes most more at rest last (Ok (Resolution resolved)) most_is is so_far;
      fed = omega (arith, length-drop 8 rest, fits, so_far.fed);
    })

pub returns-in_err-option_at : goal.returns-in_err-option_at
returns-in_err-option_at c =
    let p = err_from_is_err_and c.from_residual.result c.from_residual.ensures.1 in
    rw (p.1, p.2) (sym (options_step c.args.order c.args.offset c.args.bytes.now _ _ c.loop.at c.loop.rest.now c.loop.last (Err c.in_err-option_at.field-0.0)
    (one_less (length c.args.bytes.now) c.loop.counter c.loop-test.true) (sym c.option_at.ensures ∙ c.in_err-option_at.was) c.loop.invariant))

pub returns-in-Last : goal.returns-in-Last
returns-in-Last c =
    sym (options_step c.args.order c.args.offset c.args.bytes.now _ _ c.loop.at c.loop.rest.now c.loop.last (Ok Last)
    (one_less (length c.args.bytes.now) c.loop.counter c.loop-test.true)
    (option_is c.args.order c.loop.at c.loop.rest.now _ _ Last c.option_at.ensures c.in_ok-option_at.was c.in-Last.is) c.loop.invariant)

pub behind-rest-requires : goal.behind-rest-requires
behind-rest-requires c =
    other_fits c.args.order c.loop.at c.loop.rest.now c.in-Other.len
    (option_is c.args.order c.loop.at c.loop.rest.now _ _ (Other c.in-Other.len) c.option_at.ensures c.in_ok-option_at.was c.in-Other.is)

pub overflow_add-at : goal.overflow_add-at
overflow_add-at c =
    let fits = other_fits c.args.order c.loop.at c.loop.rest.now c.in-Other.len
    (option_is c.args.order c.loop.at c.loop.rest.now _ _ (Other c.in-Other.len) c.option_at.ensures c.in_ok-option_at.was c.in-Other.is) in
    omega (arith, fits, c.loop.invariant.fed, c.requires)

pub behind-rest-requires-in-Resolution : goal.behind-rest-requires-in-Resolution
behind-rest-requires-in-Resolution c =
    resolution_fits c.args.order c.loop.at c.loop.rest.now c.in-Resolution.resolved
    (option_is c.args.order c.loop.at c.loop.rest.now _ _ (Resolution c.in-Resolution.resolved) c.option_at.ensures c.in_ok-option_at.was c.in-Resolution.is)

pub loop-preserved : goal.loop-preserved
loop-preserved c = elim c.match-branch-2.branch [
  | in-Other w ↦
      let rest_is : c.match-branch-2.rest.now ≡ drop w.in-Other.len c.loop.rest.now = cc in
      other_on c.args.order c.args.offset c.args.bytes.now _ _ c.loop.at c.match-branch-2.at c.loop.rest.now c.match-branch-2.rest.now c.loop.last c.match-branch-2.last w.in-Other.len
      (one_less (length c.args.bytes.now) c.loop.counter c.loop-test.true)
      (option_is c.args.order c.loop.at c.loop.rest.now _ _ (Other w.in-Other.len) c.option_at.ensures c.in_ok-option_at.was w.in-Other.is)
      (cc) rest_is (cc) c.loop.invariant
  | in-Resolution w ↦
      let rest_is : c.match-branch-2.rest.now ≡ drop 8 c.loop.rest.now = cc in
      resolution_on c.args.order c.args.offset c.args.bytes.now _ _ c.loop.at c.match-branch-2.at c.loop.rest.now c.match-branch-2.rest.now c.loop.last c.match-branch-2.last w.in-Resolution.resolved
      (one_less (length c.args.bytes.now) c.loop.counter c.loop-test.true)
      (option_is c.args.order c.loop.at c.loop.rest.now _ _ (Resolution w.in-Resolution.resolved) c.option_at.ensures c.in_ok-option_at.was w.in-Resolution.is)
      (cc) rest_is (cc) c.loop.invariant
]

pub returns : goal.returns
returns c =
    sym (options_end c.args.order c.args.offset c.args.bytes.now (length c.args.bytes.now - c.loop.counter) c.loop.at c.loop.rest.now c.loop.last (omega arith) c.loop.invariant)
