use Rattle.std.proofs.Common.{◌≡◌, ℕ, ◌<◌, ◌≤◌, false, eqb, List, length, drop, length-drop, ap, sym, ◌∙◌, arith}
use Rattle.std.proofs.lemmas.Bool.{eq-eqb, eqb-true, true≢false}
use Rattle.std.proofs.lemmas.Result.{err_from_is_err_and}
use Rattle.epic_pcapng.proofs.Blocks.{heading_fits, ends_fits}
use Rattle.epic_pcapng.proofs.Runs.{least_12}
use Rattle.epic_pcapng.proofs.Unread.{unread_more, unread_done, unread_head, unread_end}
use Rattle.epic_pcapng.proofs.cursor.unread.Goals as goal

not_empty : (n : ℕ) → eqb n 0 ≡ false → n ≡ 0 → ⊥
not_empty n h none = true≢false (sym (eq-eqb n 0 none) ∙ h)

smaller : (xs ys : List ℕ) (n : ℕ) → ys ≡ drop n xs → 0 < n → n ≤ length xs → length ys < length xs
smaller xs ys n is some there = omega (arith, ap length is, length-drop n xs)

pub returns-in_err-head : goal.returns-in_err-head
returns-in_err-head c =
    let p = err_from_is_err_and c.from_residual.result c.from_residual.ensures.1 in
    rw (p.1, p.2) (unread_head c.args.order c.args.begin c.args.bytes.now c.loop-rest.order c.loop-rest.at c.loop-rest.rest.now c.in_err-head.field-0.0
    (not_empty _ (sym c.is_empty.ensures ∙ c.loop-rest-test.true)) (sym c.heading.ensures ∙ c.in_err-head.was) c.loop-rest.invariant)

pub ends-requires-clause-long : goal.ends-requires-clause-long
ends-requires-clause-long c =
    let fits = heading_fits c.loop-rest.order c.loop-rest.at c.loop-rest.rest.now c.in_ok-head.head (sym c.heading.ensures ∙ c.in_ok-head.was) in
    omega (arith, fits.least, least_12 c.in_ok-head.head)

pub returns-in_err-ends : goal.returns-in_err-ends
returns-in_err-ends c =
    let p = err_from_is_err_and c.from_residual-in_err-ends.result c.from_residual-in_err-ends.ensures.1 in
    rw (p.1, p.2) (unread_end c.args.order c.args.begin c.args.bytes.now c.loop-rest.order c.loop-rest.at c.loop-rest.rest.now c.in_ok-head.head c.in_err-ends.field-0.0
    (not_empty _ (sym c.is_empty.ensures ∙ c.loop-rest-test.true)) (sym c.heading.ensures ∙ c.in_ok-head.was) (sym c.ends.ensures ∙ c.in_err-ends.was) c.loop-rest.invariant)

pub behind-rest-requires : goal.behind-rest-requires
behind-rest-requires c =
    let fits = ends_fits c.in_ok-head.head.order c.loop-rest.at c.in_ok-head.head.len 0 c.loop-rest.rest.now (sym c.ends.ensures ∙ c.in_ok-ends.was) in
    omega (arith, fits.0)

pub loop-rest-smaller : goal.loop-rest-smaller
loop-rest-smaller c =
    let fits = heading_fits c.loop-rest.order c.loop-rest.at c.loop-rest.rest.now c.in_ok-head.head (sym c.heading.ensures ∙ c.in_ok-head.was) in
    let there = ends_fits c.in_ok-head.head.order c.loop-rest.at c.in_ok-head.head.len 0 c.loop-rest.rest.now (sym c.ends.ensures ∙ c.in_ok-ends.was) in
    smaller c.loop-rest.rest.now c.behind-rest.result.now c.in_ok-head.head.len c.behind-rest.ensures
    (omega (arith, fits.least, least_12 c.in_ok-head.head)) (omega (arith, there.0))

pub loop-rest-preserved : goal.loop-rest-preserved
loop-rest-preserved c =
    rw (c.behind-rest.ensures, c.from-at.ensures)
    (unread_more c.args.order c.args.begin c.args.bytes.now c.loop-rest.order c.loop-rest.at c.loop-rest.rest.now c.in_ok-head.head
    (sym c.heading.ensures ∙ c.in_ok-head.was) (sym c.ends.ensures ∙ c.in_ok-ends.was) c.loop-rest.invariant)

pub returns : goal.returns
returns c =
    unread_done c.args.order c.args.begin c.args.bytes.now c.loop-rest.order c.loop-rest.at c.loop-rest.rest.now
    (eqb-true _ _ (sym c.is_empty.ensures ∙ c.loop-rest-test.false)) c.loop-rest.invariant
