use Rattle.std.proofs.Common.{◌++◌, Err, refl, sym, ap, ◌∙◌, subst, append-nil}
use Rattle.std.specs.Prelude.{flat_map}
use Rattle.std.proofs.lemmas.Result.{err_from_is_err_and}
use Rattle.epic_path.specs.Search.{Finds, paths_from, paths_over_core, links_at, no_path, onward, up_links}
use Rattle.epic_path.proofs.FindsLaws.{finds_first, finds_in_loop, found_more, found_all, over_ups-append, over_no_ups}
use Rattle.epic_path.proofs.search.Search.find_from.Goals as goal

pub returns-in_err-find_over_core-clause-finds : goal.returns-in_err-find_over_core-clause-finds
unfolding paths_from
returns-in_err-find_over_core-clause-finds c =
    let p = err_from_is_err_and c.from_residual.result c.from_residual.ensures.1 in
    rw (p.1, p.2) (finds_first c.in_err-find_over_core.field-0.0 c.args.self.now.most c.args.found.now.items (paths_over_core (links_at c.args.self.now.cores) (links_at c.args.self.now.downs) c.args.self.now.to no_path c.args.from) _ c.find_over_core.new.found.items
    (subst (λ p. Finds c.args.self.now.most c.args.found.now.items (paths_over_core (links_at c.args.self.now.cores) (links_at c.args.self.now.downs) c.args.self.now.to p c.args.from) c.find_over_core.new.found.items (Err c.in_err-find_over_core.field-0.0)) c.no_path.ensures.path c.in_err-find_over_core.ensures.finds))

pub loop-segment-init : goal.loop-segment-init
loop-segment-init c = (
  (rw c.no_path.ensures.path at c.in_ok-find_over_core.ensures.finds) ∙ ap (λ b. c.args.found.now.items ++ b) (sym (ap (λ ys. paths_over_core (links_at c.args.self.now.cores) (links_at c.args.self.now.downs) c.args.self.now.to no_path c.args.from ++ ys) (over_no_ups _ c.args.from) ∙ append-nil _)),
  c.in_ok-find_over_core.ensures.fits,
)

pub returns-in_err-find_after_up-clause-finds : goal.returns-in_err-find_after_up-clause-finds
unfolding paths_from
returns-in_err-find_after_up-clause-finds c =
    let p = err_from_is_err_and c.from_residual-in_err-find_after_up.result c.from_residual-in_err-find_after_up.ensures.1 in
    let f = onward (paths_over_core (links_at c.args.self.now.cores) (links_at c.args.self.now.downs) c.args.self.now.to) no_path in
    rw (p.1, p.2)
    (finds_in_loop (λ segments. flat_map f (up_links segments c.args.from)) (over_ups-append f c.args.from) c.args.found.now.items
    (paths_over_core (links_at c.args.self.now.cores) (links_at c.args.self.now.downs) c.args.self.now.to no_path c.args.from) c.args.segments.now
    c.in_err-find_after_up.field-0.0 c.args.self.now.most c.loop-segment.found.items c.find_after_up.new.found.items _ _ c.loop-segment.segment-index _ _ c.loop-segment-test.true c.segment-item.is refl refl c.loop-segment.invariant.0 c.in_err-find_after_up.ensures.finds)

pub loop-segment-preserved : goal.loop-segment-preserved
loop-segment-preserved c =
    let f = onward (paths_over_core (links_at c.args.self.now.cores) (links_at c.args.self.now.downs) c.args.self.now.to) no_path in (
      found_more (λ segments. flat_map f (up_links segments c.args.from)) (over_ups-append f c.args.from) c.args.found.now.items
          (paths_over_core (links_at c.args.self.now.cores) (links_at c.args.self.now.downs) c.args.self.now.to no_path c.args.from) c.args.segments.now
          c.loop-segment.found.items _ _ c.loop-segment.segment-index _ _ c.loop-segment-test.true c.segment-item.is refl c.loop-segment.invariant.0 c.in_ok-find_after_up.ensures.finds,
      c.in_ok-find_after_up.ensures.fits,
    )

pub returns-clause-finds : goal.returns-clause-finds
unfolding paths_from
returns-clause-finds c =
    let f = onward (paths_over_core (links_at c.args.self.now.cores) (links_at c.args.self.now.downs) c.args.self.now.to) no_path in
    found_all (λ segments. flat_map f (up_links segments c.args.from)) (over_ups-append f c.args.from) c.args.found.now.items
    (paths_over_core (links_at c.args.self.now.cores) (links_at c.args.self.now.downs) c.args.self.now.to no_path c.args.from) c.args.segments.now
    c.loop-segment.found.items _ c.loop-segment.segment-index c.loop-segment-test.false refl c.loop-segment.invariant.0
