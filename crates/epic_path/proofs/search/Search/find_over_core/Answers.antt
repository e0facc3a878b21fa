use Rattle.std.proofs.Common.{◌++◌, refl, sym, ap, ◌∙◌, append-nil}
use Rattle.std.specs.Prelude.{flat_map}
use Rattle.std.proofs.lemmas.Result.{err_from_is_err_and}
use Rattle.std.proofs.lemmas.List.Concat.{flat_map-append}
use Rattle.epic_path.specs.Search.{paths_over_core, paths_down, links_at, onward}
use Rattle.epic_path.proofs.FindsLaws.{finds_first, finds_in_loop, found_more, found_all, flat_map_one}
use Rattle.epic_path.proofs.search.Search.find_over_core.Goals as goal

pub returns-in_err-find_down-clause-finds : goal.returns-in_err-find_down-clause-finds
unfolding paths_over_core
returns-in_err-find_down-clause-finds c =
    let p = err_from_is_err_and c.from_residual.result c.from_residual.ensures.1 in
    rw (p.1, p.2) (finds_first c.in_err-find_down.field-0.0 c.args.self.now.most c.args.found.now.items (paths_down (links_at c.args.self.now.downs) c.args.self.now.to c.args.path.now c.args.at) _ c.find_down.new.found.items c.in_err-find_down.ensures.finds)

pub loop-core-init : goal.loop-core-init
loop-core-init c = (
  c.in_ok-find_down.ensures.finds ∙ ap (λ b. c.args.found.now.items ++ b) (sym (append-nil _)),
  c.in_ok-find_down.ensures.fits,
)

pub returns-in_err-find_after_core-clause-finds : goal.returns-in_err-find_after_core-clause-finds
unfolding paths_over_core
returns-in_err-find_after_core-clause-finds c =
    let p = err_from_is_err_and c.from_residual-in_err-find_after_core.result c.from_residual-in_err-find_after_core.ensures.1 in
    let f = onward (paths_down (links_at c.args.self.now.downs) c.args.self.now.to) c.args.path.now in
    rw (p.1, p.2)
    (finds_in_loop (flat_map f) (flat_map-append f) c.args.found.now.items (paths_down (links_at c.args.self.now.downs) c.args.self.now.to c.args.path.now c.args.at) c.at-core-items.result.now
    c.in_err-find_after_core.field-0.0 c.args.self.now.most c.loop-core.found.items c.find_after_core.new.found.items _ _ c.loop-core.core-index _ _ c.loop-core-test.true refl (flat_map_one f _) (ap (flat_map f) (sym c.at-core-items.ensures)) c.loop-core.invariant.0 c.in_err-find_after_core.ensures.finds)

pub loop-core-preserved : goal.loop-core-preserved
loop-core-preserved c =
    let f = onward (paths_down (links_at c.args.self.now.downs) c.args.self.now.to) c.args.path.now in (
      found_more (flat_map f) (flat_map-append f) c.args.found.now.items (paths_down (links_at c.args.self.now.downs) c.args.self.now.to c.args.path.now c.args.at) c.at-core-items.result.now
          c.loop-core.found.items _ _ c.loop-core.core-index _ _ c.loop-core-test.true refl (flat_map_one f _) c.loop-core.invariant.0 c.in_ok-find_after_core.ensures.finds,
      c.in_ok-find_after_core.ensures.fits,
    )

pub returns-clause-finds : goal.returns-clause-finds
unfolding paths_over_core
returns-clause-finds c =
    let f = onward (paths_down (links_at c.args.self.now.downs) c.args.self.now.to) c.args.path.now in
    found_all (flat_map f) (flat_map-append f) c.args.found.now.items (paths_down (links_at c.args.self.now.downs) c.args.self.now.to c.args.path.now c.args.at) c.at-core-items.result.now
    c.loop-core.found.items _ c.loop-core.core-index c.loop-core-test.false (ap (flat_map f) (sym c.at-core-items.ensures)) c.loop-core.invariant.0
