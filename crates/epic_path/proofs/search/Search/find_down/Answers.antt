use Rattle.std.proofs.Common.{[], ◌∷◌, ◌++◌, refl, sym, ap, ◌∙◌, append-nil}
use Rattle.std.specs.Prelude.{flat_map}
use Rattle.std.proofs.lemmas.Result.{err_from_is_err_and}
use Rattle.std.proofs.lemmas.List.Concat.{flat_map-append}
use Rattle.epic_path.specs.Search.{paths_ended, paths_down, onward}
use Rattle.epic_path.proofs.FindsLaws.{finds_first, finds_in_loop, found_more, found_all, flat_map_one}
use Rattle.epic_path.proofs.search.Search.find_down.Goals as goal

pub returns-in_err-find_ended-clause-finds : goal.returns-in_err-find_ended-clause-finds
unfolding paths_down
returns-in_err-find_ended-clause-finds c =
    let p = err_from_is_err_and c.from_residual.result c.from_residual.ensures.1 in
    rw (p.1, p.2) (finds_first c.in_err-find_ended.field-0.0 c.args.self.now.most c.args.found.now.items (paths_ended c.args.self.now.to c.args.path.now c.args.at) _ c.find_ended.new.found.items c.in_err-find_ended.ensures.finds)

pub loop-down-init : goal.loop-down-init
loop-down-init c = (
  c.in_ok-find_ended.ensures.finds ∙ ap (λ b. c.args.found.now.items ++ b) (sym (append-nil _)),
  c.in_ok-find_ended.ensures.fits,
)

pub returns-in_err-find_over_down-clause-finds : goal.returns-in_err-find_over_down-clause-finds
unfolding paths_down
returns-in_err-find_over_down-clause-finds c =
    let p = err_from_is_err_and c.from_residual-in_err-find_over_down.result c.from_residual-in_err-find_over_down.ensures.1 in
    let f = onward (λ p end. p ∷ []) c.args.path.now in
    rw (p.1, p.2)
    (finds_in_loop (flat_map f) (flat_map-append f) c.args.found.now.items (paths_ended c.args.self.now.to c.args.path.now c.args.at) c.at-down-items.result.now
    c.in_err-find_over_down.field-0.0 c.args.self.now.most c.loop-down.found.items c.find_over_down.new.found.items _ _ c.loop-down.down-index _ _ c.loop-down-test.true refl (flat_map_one f _) (ap (flat_map f) (sym c.at-down-items.ensures)) c.loop-down.invariant.0 c.in_err-find_over_down.ensures.finds)

pub loop-down-preserved : goal.loop-down-preserved
loop-down-preserved c =
    let f = onward (λ p end. p ∷ []) c.args.path.now in (
      found_more (flat_map f) (flat_map-append f) c.args.found.now.items (paths_ended c.args.self.now.to c.args.path.now c.args.at) c.at-down-items.result.now
          c.loop-down.found.items _ _ c.loop-down.down-index _ _ c.loop-down-test.true refl (flat_map_one f _) c.loop-down.invariant.0 c.in_ok-find_over_down.ensures.finds,
      c.in_ok-find_over_down.ensures.fits,
    )

pub returns-clause-finds : goal.returns-clause-finds
unfolding paths_down
returns-clause-finds c =
    let f = onward (λ p end. p ∷ []) c.args.path.now in
    found_all (flat_map f) (flat_map-append f) c.args.found.now.items (paths_ended c.args.self.now.to c.args.path.now c.args.at) c.at-down-items.result.now
    c.loop-down.found.items _ c.loop-down.down-index c.loop-down-test.false (ap (flat_map f) (sym c.at-down-items.ensures)) c.loop-down.invariant.0
