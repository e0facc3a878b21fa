use Rattle.std.proofs.Common.{◌≡◌, length, sym, ap, ◌∙◌, subst, arith}
use Rattle.std.proofs.lemmas.Result.{err_from_is_err_and}
use Rattle.epic_num.specs.Same.{same_as}
use Rattle.epic_path.specs.declared.paths_error.PathsError.TheVariants.{TooMany}
use Rattle.epic_path.specs.Search.{links_at}
use Rattle.epic_path.specs.Routes.{IsEveryPath}
use Rattle.epic_path.proofs.EveryPath.{all_lawful_is_every}
use Rattle.epic_path.proofs.PathsLaws.{none_to_itself, sorted_all, few, too_many}
use Rattle.epic_path.proofs.paths.all_paths.Goals as goal

pub returns-then-eq-clause-ok : goal.returns-then-eq-clause-ok
unfolding same_as
returns-then-eq-clause-ok c =
    c.from_vec.ensures ∙ c.new-found.ensures.items ∙ none_to_itself c.args.segments.now c.args.from c.args.to (sym c.eq.ensures ∙ c.if-eq.true)

pub returns-then-eq-clause-fits : goal.returns-then-eq-clause-fits
unfolding same_as
returns-then-eq-clause-fits c =
    let none = ap length (none_to_itself c.args.segments.now c.args.from c.args.to (sym c.eq.ensures ∙ c.if-eq.true)) in
    omega arith

pub returns-in_err-find_from-clause-too_many : goal.returns-in_err-find_from-clause-too_many
unfolding same_as
returns-in_err-find_from-clause-too_many c = λ told.
    let p = err_from_is_err_and c.from_residual-in_err-find_from.result c.from_residual-in_err-find_from.ensures.1 in
    let same = p.1 in let gives = p.2 in
    let is : c.in_err-find_from.field-0.0 ≡ TooMany = cc in
    too_many c.args.segments.now c.args.from c.args.to (links_at c.in_ok-search.search.cores) (links_at c.in_ok-search.search.downs) c.in_ok-search.search.to
    (sym c.eq.ensures ∙ c.if-eq.false) c.in_ok-search.ensures.to c.in_ok-search.ensures.cores c.in_ok-search.ensures.downs
    c.in_ok-search.search.most c.args.most c.new-found.result.items c.find_from.new.found.items c.in_err-find_from.field-0.0 c.new-found.ensures.items c.in_ok-search.ensures.most c.in_err-find_from.ensures.finds is

pub returns-clause-ok : goal.returns-clause-ok
unfolding same_as
returns-clause-ok c =
    c.from_vec-2.ensures
    ∙ sorted_all c.args.segments.now c.args.from c.args.to (links_at c.in_ok-search.search.cores) (links_at c.in_ok-search.search.downs) c.in_ok-search.search.to
    (sym c.eq.ensures ∙ c.if-eq.false) c.in_ok-search.ensures.to c.in_ok-search.ensures.cores c.in_ok-search.ensures.downs
    c.new-found.result.items c.find_from.new.found.items c.sort.new.paths.items c.new-found.ensures.items c.in_ok-find_from.ensures.finds c.sort.ensures.permutation c.sort.ensures.sorted

pub returns-clause-fits : goal.returns-clause-fits
unfolding same_as
returns-clause-fits c =
    few c.args.segments.now c.args.from c.args.to (links_at c.in_ok-search.search.cores) (links_at c.in_ok-search.search.downs) c.in_ok-search.search.to
    (sym c.eq.ensures ∙ c.if-eq.false) c.in_ok-search.ensures.to c.in_ok-search.ensures.cores c.in_ok-search.ensures.downs
    c.in_ok-search.search.most c.args.most c.new-found.result.items c.find_from.new.found.items c.new-found.ensures.items c.in_ok-search.ensures.most c.in_ok-find_from.ensures.finds c.in_ok-find_from.ensures.fits

pub returns-then-eq-clause-every_path : goal.returns-then-eq-clause-every_path
unfolding same_as
returns-then-eq-clause-every_path c =
    subst (IsEveryPath c.args.segments.now c.args.from c.args.to) (sym (returns-then-eq-clause-ok c)) (all_lawful_is_every c.args.segments.now c.args.from c.args.to c.requires.distinct)

pub returns-clause-every_path : goal.returns-clause-every_path
returns-clause-every_path c =
    subst (IsEveryPath c.args.segments.now c.args.from c.args.to) (sym (returns-clause-ok c)) (all_lawful_is_every c.args.segments.now c.args.from c.args.to c.requires.distinct)
