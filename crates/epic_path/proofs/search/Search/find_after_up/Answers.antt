use Rattle.std.proofs.Common.{◌≡◌, Some, None, sym, ap, ◌∙◌, subst, append-nil}
use Rattle.epic_path.specs.Search.{Finds, paths_over_core, extended, links_at, no_path, onward}
use Rattle.epic_path.proofs.FindsLaws.{over_missing, over_one, onward_some, onward_none}
use Rattle.epic_path.proofs.search.Search.find_after_up.Goals as goal

pub returns-in_default-clause-finds : goal.returns-in_default-clause-finds
returns-in_default-clause-finds c =
    rw (over_missing (onward (paths_over_core (links_at c.args.self.now.cores) (links_at c.args.self.now.downs) c.args.self.now.to) no_path) c.args.from c.args.segment.now (sym c.up_link.ensures ∙ c.in_default.is)) (sym (append-nil _))

pub returns-in-Some-extended-clause-finds : goal.returns-in-Some-extended-clause-finds
returns-in-Some-extended-clause-finds c =
    let rest = paths_over_core (links_at c.args.self.now.cores) (links_at c.args.self.now.downs) c.args.self.now.to in
    let over = over_one (onward rest no_path) c.args.from c.args.segment.now c.in-Some.up (sym c.up_link.ensures ∙ c.in-Some.is) in
    let path : extended no_path c.in-Some.up ≡ Some c.in-Some-extended.longer = ap (λ p. extended p c.in-Some.up) (sym c.no_path.ensures.path) ∙ sym c.in-Some-extended.ensures.path in
    subst (λ paths. Finds c.args.self.now.most c.args.found.now.items paths c.find_over_core.new.found.items c.find_over_core.result) (sym (over ∙ onward_some rest no_path c.in-Some-extended.longer c.in-Some.up path)) c.find_over_core.ensures.finds

pub returns-in-None-clause-finds : goal.returns-in-None-clause-finds
returns-in-None-clause-finds c =
    let rest = paths_over_core (links_at c.args.self.now.cores) (links_at c.args.self.now.downs) c.args.self.now.to in
    let over = over_one (onward rest no_path) c.args.from c.args.segment.now c.in-Some.up (sym c.up_link.ensures ∙ c.in-Some.is) in
    let path : extended no_path c.in-Some.up ≡ None = ap (λ p. extended p c.in-Some.up) (sym c.no_path.ensures.path) ∙ sym c.in-None.ensures.path in
    rw (over ∙ onward_none rest no_path c.in-Some.up path) (sym (append-nil c.args.found.now.items))
