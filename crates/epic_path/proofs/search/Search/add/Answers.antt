use Rattle.std.proofs.Common.{[], ◌∷◌, cond, sym, ◌∙◌, append_assoc, append-nil}
use Rattle.epic_num.specs.Same.{same_as}
use Rattle.epic_path.specs.Search.{links_at}
use Rattle.epic_path.proofs.LinkLaws.{core_links_of, no_core_links, no_last_links, down_added, down_missing}
use Rattle.epic_path.proofs.search.Search.add.Goals as goal

pub returns-in_ok-add-in-Core-2-clause-cores : goal.returns-in_ok-add-in-Core-2-clause-cores
returns-in_ok-add-in-Core-2-clause-cores c = λ at.
    let one = c.in_ok-add-in-Core.ensures at in
    let two = c.in_ok-add-in-Core-2.ensures at in
    let both = core_links_of at c.args.segment.now c.in-Core.is c.requires in
    let regrouped = append_assoc (links_at c.args.self.now.cores at) (cond (same_as c.first_as-first.result at) (c.link_to.result ∷ []) []) (cond (same_as c.last_as-last.result at) (c.link_to-in-Core.result ∷ []) []) in
    cc

pub returns-in_ok-add-in-Core-2-clause-downs : goal.returns-in_ok-add-in-Core-2-clause-downs
returns-in_ok-add-in-Core-2-clause-downs c = λ at. rw (no_last_links c.args.self.now.to at c.args.segment.now c.in-Core.is) (sym (append-nil _))

pub returns-in_ok-add-in-Child-clause-cores : goal.returns-in_ok-add-in-Child-clause-cores
returns-in_ok-add-in-Child-clause-cores c = λ at. rw (no_core_links at c.args.segment.now c.in-Child.is) (sym (append-nil _))

pub returns-in_ok-add-in-Child-clause-downs : goal.returns-in_ok-add-in-Child-clause-downs
unfolding same_as
returns-in_ok-add-in-Child-clause-downs c = λ at.
    down_added _ _ c.args.self.now.to at _ _ c.args.segment.now _ c.in-Child.is c.first_as-first.ensures c.last_as-last.ensures (sym c.eq.ensures ∙ c.if-eq.true) c.link_to-then-eq.ensures (c.in_ok-add-in-Child.ensures at)

pub returns-else-eq-clause-cores : goal.returns-else-eq-clause-cores
returns-else-eq-clause-cores c = λ at. rw (no_core_links at c.args.segment.now c.in-Child.is) (sym (append-nil _))

pub returns-else-eq-clause-downs : goal.returns-else-eq-clause-downs
unfolding same_as
returns-else-eq-clause-downs c = λ at.
    down_missing _ c.args.self.now.to at _ c.args.segment.now c.in-Child.is c.last_as-last.ensures (sym c.eq.ensures ∙ c.if-eq.false)
