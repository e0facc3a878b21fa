use Rattle.std.proofs.Common.{sym, ◌∙◌}
use Rattle.epic_num.specs.Same.{same_as}
use Rattle.epic_path.proofs.LinkLaws.{no_up_link, up_here, up_elsewhere}
use Rattle.epic_path.proofs.links.up_link.Goals as goal

pub returns-in-Core : goal.returns-in-Core
returns-in-Core c = sym (no_up_link c.args.at c.args.segment.now c.in-Core.is)

pub returns-then-eq : goal.returns-then-eq
unfolding same_as
returns-then-eq c =
    rw (c.link_to.ensures, c.first_as.ensures) (up_here c.args.at _ c.args.segment.now c.in-Child.is c.requires c.last_as.ensures (sym c.eq.ensures ∙ c.if-eq.true))

pub returns-else-eq : goal.returns-else-eq
unfolding same_as
returns-else-eq c = up_elsewhere c.args.at _ c.args.segment.now c.in-Child.is c.requires c.last_as.ensures (sym c.eq.ensures ∙ c.if-eq.false)
