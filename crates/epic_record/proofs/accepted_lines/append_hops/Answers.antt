use Rattle.std.proofs.Common.{rules}
use Rattle.epic_record.proofs.Hops.{none_told, one_told, two_told}
use Rattle.epic_record.proofs.accepted_lines.append_hops.Goals as goal

pub returns-then-hops-eq0-clause-ok : goal.returns-then-hops-eq0-clause-ok
returns-then-hops-eq0-clause-ok c =
    none_told c.args.a c.args.first c.args.hops c.args.came.now c.args.generations.now _ (search rules)

pub returns-then-hops-eq1-clause-ok : goal.returns-then-hops-eq1-clause-ok
returns-then-hops-eq1-clause-ok c =
    one_told c.args.a c.args.first c.args.hops c.args.came.now c.args.generations.now c.args.to.now.items _ (search rules) (search rules) (search rules)

pub returns-clause-ok : goal.returns-clause-ok
returns-clause-ok c =
    two_told c.args.a c.args.first c.args.hops c.args.came.now c.args.generations.now c.args.to.now.items c.print_accept.new.to.items _ (search rules) (search rules) (search rules) (search rules) (search rules)
