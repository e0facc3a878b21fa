use Rattle.std.proofs.Common.{sym, subst}
use Rattle.epic_holders.specs.MakerText.{IsOfHop}
use Rattle.epic_holders.proofs.Worth.{read_name}
use Rattle.epic_holders.proofs.maker_text.print_maker.Goals as goal

pub print_named-requires-clause-left : goal.print_named-requires-clause-left
print_named-requires-clause-left c =
    subst (λ x. IsOfHop x c.args.maker.now) (sym (read_name c.args.a c.args.generation c.args.packet.now c.args.hop c.body.result c.body.ensures)) c.requires.left

pub returns-clause-ok : goal.returns-clause-ok
returns-clause-ok c =
    rw (sym (read_name c.args.a c.args.generation c.args.packet.now c.args.hop c.body.result c.body.ensures)) c.print_named.ensures.ok
