use Rattle.std.proofs.Common.{◌≡◌, Option, Some, IfOk, sym, subst, arith}
use Rattle.epic_num.specs.declared.command.Command.{Command}
use Rattle.epic_gen.proofs.Places.{packet_at}
use Rattle.epic_gen.proofs.commands.command_at.Goals as goal

pub returns : goal.returns
returns c =
    let P : Option Command → Type 0 = λ o. IfOk c.packet_command.result (λ x. o ≡ Some x) in
    subst P (sym (packet_at c.args.seed c.args.packets c.args.place (omega arith) (omega arith))) c.packet_command.ensures
