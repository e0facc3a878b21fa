use Rattle.std.proofs.Common.{arith}
use Rattle.epic_app.proofs.Emissions.{few_bytes}
use Rattle.epic_app.proofs.noting.turn_notes.Goals as goal

pub overflow_cast-bytes : goal.overflow_cast-bytes
overflow_cast-bytes c =
    let few = few_bytes c.args.came.now c.requires.notable.packet in omega (arith, few)
