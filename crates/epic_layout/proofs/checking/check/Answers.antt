use Rattle.std.proofs.Common.{◌≡◌, ◌+◌, length, rules, arith}
use Rattle.std.specs.Int.{w16}
use Rattle.std.proofs.lemmas.Grind.{common_steps}
use Rattle.epic_layout.specs.Pieces.{number}
use Rattle.epic_layout.specs.Layout.{tests, header_len_in, hop_offset}
use Rattle.epic_layout.proofs.Shapes.{shape_parse}
use Rattle.epic_layout.proofs.checking.check.Goals as goal

pub returns : goal.returns
unfolding tests header_len_in hop_offset
returns c =
    let b = c.args.bytes.now in
    let whole : header_len_in b + number w16 b 4 ≡ length b = grind (arith, common_steps) in
    rw (shape_parse b (number w16 b 4) whole) (search rules)
