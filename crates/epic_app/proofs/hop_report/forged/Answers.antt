use Rattle.std.proofs.Common.{rules, ◌≡◌}
use Rattle.std.specs.String.{string_bytes}
use Rattle.hex.specs.Hex.{encode_lower}
use Rattle.epic_num.specs.Messages.{authenticator_message}
use Rattle.epic_app.proofs.hop_report.forged.Goals as goal

pub returns : goal.returns
returns c =
    let message : encode_lower (authenticator_message c.args.body.now) ≡ string_bytes c.in_ok-message.message = search rules in
    let field : encode_lower c.args.field.now ≡ string_bytes c.in_ok-field.field = search rules in
    rw (message, field) c.format.ensures.ok
