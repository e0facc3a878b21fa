use Rattle.std.proofs.Common.{rules, ◌≡◌}
use Rattle.std.specs.String.{string_bytes}
use Rattle.hex.specs.Hex.{encode_lower}
use Rattle.epic_app.proofs.hop_report.issued.Goals as goal

pub returns : goal.returns
returns c =
    let authenticator : encode_lower c.args.authenticator.now ≡ string_bytes c.in_ok-authenticator.authenticator = search rules in
    let link : encode_lower c.args.link.now ≡ string_bytes c.in_ok-link.link = search rules in
    rw (authenticator, link) c.format.ensures.ok
