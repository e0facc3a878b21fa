use Rattle.std.proofs.Common.{ap, ◌∙◌}
use Rattle.std.specs.Int.{w32, w64, to_be_bytes}
use Rattle.epic_num.specs.BigEndian.{u32_bytes, u64_bytes}
use Rattle.epic_num.specs.Messages.{host_bytes}
use Rattle.epic_fields.proofs.FedLemmas.{fed, fed_twice}
use Rattle.epic_fields.proofs.destination.feed_host.Goals as goal

pub returns : goal.returns
unfolding host_bytes u32_bytes u64_bytes
returns c =
    fed_twice c.args.state.now c.update.new.self c.update-2.new.self (to_be_bytes w64 c.args.host.asn.0) (to_be_bytes w32 c.args.host.host)
    (c.update.ensures ∙ ap (fed c.args.state.now) c.to_be_bytes.ensures)
    (c.update-2.ensures ∙ ap (fed c.update.new.self) c.to_be_bytes-2.ensures)
