use Rattle.std.proofs.Common.{sym, ap, ◌∙◌}
use Rattle.std.specs.Prelude.{option_copied}
use Rattle.std.specs.Int.{w32, w64, to_be_bytes}
use Rattle.epic_num.specs.BigEndian.{u32_bytes, u64_bytes}
use Rattle.epic_num.specs.Messages.{host_bytes}
use Rattle.epic_judge.specs.Compared.{behind}
use Rattle.epic_judge.proofs.ByPieces.{behind_joined}
use Rattle.epic_judge.proofs.dest_bytes.behind_host.Goals as goal

pub returns : goal.returns
unfolding host_bytes u32_bytes u64_bytes
returns c =
    let a = to_be_bytes w64 c.args.host.asn.0 in
    let b = to_be_bytes w32 c.args.host.host in
    c.behind.ensures
    ∙ ((λ i. behind (c.to_be_bytes-2.ensures i) (c.behind-more.ensures i))
    ∙ (ap (λ x. behind b (behind x (option_copied c.args.rest))) c.to_be_bytes.ensures
    ∙ sym (behind_joined a b (option_copied c.args.rest))))
