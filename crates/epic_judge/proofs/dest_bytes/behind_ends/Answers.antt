use Rattle.std.proofs.Common.{[], ◌∷◌, Some, ap, ◌∙◌}
use Rattle.std.specs.Prelude.{option_copied}
use Rattle.epic_num.specs.BigEndian.{u64_bytes}
use Rattle.epic_num.specs.Messages.{host_bytes, dest_domain}
use Rattle.epic_layout.specs.Spelling.{path_bytes}
use Rattle.epic_judge.specs.Compared.{behind}
use Rattle.epic_judge.proofs.dest_bytes.behind_ends.Goals as goal

pub returns : goal.returns
unfolding u64_bytes
returns c =
    let p = c.args.packet.now in
    let first = c.behind-moment.ensures ∙ ap (λ b. behind (b ∷ []) (Some c.args.message.now)) (c.dest_domain.ensures ∙ ap dest_domain c.first_byte.ensures) in
    let moment = c.behind-src.ensures ∙ (λ i. behind ((c.to_be_bytes.ensures ∙ ap u64_bytes c.ts.ensures) i) (first i)) in
    let src = c.behind_host-dst.ensures ∙ (λ i. behind (host_bytes (c.src.ensures i)) (moment i)) in
    let dst = c.behind_host-path.ensures ∙ (λ i. behind (host_bytes (c.dst.ensures i)) (src i)) in
    c.behind_path.ensures ∙ ap (behind (path_bytes p.route)) dst
