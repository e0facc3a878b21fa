use Rattle.std.proofs.Common.{◌≡◌, ◌<◌, ◌≤◌, length, sym, ap, ◌∙◌, arith}
use Rattle.std.specs.Prelude.{option_copied}
use Rattle.epic_layout.specs.Contents.{shape}
use Rattle.epic_layout.specs.Route.{no_hop, hop}
use Rattle.epic_layout.specs.Spelling.{hop_bytes}
use Rattle.epic_judge.specs.Compared.{behind}
use Rattle.epic_judge.proofs.ByPieces.{behind_all, behind_more, behind_nothing}
use Rattle.epic_judge.proofs.dest_bytes.behind_hops.Goals as goal

pub loop-j-init : goal.loop-j-init
loop-j-init c = sym (behind_nothing (option_copied c.args.rest))

pub loop-j-preserved : goal.loop-j-preserved
unfolding shape hop
loop-j-preserved c =
    let all = c.args.packet.now.route.hops in
    let count : c.shape-count.result.hops ≡ length all = c.shape-count.ensures.hops in
    let below : c.loop-j.j < length all = grind (arith, count, c.loop-j-test.true) in
    behind_more hop_bytes all c.loop-j.j no_hop (option_copied c.args.rest) (option_copied c.loop-j.more) (option_copied c.behind-more.result) below c.loop-j.invariant
    (c.behind-more.ensures ∙ ap (λ v. behind v (option_copied c.loop-j.more)) c.hop_head.ensures)

pub returns : goal.returns
unfolding shape
returns c =
    let all = c.args.packet.now.route.hops in
    let count : c.shape-count.result.hops ≡ length all = c.shape-count.ensures.hops in
    let after : length all ≤ c.loop-j.j = grind (arith, count, c.loop-j-test.false) in
    behind_all hop_bytes all c.loop-j.j (option_copied c.args.rest) (option_copied c.loop-j.more) after c.loop-j.invariant
