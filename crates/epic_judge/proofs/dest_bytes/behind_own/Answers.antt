use Rattle.std.proofs.Common.{◌≡◌, ◌<◌, [], List, ℕ, length, take, sym, ap, ◌∙◌, arith}
use Rattle.std.specs.Prelude.{option_copied}
use Rattle.std.specs.List.{flat_map}
use Rattle.epic_layout.specs.Contents.{field, hop_count}
use Rattle.epic_layout.specs.Spelling.{update_count}
use Rattle.epic_layout.specs.Updates.{own_updates}
use Rattle.epic_judge.specs.Compared.{behind}
use Rattle.epic_judge.proofs.ByPieces.{behind_more, behind_nothing, joined_rows}
use Rattle.epic_judge.proofs.dest_bytes.behind_own.Goals as goal

pub loop-hop-init : goal.loop-hop-init
loop-hop-init c = sym (behind_nothing (option_copied c.args.rest))

pub loop-hop-preserved : goal.loop-hop-preserved
unfolding field
loop-hop-preserved c =
    let p = c.args.packet.now in
    let counted = c.update_count-count.ensures.packet.counted in
    let below : c.loop-hop.hop < length p.fields = omega (arith, counted, c.loop-hop-test.true, c.update_count-count.ensures.few) in
    behind_more (λ v. v) p.fields c.loop-hop.hop [] (option_copied c.args.rest) (option_copied c.loop-hop.more) (option_copied c.behind_own_field-more.result) below c.loop-hop.invariant c.behind_own_field-more.ensures

pub returns : goal.returns
unfolding own_updates
returns c =
    let p = c.args.packet.now in
    let all : c.loop-hop.hop ≡ update_count p.first (hop_count p) = omega (arith, c.update_count-count.ensures.value, c.loop-hop.auto.hop-end, c.loop-hop-test.false) in
    c.loop-hop.invariant
    ∙ (ap (λ n. behind (flat_map (λ v. v) (take n p.fields)) (option_copied c.args.rest)) all
    ∙ ap (λ m. behind m (option_copied c.args.rest)) (joined_rows (take (update_count p.first (hop_count p)) p.fields)))
