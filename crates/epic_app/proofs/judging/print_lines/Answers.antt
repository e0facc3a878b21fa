use Rattle.std.proofs.Common.{◌≡◌, ◌+◌, ◌-◌, ◌++◌, length, take, drop, get_or, ap, sym, ◌∙◌, arith}
use Rattle.epic_num.specs.declared.verdict.Verdict.{Verdict}
use Rattle.epic_num.specs.declared.verdict.Verdict.TheVariants.{Proved}
use Rattle.epic_layout.specs.Contents.{Contents}
use Rattle.epic_layout.specs.Layout.{parse}
use Rattle.epic_record.specs.VerdictLines.{hop_verdict_line}
use Rattle.epic_app.proofs.JudgingLaws.{lines_two, two_more}
use Rattle.epic_app.proofs.judging.print_lines.Goals as goal

pub returns : goal.returns
returns c =
    let two : c.args.hops ≡ 2 = omega (arith, c.requires.few, c.if-hops-eq0.false, c.if-hops-eq1.false) in
    let t = c.args.topo.now in
    let p : Contents = parse c.args.came.now in
    let vs = c.args.verdicts.now in
    let first : Verdict = get_or vs 0 (Proved 0 0) in
    let second : Verdict = get_or (take (length vs - 1) (drop 1 vs)) 0 (Proved 0 0) in
    let packet : c.of-packet.result ≡ p = c.of-packet.ensures in
    let hop : c.current-hop.result ≡ p.current = c.current-hop.ensures ∙ ap (λ (q : Contents). q.current) packet in
    two_more _ _ _ (hop_verdict_line t c.of-packet.result c.current-hop.result first) (hop_verdict_line t c.of-packet.result (c.current-hop.result + 1) second) _
    c.in_ok-print_hop_verdict.ensures.0 c.in_ok-print_hop_verdict-2.ensures.0
    (lines_two t p p.current c.args.hops vs (Proved 0 0) (Proved 0 0) two c.in-len1-up-rest.len_at_least
    ∙ sym (λ k. hop_verdict_line t (packet k) (hop k) first ++ hop_verdict_line t (packet k) (hop k + 1) second))
