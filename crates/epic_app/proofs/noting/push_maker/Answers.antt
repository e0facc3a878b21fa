use Rattle.std.proofs.Common.{rules, ◌≡◌, ◌∷◌, ◌++◌, [], map, codes, decimal, ap, ◌∙◌}
use Rattle.std.proofs.lemmas.List.{map-append}
use Rattle.epic_fields.specs.HopChecks.{hop_name}
use Rattle.epic_ledger.specs.Facts.{facts_of}
use Rattle.epic_audit.specs.ForgedText.{words_text}
use Rattle.epic_holders.specs.Makers.{maker_verdict}
use Rattle.epic_holders.specs.MakerText.{maker_text, maker_words}
use Rattle.epic_text.specs.Line.{line_of}
use Rattle.epic_app.specs.Noting.{maker_line}
use Rattle.epic_app.proofs.MakerLines.{maker_front}
use Rattle.epic_app.proofs.noting.push_maker.Goals as goal

pub returns-in-Ok-push-clause-line : goal.returns-in-Ok-push-clause-line
returns-in-Ok-push-clause-line c =
    let t = c.args.world.now.network in
    let p = c.args.packet.now in
    let j = c.args.hop in
    let x = hop_name c.args.a c.args.generation p j in
    let m = c.maker_of-maker.result in
    let told : c.print_maker.new.to.items ≡ (codes "maker " ++ (decimal j ++ codes " ")) ++ maker_text c.topology-topo.result.now x p j m = search rules in
    let words : c.print_maker.new.to.items ≡ words_text (codes "maker" ∷ decimal j ∷ maker_words t x p j m)
    = told ∙ (ap (λ n. (codes "maker " ++ (decimal j ++ codes " ")) ++ maker_text n x p j m) c.topology-topo.ensures ∙ maker_front t x p j m) in
    let line : c.print_line.new.to.items ≡ maker_line t c.args.number c.args.a c.args.generation p j m
    = c.in_ok-print_line.ensures.0 ∙ (λ k. c.new-line.ensures.items k ++ line_of c.args.number ((c.deref.ensures.value ∙ words) k)) in
    let verdict : m ≡ maker_verdict t (facts_of c.args.world.now.state.history) x p j
    = c.maker_of-maker.ensures.verdict ∙ (λ k. maker_verdict (c.topology-topo.ensures k) (facts_of (c.ledger.ensures.history k)) x p j) in
    ap (map (λ v. v.items)) c.in-Ok-push.ensures.items
    ∙ (map-append (λ v. v.items) c.args.to.now.items (c.print_line.new.to ∷ [])
    ∙ ap (λ l. map (λ v. v.items) c.args.to.now.items ++ l ∷ []) (line ∙ ap (λ n. maker_line t c.args.number c.args.a c.args.generation p j n) verdict))
