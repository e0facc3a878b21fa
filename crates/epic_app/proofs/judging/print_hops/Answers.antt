use Rattle.std.proofs.Common.{◌≡◌, ◌++◌, length, take, ap, sym, subst, ◌∙◌, arith, ℕ, List}
use Rattle.std.specs.Prelude.{OnOk}
use Rattle.std.proofs.lemmas.List.{length-take}
use Rattle.epic_layout.specs.Layout.{parse}
use Rattle.epic_app.specs.Telling.{hop_lines}
use Rattle.epic_app.proofs.JudgingLaws.{lines_are}
use Rattle.epic_app.proofs.judging.print_hops.Goals as goal

pub returns : goal.returns
returns c = λ a.
    let p = parse c.args.came.now in
    let gs = take c.args.hops c.args.generations.now in
    let many : length gs ≡ c.args.hops = omega (arith, length-take c.args.hops c.args.generations.now, c.requires.few, c.told-generations) in
    let P : List ℕ → Type 0 = λ text. OnOk c.print_lines.result (c.print_lines.new.to.items ≡ c.args.to.now.items ++ text) in
    subst P (ap (λ n. hop_lines c.args.topo.now p p.current n c.args.verdicts.now) (sym many) ∙ lines_are c.args.topo.now a c.args.came.now p.current gs c.args.verdicts.now)
    c.print_lines.ensures
