use Rattle.std.proofs.Common.{◌∷◌, ◌++◌, [], ap, sym, ◌∙◌, arith}
use Rattle.epic_app.proofs.PolicedLaws.{as_all, as_here, as_past}
use Rattle.epic_app.proofs.policing.ases_of.Goals as goal

pub loop-i-preserved : goal.loop-i-preserved
loop-i-preserved c =
    let here = as_here c.args.topo.now c.loop-i.i c.in-Some.asn (sym c.in-Some.ensures.value) in
    c.in-Ok.ensures.items ∙ (ap (λ xs. xs ++ c.in-Some.asn ∷ []) c.loop-i.invariant ∙ sym here)

pub returns-in_default : goal.returns-in_default
returns-in_default c = c.loop-i.invariant ∙ as_past c.args.topo.now c.loop-i.i (sym c.in_default.ensures.value)

pub returns : goal.returns
returns c = c.loop-i.invariant ∙ as_all c.args.topo.now c.loop-i.i (omega (arith, c.profile-profile.ensures.lawful.few_systems, c.loop-i-test.false))
