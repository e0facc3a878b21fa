use Rattle.std.proofs.Common.{◌≡◌, ap, ◌∙◌, arith}
use Rattle.epic_layout.specs.Layout.{parse}
use Rattle.epic_router.proofs.Places.{few_hops_parse}
use Rattle.epic_router.proofs.going_on.two_on.Goals as goal

pub overflow_add-current : goal.overflow_add-current
overflow_add-current c =
    let few = few_hops_parse c.args.bytes.now _ _ c.requires.checked in
    let current : c.current.result ≡ (parse c.args.bytes.now).current = c.current.ensures ∙ ap (λ p. p.current) c.of-packet.ensures in
    let there = c.requires.there in
    omega (arith, few, current, there)
