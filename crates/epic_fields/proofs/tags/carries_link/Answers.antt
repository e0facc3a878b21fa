use Rattle.std.proofs.Common.{◌≡◌, ◌<◌, ◌≤◌, ℕ, true, Option, Some, None, subst, ap, sym, ◌∙◌, arith, rules}
use Rattle.std.specs.Prelude.{bytes_eq}
use Rattle.std.specs.Option.{option_map_or}
use Rattle.epic_layout.specs.Route.{hops_of, place, successor, hop, body}
use Rattle.epic_fields.specs.HopChecks.{carries_link}
use Rattle.epic_fields.proofs.Successors.{successor_there}
use Rattle.epic_fields.proofs.tags.carries_link.Goals as goal

pub returns-then-next-hops : goal.returns-then-next-hops
returns-then-next-hops c =
    let segments = c.args.packet.now.route.segments in
    let next : successor (place segments c.args.hop) c.args.hop ≡ Some c.in-Some.next = search rules in
    let counted = c.shape-hops.ensures.packet.route.counted in
    let there : c.in-Some.next < hops_of segments =
    successor_there segments c.args.hop c.in-Some.next next (subst (λ n. c.args.hop < n) (sym counted) c.requires) in
    let past : c.shape-hops.result.hops ≤ c.in-Some.next = grind (arith, c.if-next-hops.true) in
    absurd (omega (arith, past, there, counted, c.shape-hops.ensures.hops))

pub returns-else-next-hops : goal.returns-else-next-hops
unfolding carries_link body
returns-else-next-hops c =
    let route = c.args.packet.now.route in
    let right = c.args.right.now in
    let next : successor (place route.segments c.args.hop) c.args.hop ≡ Some c.in-Some.next = search rules in
    let same : c.eq.result ≡ bytes_eq c.body.result.link right = search rules in
    let carried : c.body.result.link ≡ (hop route c.in-Some.next).link = ap (λ b. b.link) c.body.ensures in
    same
    ∙ (ap (λ l. bytes_eq l right) carried
    ∙ sym (ap (λ (o : Option ℕ). option_map_or (λ s. bytes_eq (hop route s).link right) o true) next))

pub returns-in-None : goal.returns-in-None
unfolding carries_link
returns-in-None c =
    let route = c.args.packet.now.route in
    let none : successor (place route.segments c.args.hop) c.args.hop ≡ None = search rules in
    sym (ap (λ (o : Option ℕ). option_map_or (λ s. bytes_eq (hop route s).link c.args.right.now) o true) none)
