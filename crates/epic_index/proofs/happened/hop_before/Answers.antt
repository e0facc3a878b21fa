use Rattle.std.proofs.Common.{Some, sym, ◌∙◌, ap, arith}
use Rattle.epic_ledger.specs.Facts.{facts_of}
use Rattle.epic_index.proofs.Before.{some_before, before_is, none_before, none_passed, name_read}
use Rattle.epic_index.proofs.happened.hop_before.Goals as goal

pub returns-then-is_first : goal.returns-then-is_first
returns-then-is_first c =
    none_before (facts_of c.args.ledger.now.history) c.args.packet.now c.args.hop (sym c.is_first.ensures ∙ c.if-is_first.true)

pub overflow_sub-hop : goal.overflow_sub-hop
overflow_sub-hop c =
    omega (arith, some_before c.args.packet.now c.args.hop c.shape-shape.ensures.packet c.requires (sym c.is_first.ensures ∙ c.if-is_first.false))

pub overflow_sub-hop-in-Some : goal.overflow_sub-hop-in-Some
overflow_sub-hop-in-Some c =
    omega (arith, some_before c.args.packet.now c.args.hop c.shape-shape.ensures.packet c.requires (sym c.is_first.ensures ∙ c.if-is_first.false))

pub returns-in-Some : goal.returns-in-Some
returns-in-Some c =
    ap Some (name_read c.in-Some.asn c.in-Some.generation c.args.packet.now _ c.body.result c.body.ensures)
    ∙ before_is c.args.ledger.now.history c.args.packet.now c.args.hop (c.in-Some.asn, c.in-Some.generation, c.in-Some.field-0-2) c.events-events.ensures.lawful c.shape-shape.ensures.packet
    (sym c.is_first.ensures ∙ c.if-is_first.false) (sym c.in-Some.is ∙ c.chain_pass.ensures)

pub returns-in-None : goal.returns-in-None
returns-in-None c =
    none_passed (facts_of c.args.ledger.now.history) c.args.packet.now c.args.hop (sym c.in-None.is ∙ c.chain_pass.ensures)
