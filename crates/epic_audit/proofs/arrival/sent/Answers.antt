use Rattle.std.proofs.Common.{sym, ◌∙◌, arith}
use Rattle.epic_ledger.specs.Facts.{facts_of}
use Rattle.epic_audit.proofs.Opened.{open_at}
use Rattle.epic_audit.proofs.arrival.sent.Goals as goal

pub has_update-requires-clause-known : goal.has_update-requires-clause-known
has_update-requires-clause-known c =
    (open_at c.args.topo.now (facts_of c.args.ledger.now.history) c.args.packet.now c.args.hops c.in-Some.hop c.requires.kept.issues
    (sym c.first_open.ensures ∙ c.in-Some.is)).known

pub has_update-requires-clause-within : goal.has_update-requires-clause-within
has_update-requires-clause-within c =
    let few = c.requires.hops in
    let inside = (open_at c.args.topo.now (facts_of c.args.ledger.now.history) c.args.packet.now c.args.hops c.in-Some.hop c.requires.kept.issues
    (sym c.first_open.ensures ∙ c.in-Some.is)).inside in
    omega (arith, inside)

pub updated-requires-clause-known : goal.updated-requires-clause-known
updated-requires-clause-known c =
    (open_at c.args.topo.now (facts_of c.args.ledger.now.history) c.args.packet.now c.args.hops c.in-Some.hop c.requires.kept.issues
    (sym c.first_open.ensures ∙ c.in-Some.is)).known
