use Rattle.std.proofs.Common.{◌≡◌, Err, sym, subst, rules}
use Rattle.epic_audit.specs.Holds.{AtHop}
use Rattle.epic_layout.specs.Layout.{parse}
use Rattle.epic_ledger.specs.Facts.{facts_of}
use Rattle.epic_judge.specs.Reaching.{IsRead}
use Rattle.epic_judge.proofs.Named.{hop_line_named}
use Rattle.epic_judge.proofs.NextLine.{unread}
use Rattle.epic_judge.proofs.accepted.hop_line.Goals as goal

pub is_true_of_hop-requires-clause-named : goal.is_true_of_hop-requires-clause-named
is_true_of_hop-requires-clause-named c = hop_line_named c.args.hop c.args.line.now c.in_ok-told.told c.in_ok-told.ensures

pub returns-in_err-told : goal.returns-in_err-told
returns-in_err-told c =
    let t = c.args.index.now.network in
    let f = facts_of c.args.index.now.history in
    let e = c.in_err-told.field-0.0 in
    let is : c.from_residual.result ≡ Err e = search rules in
    subst (λ r. IsRead t f (record { packet = parse c.args.bytes.now; subject = AtHop c.args.a c.args.generation c.args.hop }) c.args.asked c.args.line.now r) (sym is)
    (unread t f (record { packet = parse c.args.bytes.now; subject = AtHop c.args.a c.args.generation c.args.hop }) c.args.asked c.args.line.now e c.in_err-told.ensures)

pub returns : goal.returns
returns c = (c.in_ok-told.told, c.in_ok-told.ensures, c.is_true_of_hop.ensures)
