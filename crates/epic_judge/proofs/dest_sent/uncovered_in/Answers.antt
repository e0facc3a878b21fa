use Rattle.std.proofs.Common.{◌<◌, sym, subst, ◌∙◌}
use Rattle.std.specs.Prelude.{IfSome}
use Rattle.epic_judge.proofs.SentAs.{exempt_none, open_found}
use Rattle.epic_judge.proofs.dest_sent.uncovered_in.Goals as goal

pub returns-then-is_exempt-clause-value : goal.returns-then-is_exempt-clause-value
returns-then-is_exempt-clause-value c =
    exempt_none c.args.index.now.history c.args.packet.now c.args.sending.now c.requires.sent (sym c.is_exempt.ensures ∙ c.if-is_exempt.true)

pub returns-clause-value : goal.returns-clause-value
returns-clause-value c =
    open_found c.args.index.now.history c.args.packet.now c.args.sending.now _ c.requires.sent (sym c.is_exempt.ensures ∙ c.if-is_exempt.false) c.first_open.ensures.value

pub returns-clause-within : goal.returns-clause-within
returns-clause-within c =
    subst (λ n. IfSome c.first_open.result (λ u. u.0 < n)) c.requires.sent.within c.first_open.ensures.within
