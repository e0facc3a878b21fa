use Rattle.std.proofs.Common.{sym, ap, subst, ◌∙◌}
use Rattle.std.specs.Prelude.{option_copied, IsTrue}
use Rattle.epic_topo.specs.Network.{Network, has}
use Rattle.epic_fields.specs.PacketTags.{update_of}
use Rattle.epic_ledger.specs.Facts.{facts_of}
use Rattle.epic_index.specs.Events.{sent_name_at, send_at}
use Rattle.epic_judge.specs.Compared.{behind}
use Rattle.epic_judge.specs.Walks.{update_at}
use Rattle.epic_judge.proofs.ByPieces.{behind_nothing}
use Rattle.epic_judge.proofs.SentAs.{at_known}
use Rattle.epic_judge.proofs.dest_bytes.behind_sent.Goals as goal

pub behind_update-requires-clause-known : goal.behind_update-requires-clause-known
unfolding sent_name_at
behind_update-requires-clause-known c =
    subst (λ (t : Network). IsTrue (has t c.in-Some.name.asn)) (sym c.topology.ensures)
    (at_known c.args.index.now.network (facts_of c.args.index.now.history) (send_at c.args.index.now.history c.args.number) c.args.hop c.sent_name_at.result c.in-Some.name c.requires.facts c.sent_name_at.ensures c.in-Some.is)

pub returns-in-Some : goal.returns-in-Some
returns-in-Some c =
    let rest = option_copied c.args.rest in
    c.behind_update.ensures
    ∙ (ap (λ (t : Network). behind (update_of t c.in-Some.name c.args.sent.now c.args.hop) rest) c.topology.ensures
    ∙ ap (λ n. behind (update_at c.args.index.now.network c.args.sent.now (λ j. n) c.args.hop) rest) (sym c.in-Some.is ∙ c.sent_name_at.ensures))

pub returns-in-None : goal.returns-in-None
returns-in-None c =
    let rest = option_copied c.args.rest in
    sym (behind_nothing rest)
    ∙ ap (λ n. behind (update_at c.args.index.now.network c.args.sent.now (λ j. n) c.args.hop) rest) (sym c.in-None.is ∙ c.sent_name_at.ensures)
