use Rattle.std.proofs.Common.{◌≡◌, ◌+◌, ◌≤◌, ◌++◌, ◌∷◌, [], length, take, sym, subst, ap, ◌∙◌}
use Rattle.std.specs.Prelude.{IsSome}
use Rattle.epic_num.specs.declared.passed.PassResult.TheVariants.{Turned}
use Rattle.epic_num.specs.declared.passed.Place.TheVariants.{Router}
use Rattle.epic_num.specs.Levels.{is_first_byte}
use Rattle.epic_layout.specs.Contents.{Contents, hop_count}
use Rattle.epic_layout.specs.Layout.{fault, parse}
use Rattle.epic_ledger.specs.History.{emission_at}
use Rattle.epic_ledger.specs.Facts.{facts_of, packet_at}
use Rattle.epic_model.specs.Passing.{hop_verdicts, left, passes_from}
use Rattle.epic_actors.proofs.Leaving.{hops_some, hops_few, leaves_faultless, leaves_there, leaves_within}
use Rattle.epic_actors.proofs.turning.sent_on.Goals as goal

pub judged-verdicts-requires-clause-some : goal.judged-verdicts-requires-clause-some
judged-verdicts-requires-clause-some c = hops_some _ _ _ _ _ _ _ _ _ c.requires.accepted

pub judged-verdicts-requires-clause-few : goal.judged-verdicts-requires-clause-few
judged-verdicts-requires-clause-few c = hops_few _ _ _ _ _ _ _ _ _ c.requires.accepted

pub emit-emission-requires-clause-faultless : goal.emit-emission-requires-clause-faultless
emit-emission-requires-clause-faultless c = ap (fault is_first_byte) c.requires.outgoing ∙ leaves_faultless _ _ _ _ _ _ _ _ _ c.requires.accepted

pub record_passes-requires-clause-some : goal.record_passes-requires-clause-some
record_passes-requires-clause-some c = hops_some _ _ _ _ _ _ _ _ _ c.requires.accepted

pub record_passes-requires-clause-few : goal.record_passes-requires-clause-few
record_passes-requires-clause-few c = hops_few _ _ _ _ _ _ _ _ _ c.requires.accepted

pub record_passes-requires-clause-there : goal.record_passes-requires-clause-there
record_passes-requires-clause-there c =
    let es = c.args.ledger.now.history.emissions in
    rw (c.emit-emission.ensures.emissions, c.emit-emission.ensures.number)
    (subst (λ bs. IsSome (emission_at (es ++ record { place = c.args.due; bytes = bs } ∷ []) (length es + 1))) (sym c.requires.outgoing)
    (leaves_there _ _ _ _ _ _ _ _ _ c.requires.accepted c.args.due es))

pub record_passes-requires-clause-within : goal.record_passes-requires-clause-within
record_passes-requires-clause-within c =
    let es = c.args.ledger.now.history.emissions in
    let hop : c.current.result ≡ (parse c.args.bytes.now).current = c.current.ensures ∙ ap (λ (p : Contents). p.current) c.of-packet.ensures in
    rw (hop, c.emit-emission.ensures.emissions, c.emit-emission.ensures.number)
    (subst (λ bs. (parse c.args.bytes.now).current + c.args.hops ≤ hop_count (packet_at (es ++ record { place = c.args.due; bytes = bs } ∷ []) (length es + 1))) (sym c.requires.outgoing)
    (leaves_within _ _ _ _ _ _ _ _ _ c.requires.accepted c.args.due es))

pub returns-clause-passed : goal.returns-clause-passed
unfolding left
returns-clause-passed c =
    let p = parse c.args.bytes.now in
    let verdicts : c.judged-verdicts.result.items ≡ hop_verdicts c.args.topo.now (facts_of c.args.ledger.now.history) c.args.a p p.current (take c.args.hops c.args.generations.now) =
    c.judged-verdicts.ensures
    ∙ ap (λ (q : Contents). hop_verdicts c.args.topo.now (facts_of c.args.ledger.now.history) c.args.a q q.current (take c.args.hops c.args.generations.now)) c.of-packet.ensures in
    λ i. record { place = Router c.args.a c.args.iface; result = Turned c.args.answer; emission = c.emit-emission.ensures.number i; verdicts = record { items = verdicts i } }

pub returns-clause-history : goal.returns-clause-history
unfolding left
returns-clause-history c =
    let h = c.args.ledger.now.history in
    let hop : c.current.result ≡ (parse c.args.bytes.now).current = c.current.ensures ∙ ap (λ (p : Contents). p.current) c.of-packet.ensures in
    let gs = take c.args.hops c.args.generations.now in
    let events = c.record_passes.ensures.events
    ∙ (ap (λ es. es ++ passes_from c.args.step c.args.a c.emit-emission.result c.current.result gs) c.emit-emission.ensures.events
    ∙ (ap (λ n. h.events ++ passes_from c.args.step c.args.a n c.current.result gs) c.emit-emission.ensures.number
    ∙ ap (λ j. h.events ++ passes_from c.args.step c.args.a (length h.emissions + 1) j gs) hop)) in
    let emissions = c.record_passes.ensures.emissions
    ∙ (c.emit-emission.ensures.emissions
    ∙ ap (λ bs. h.emissions ++ record { place = c.args.due; bytes = bs } ∷ []) c.requires.outgoing) in
    λ i. record { events = events i; emissions = emissions i }
