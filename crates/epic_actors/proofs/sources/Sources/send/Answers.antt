use Rattle.std.proofs.Common.{◌≡◌, ◌<◌, ◌^◌, true, false, sym, subst, ap, ◌∙◌}
use Rattle.std.specs.Prelude.{None, Some, IsSome, IfSome, is_some, Err, IfErr, IfOk}
use Rattle.std.specs.BTreeMap.{Updates}
use Rattle.epic_num.specs.declared.send_error.SendError.TheVariants.{OutOfMemory}
use Rattle.epic_ends.specs.Sources.{Sender}
use Rattle.epic_ends.specs.Sending.{sent_packet}
use Rattle.epic_layout.specs.Spelling.{spelling}
use Rattle.epic_ledger.specs.Facts.{sends_in}
use Rattle.epic_model.specs.Keeping.{latest_sent}
use Rattle.epic_actors.specs.Hosts.{host_cmp}
use Rattle.epic_actors.specs.Sources.{SourcesStandFor, source_of}
use Rattle.epic_actors.proofs.SourceTables.{table, found, own_is, answer_is, none_lost, sends_stand, same_stands, if_ok, if_err}
use Rattle.epic_actors.proofs.sources.Sources.send.Goals as goal
use Rattle.epic_actors.proofs.sources.Sources.send.Goals.{In-Some}

before : (c : In-Some) → SourcesStandFor (table c.self.inside.by_name) c.args.ledger.now.history
before c = subst (λ v. SourcesStandFor v c.args.ledger.now.history) (sym c.self.view_is) c.requires.stand

was : (c : In-Some) → source_of (table c.self.inside.by_name) c.args.src ≡ Some c.in-Some.source.now
was c = found c.self.inside.by_name c.args.src ∙ sym c.in-Some.ensures.value

own : (c : In-Some) → c.in-Some.source.now ≡ record { host = c.args.src; last = latest_sent (sends_in c.args.ledger.now.history) c.args.src }
own c = own_is c.self.inside.by_name c.args.src c.in-Some.source.now c.args.ledger.now.history (was c) (before c)

pub send-requires-clause-last : goal.send-requires-clause-last
send-requires-clause-last c =
    let d = (goal.at.send-requires-clause-last c).In-Some in
    subst (λ (x : Sender). IfSome x.last (λ last. last < 2 ^ 63)) (sym (own d)) c.requires.last

pub unreachable-requires : goal.unreachable-requires
unreachable-requires c =
    let none : source_of (table c.self.inside.by_name) c.args.src ≡ None = found c.self.inside.by_name c.args.src ∙ sym c.in-None.ensures.value in
    let some : false ≡ true = sym (ap (λ v. is_some (source_of v c.args.src)) (sym c.self.view_is) ∙ ap is_some none) ∙ c.requires.ready in
    absurd (cc)

pub returns-clause-sent : goal.returns-clause-sent
returns-clause-sent c =
    let d = (goal.at.returns-clause-sent c).In-Some in
    if_ok c.send.result (λ s e steps. sym (answer_is _ _ _ _ _ _ _ _ _ _ _ (own d) c.requires.keys steps) ∙ e) c.send.ensures.sent

pub returns-clause-packet : goal.returns-clause-packet
returns-clause-packet c =
    let d = (goal.at.returns-clause-packet c).In-Some in
    if_ok c.send.result
    (λ s e. e ∙ ap (λ (x : Sender). spelling (sent_packet c.args.topo.now c.args.path.now.legs.items c.args.version c.args.level x.host c.args.dst s.ts c.args.payload.now)) (own d))
    c.send.ensures.packet

pub returns-clause-taken : goal.returns-clause-taken
returns-clause-taken c =
    let d = (goal.at.returns-clause-taken c).In-Some in
    let m = c.self.inside.by_name in
    let x = c.send.new.self in
    let updates : Updates host_cmp m (c.get_mut.follows.lender x) (c.args.src.asn.0, c.args.src.host) (Some x) = (c.get_mut.follows.holds x).3 (ap is_some (sym c.in-Some.ensures.value)) in
    if_ok c.send.result
    (λ s e h latest. sends_stand m (c.get_mut.follows.lender x) c.args.src x s.ts c.args.ledger.now.history h updates
    (e ∙ ap (λ (y : Sender). record y { last = Some s.ts }) (own d)) latest (before d))
    c.send.ensures.taken

pub returns-clause-kept : goal.returns-clause-kept
returns-clause-kept c =
    let d = (goal.at.returns-clause-kept c).In-Some in
    let m = c.self.inside.by_name in
    let x = c.send.new.self in
    let updates : Updates host_cmp m (c.get_mut.follows.lender x) (c.args.src.asn.0, c.args.src.host) (Some x) = (c.get_mut.follows.holds x).3 (ap is_some (sym c.in-Some.ensures.value)) in
    if_err c.send.result
    (λ s e. same_stands m (c.get_mut.follows.lender x) c.args.src x c.args.ledger.now.history updates (was d ∙ ap (λ y. Some y) (sym e)) (before d))
    c.send.ensures.kept

pub returns-clause-made : goal.returns-clause-made
returns-clause-made c =
    let m = c.self.inside.by_name in
    let x = c.send.new.self in
    let updates : Updates host_cmp m (c.get_mut.follows.lender x) (c.args.src.asn.0, c.args.src.host) (Some x) = (c.get_mut.follows.holds x).3 (ap is_some (sym c.in-Some.ensures.value)) in
    λ d h. none_lost m (c.get_mut.follows.lender x) c.args.src x updates d (subst (λ v. IsSome (source_of v d)) (sym c.self.view_is) h)

pub returns-clause-refused : goal.returns-clause-refused
returns-clause-refused c =
    let d = (goal.at.returns-clause-refused c).In-Some in
    λ steps. subst (λ a. IfErr a (λ e. c.send.result ≡ Err e)) (answer_is _ _ _ _ _ _ _ _ _ _ _ (own d) c.requires.keys steps) c.send.ensures.refused

pub returns-clause-memory : goal.returns-clause-memory
returns-clause-memory c =
    let d = (goal.at.returns-clause-memory c).In-Some in
    λ steps. subst (λ a. IfErr c.send.result (λ e. IfOk a (λ _. e ≡ OutOfMemory))) (answer_is _ _ _ _ _ _ _ _ _ _ _ (own d) c.requires.keys steps) c.send.ensures.memory
