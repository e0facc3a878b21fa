use Rattle.std.proofs.Common.{◌≡◌, ℕ, ◌+◌, ◌≤◌, nat_lt, false, List, [], ◌∷◌, ◌++◌, length, sym, subst, ap, ◌∙◌, arith}
use Rattle.epic_num.specs.declared.answer.Answer.TheVariants.{Sent as SentAnswer}
use Rattle.epic_num.specs.declared.passed.Place.TheVariants.{Router}
use Rattle.epic_layout.specs.Spelling.{spelling}
use Rattle.epic_ends.specs.Sending.{sent_packet}
use Rattle.epic_ledger.specs.History.{emitted}
use Rattle.epic_ledger.specs.Facts.{issues_in}
use Rattle.epic_ledger.specs.Lawful.{FitsSend}
use Rattle.epic_ledger.specs.OneMore.{with_emission, with_event}
use Rattle.epic_ledger.specs.declared.event.Event.TheVariants as event
use Rattle.epic_model.specs.Keeping.{sent_at}
use Rattle.epic_model.specs.Passing.{most_emitted}
use Rattle.epic_model.specs.Traces.{Stepped}
use Rattle.epic_actors.specs.Sources.{IsLatest, packet_len, state_at}
use Rattle.epic_actors.proofs.Sendable.{last_small, hops_are_known, long_as, small_enough, ts_is, fits_now, recorded_is, latest_now, emitted_full, emitted_now, ok_same}
use Rattle.epic_actors.proofs.sending.sent_on.Goals as goal
use Rattle.epic_actors.proofs.sending.sent_on.Goals.{In-Ok}

-- ---- the ledger is full

pub returns-then-is_full_for-clause-answer : goal.returns-then-is_full_for-clause-answer
returns-then-is_full_for-clause-answer c =
    let long = long_as _ _ _ _ _ c.args.numbers _ c.requires.world c.requires.over _ _ _ _ _ c.is_topology.ensures c.requires.few_steps c.requires.exists c.requires.source c.is_host.ensures c.is_host-2.ensures c.requires.admitted in
    let full = ap (λ n. nat_lt most_emitted (emitted c.args.ledger.now.history.emissions + n)) (long ∙ (ap (λ f. packet_len c.args.path.now.legs.items f c.args.payload.now) (sym c.first_byte.ensures) ∙ sym c.packet_len-len.ensures))
    ∙ (sym c.is_full_for.ensures ∙ c.if-is_full_for.true) in
    sym (ap (λ (n : Stepped). n.answer) (emitted_full (state_at c.args.now c.args.steps c.args.ledger.now.history) c.args.numbers (sent_packet c.args.topo.now c.args.path.now.legs.items c.args.version c.args.level c.args.src c.args.dst c.args.ts c.args.payload.now) full))

pub returns-then-is_full_for-clause-history : goal.returns-then-is_full_for-clause-history
returns-then-is_full_for-clause-history c =
    let long = long_as _ _ _ _ _ c.args.numbers _ c.requires.world c.requires.over _ _ _ _ _ c.is_topology.ensures c.requires.few_steps c.requires.exists c.requires.source c.is_host.ensures c.is_host-2.ensures c.requires.admitted in
    let full = ap (λ n. nat_lt most_emitted (emitted c.args.ledger.now.history.emissions + n)) (long ∙ (ap (λ f. packet_len c.args.path.now.legs.items f c.args.payload.now) (sym c.first_byte.ensures) ∙ sym c.packet_len-len.ensures))
    ∙ (sym c.is_full_for.ensures ∙ c.if-is_full_for.true) in
    sym (ap (λ (n : Stepped). n.state.history) (emitted_full (state_at c.args.now c.args.steps c.args.ledger.now.history) c.args.numbers (sent_packet c.args.topo.now c.args.path.now.legs.items c.args.version c.args.level c.args.src c.args.dst c.args.ts c.args.payload.now) full))

-- ---- it has room

pub send-requires-clause-last : goal.send-requires-clause-last
send-requires-clause-last c = last_small _ _ _ _ c.requires.world c.requires.few_steps c.args.src

pub send-requires-clause-hops : goal.send-requires-clause-hops
send-requires-clause-hops c = hops_are_known _ _ _ _ _ c.args.numbers _ c.requires.world c.requires.over

same_ts : (c : In-Ok) → c.in-Ok.sent.ts ≡ c.args.ts
same_ts c = ok_same c.in-Ok.sent.ts c.args.ts (sym (c.in-Ok.ensures.sent c.args.steps) ∙ c.requires.admitted)

bytes_are : (c : In-Ok) (bytes : List ℕ) → bytes ≡ c.in-Ok.sent.bytes → bytes ≡ spelling (sent_packet c.args.topo.now c.args.path.now.legs.items c.args.version c.args.level c.args.src c.args.dst c.args.ts c.args.payload.now)
bytes_are c bytes is =
    is
    ∙ (c.in-Ok.ensures.packet
    ∙ ap (λ ts. spelling (sent_packet c.args.topo.now c.args.path.now.legs.items c.args.version c.args.level c.args.src c.args.dst ts c.args.payload.now)) (same_ts c))

room : (c : In-Ok) → nat_lt most_emitted (emitted c.args.ledger.now.history.emissions + length (spelling (sent_packet c.args.topo.now c.args.path.now.legs.items c.args.version c.args.level c.args.src c.args.dst c.args.ts c.args.payload.now))) ≡ false
room c =
    let long = long_as _ _ _ _ _ c.args.numbers _ c.requires.world c.requires.over _ _ _ _ _ c.is_topology.ensures c.requires.few_steps c.requires.exists c.requires.source c.is_host.ensures c.is_host-2.ensures c.requires.admitted in
    ap (λ n. nat_lt most_emitted (emitted c.args.ledger.now.history.emissions + n)) (long ∙ (ap (λ f. packet_len c.args.path.now.legs.items f c.args.payload.now) (sym c.first_byte.ensures) ∙ sym c.packet_len-len.ensures))
    ∙ (sym c.is_full_for.ensures ∙ c.if-is_full_for.false)

pub record_send-emission-requires-clause-room : goal.record_send-emission-requires-clause-room
record_send-emission-requires-clause-room c =
    let d = (goal.at.record_send-emission-requires-clause-room c).In-Ok in
    let small = small_enough _ _ _ _ _ c.args.numbers _ c.requires.world c.requires.over _ _ _ _ _ c.is_topology.ensures c.requires.few_steps c.requires.exists c.requires.source c.is_host.ensures c.is_host-2.ensures c.requires.admitted in
    subst (λ bs. length bs ≤ c.args.ledger.now.spare.bytes) (sym (bytes_are d c.as_slice.result.now c.as_slice.ensures)) (omega (arith, small, c.requires.bytes))

pub record_send-emission-requires-clause-fits : goal.record_send-emission-requires-clause-fits
record_send-emission-requires-clause-fits c =
    let d = (goal.at.record_send-emission-requires-clause-fits c).In-Ok in
    let h = c.args.ledger.now.history in
    subst (λ bs. FitsSend (h.emissions ++ record { place = Router c.args.src.asn 0; bytes = bs } ∷ []) (issues_in h.events) (length h.emissions + 1) c.args.numbers.items)
    (sym (bytes_are d c.as_slice.result.now c.as_slice.ensures))
    (fits_now _ _ _ _ _ c.args.numbers _ c.requires.world c.requires.over _ _ _ _ _ c.is_topology.ensures c.requires.few_steps c.requires.exists c.requires.source c.is_host.ensures c.is_host-2.ensures c.requires.admitted)

pub returns-in-Ok-clause-answer : goal.returns-in-Ok-clause-answer
returns-in-Ok-clause-answer c =
    let d = (goal.at.returns-in-Ok-clause-answer c).In-Ok in
    let same = same_ts d ∙ sym (ts_is _ _ _ _ _ c.args.numbers _ c.requires.world c.requires.over _ _ _ _ _ c.is_topology.ensures c.requires.few_steps c.requires.exists c.requires.source c.is_host.ensures c.is_host-2.ensures c.requires.admitted) in
    (λ i. SentAnswer (c.record_send-emission.ensures.number i) (same i))
    ∙ sym (ap (λ (n : Stepped). n.answer) (emitted_now (state_at c.args.now c.args.steps c.args.ledger.now.history) c.args.numbers (sent_packet c.args.topo.now c.args.path.now.legs.items c.args.version c.args.level c.args.src c.args.dst c.args.ts c.args.payload.now) (room d)))

pub returns-in-Ok-clause-history : goal.returns-in-Ok-clause-history
returns-in-Ok-clause-history c =
    let d = (goal.at.returns-in-Ok-clause-history c).In-Ok in
    let h = c.args.ledger.now.history in
    c.record_send-emission.ensures.history
    ∙ (ap (λ bs. with_event (with_emission h (record { place = Router c.args.src.asn 0; bytes = bs })) (event.Send (c.args.steps + 1) (length h.emissions + 1) c.args.numbers))
    (bytes_are d c.as_slice.result.now c.as_slice.ensures)
    ∙ (recorded_is _ _ _ _ _ c.args.numbers _ c.requires.world c.requires.over _ _ _ _ _ c.is_topology.ensures c.requires.few_steps c.requires.exists c.requires.source c.is_host.ensures c.is_host-2.ensures c.requires.admitted
    ∙ sym (ap (λ (n : Stepped). n.state.history) (emitted_now (state_at c.args.now c.args.steps c.args.ledger.now.history) c.args.numbers (sent_packet c.args.topo.now c.args.path.now.legs.items c.args.version c.args.level c.args.src c.args.dst c.args.ts c.args.payload.now) (room d)))))

pub returns-in-Ok-clause-stand : goal.returns-in-Ok-clause-stand
returns-in-Ok-clause-stand c =
    let d = (goal.at.returns-in-Ok-clause-stand c).In-Ok in
    let h = c.args.ledger.now.history in
    let after = c.record_send-emission.ensures.history
    ∙ (ap (λ bs. with_event (with_emission h (record { place = Router c.args.src.asn 0; bytes = bs })) (event.Send (c.args.steps + 1) (length h.emissions + 1) c.args.numbers))
    (bytes_are d c.as_slice.result.now c.as_slice.ensures)
    ∙ recorded_is _ _ _ _ _ c.args.numbers _ c.requires.world c.requires.over _ _ _ _ _ c.is_topology.ensures c.requires.few_steps c.requires.exists c.requires.source c.is_host.ensures c.is_host-2.ensures c.requires.admitted) in
    let latest = latest_now _ _ _ _ _ c.args.numbers _ c.requires.world c.requires.over _ _ _ _ _ c.is_topology.ensures c.requires.few_steps c.requires.exists c.requires.source c.is_host.ensures c.is_host-2.ensures c.requires.admitted in
    c.in-Ok.ensures.taken c.record_send-emission.new.ledger.history
    (subst (λ g. IsLatest c.args.src c.in-Ok.sent.ts h g) (sym after)
    (subst (λ ts. IsLatest c.args.src ts h (sent_at (c.args.steps + 1) h c.args.numbers (sent_packet c.args.topo.now c.args.path.now.legs.items c.args.version c.args.level c.args.src c.args.dst c.args.ts c.args.payload.now))) (sym (same_ts d)) latest))

pub returns-in-Ok-clause-bytes_spare : goal.returns-in-Ok-clause-bytes_spare
returns-in-Ok-clause-bytes_spare c =
    let d = (goal.at.returns-in-Ok-clause-bytes_spare c).In-Ok in
    let small = small_enough _ _ _ _ _ c.args.numbers _ c.requires.world c.requires.over _ _ _ _ _ c.is_topology.ensures c.requires.few_steps c.requires.exists c.requires.source c.is_host.ensures c.is_host-2.ensures c.requires.admitted in
    let short : length c.as_slice.result.now ≤ 8880 = subst (λ bs. length bs ≤ 8880) (sym (bytes_are d c.as_slice.result.now c.as_slice.ensures)) small in
    let left = c.record_send-emission.ensures.bytes_spare in
    omega (arith, short, left)
