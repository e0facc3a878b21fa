use Rattle.std.proofs.Common.{◌≡◌, ◌<◌, subst, sym, ap, ◌∙◌}
use Rattle.std.specs.Prelude.{is_none}
use Rattle.epic_num.specs.declared.turn.Turn.TheVariants.{Refused}
use Rattle.epic_layout.specs.Contents.{Contents, hop_count}
use Rattle.epic_layout.specs.Layout.{parse}
use Rattle.epic_router.specs.Acceptance.{AreUpdates, generations_of, hops_of, last_of}
use Rattle.epic_router.specs.Candidates.{candidates_of}
use Rattle.epic_router.specs.Handling.{handled, onward}
use Rattle.epic_router.specs.Remembering.{Remembers, is_accepted, told}
use Rattle.epic_router.specs.Routers.{bytes_after}
use Rattle.epic_router.proofs.Answered.{refused_by_checks, refused_by_window, accepted_by_all, last_there, are_updates, bytes_onward, accepted_onward}
use Rattle.epic_router.proofs.router.handle.Goals as goal

pub returns-in-Err-clause-answer : goal.returns-in-Err-clause-answer
returns-in-Err-clause-answer c =
    subst
    (λ (q : Contents). Refused c.in-Err.check c.in-Err.hop
    ≡ handled c.args.topo.now c.args.a (candidates_of c.args.generation) c.args.iface c.args.now (told c.args.window.now c.args.now q) q)
    c.of-packet.ensures (refused_by_checks _ _ _ _ _ _ _ _ _ c.in-Err.ensures.refusal)

pub returns-in-Some-clause-answer : goal.returns-in-Some-clause-answer
returns-in-Some-clause-answer c =
    subst
    (λ (q : Contents). Refused c.in-Some.check c.in-Some.hop
    ≡ handled c.args.topo.now c.args.a (candidates_of c.args.generation) c.args.iface c.args.now (told c.args.window.now c.args.now q) q)
    c.of-packet.ensures
    (refused_by_window _ _ _ _ _ _ _ _ _ c.in-Ok.ensures.refusal (c.in-Some.ensures.value c.args.topo.now (sym c.requires.profile)))

pub go_on-requires-clause-there : goal.go_on-requires-clause-there
go_on-requires-clause-there c =
    subst (λ (q : Contents). last_of q.current c.in-Ok.handled.second < hop_count q) c.of-packet.ensures
    (last_there _ _ _ _ _ _ c.in-Ok.ensures.accepted.second c.in-Ok.ensures.there)

pub returns-clause-answer : goal.returns-clause-answer
returns-clause-answer c =
    let h = c.in-Ok.handled in
    c.go_on.ensures.answer
    ∙ subst
    (λ (q : Contents). onward q (last_of q.current h.second) (hops_of h.second) (generations_of h.first h.second)
    ≡ handled c.args.topo.now c.args.a (candidates_of c.args.generation) c.args.iface c.args.now (told c.args.window.now c.args.now q) q)
    c.of-packet.ensures
    (accepted_by_all _ _ _ _ _ _ _ _ _ c.in-Ok.ensures.refusal
    (sym c.in_default.is ∙ c.window_refusal.ensures.value c.args.topo.now (sym c.requires.profile))
    c.in-Ok.ensures.accepted.first c.in-Ok.ensures.accepted.second)

pub returns-clause-bytes : goal.returns-clause-bytes
returns-clause-bytes c =
    let h = c.in-Ok.handled in
    let updates : AreUpdates c.args.topo.now c.args.a (parse c.args.bytes.now) (parse c.args.bytes.now).current h.first h.second =
    subst (λ (q : Contents). AreUpdates c.args.topo.now c.args.a q q.current h.first h.second) c.of-packet.ensures
    (are_updates _ _ _ _ _ _ _ c.in-Ok.ensures.accepted.first c.in-Ok.ensures.accepted.second) in
    c.go_on.ensures.bytes c.args.topo.now c.args.a updates
    ∙ (bytes_onward c.args.topo.now c.args.a (last_of (parse c.args.bytes.now).current h.second) (hops_of h.second) (generations_of h.first h.second) c.args.bytes.now
    ∙ ap (λ turn. bytes_after c.args.topo.now c.args.a turn c.args.bytes.now) (sym c.go_on.ensures.answer))

pub returns-clause-window : goal.returns-clause-window
returns-clause-window c =
    subst (Remembers c.args.window.now c.window_refusal.new.window c.args.now c.args.turn (parse c.args.bytes.now))
    (ap is_none c.in_default.is ∙ (accepted_onward _ _ _ _ ∙ ap is_accepted (sym c.go_on.ensures.answer)))
    (subst (λ (q : Contents). Remembers c.args.window.now c.window_refusal.new.window c.args.now c.args.turn q (is_none c.window_refusal.result))
    c.of-packet.ensures c.window_refusal.ensures.window)
