use Rattle.std.proofs.Common.{◌≡◌, subst, sym, ◌∙◌}
use Rattle.epic_layout.specs.Layout.{parse}
use Rattle.epic_router.specs.Candidates.{candidates_of}
use Rattle.epic_router.specs.Handling.{turn_of}
use Rattle.epic_router.specs.Remembering.{told}
use Rattle.epic_router.specs.RightTurns.{IsRightTurn}
use Rattle.epic_router.specs.Routers.{RouterState}
use Rattle.epic_router.proofs.Answered.{without_fault, with_fault}
use Rattle.epic_router.proofs.Right.{turns_are_right}
use Rattle.epic_router.proofs.router.Router.turn.Goals as goal
use Rattle.epic_router.proofs.router.Router.turn.Goals.{After-handle}

answer : (c : After-handle)
    → c.handle.result
    ≡ turn_of c.args.topo.now c.args.self.now.asn (candidates_of c.args.generation) c.args.iface c.args.now
    (told c.args.self.now.window c.args.now (parse c.args.bytes.now)) c.args.bytes.now
answer c =
    subst
    (λ (s : RouterState). c.handle.result
    ≡ turn_of c.args.topo.now s.asn (candidates_of c.args.generation) c.args.iface c.args.now (told s.window c.args.now (parse c.args.bytes.now)) c.args.bytes.now)
    c.self.view_is (c.handle.ensures.answer ∙ without_fault _ _ _ _ _ _ _ _ _ c.in-Ok.ensures)

pub returns-in-Ok-clause-answer : goal.returns-in-Ok-clause-answer
returns-in-Ok-clause-answer c = answer (goal.at.returns-in-Ok-clause-answer c).After-handle

pub returns-in-Ok-clause-right : goal.returns-in-Ok-clause-right
returns-in-Ok-clause-right c =
    subst
    (IsRightTurn c.args.topo.now c.args.self.now.asn (candidates_of c.args.generation) c.args.iface c.args.now
    (told c.args.self.now.window c.args.now (parse c.args.bytes.now)) c.args.bytes.now)
    (sym (answer (goal.at.returns-in-Ok-clause-right c).After-handle))
    (turns_are_right _ _ _ _ _ _ _ (λ _. c.handle.ensures.packet))

pub returns-in-Err-clause-answer : goal.returns-in-Err-clause-answer
returns-in-Err-clause-answer c = with_fault _ _ _ _ _ _ _ _ _ c.in-Err.ensures
