use Rattle.std.proofs.Common.{◌≡◌, false, true, ap, sym, subst, ◌∙◌, Some}
use Rattle.epic_num.specs.declared.turn.Check.TheVariants.{Replay, WindowFull}
use Rattle.epic_num.specs.Levels.{is_timed}
use Rattle.epic_num.specs.Moments.{IsFresh}
use Rattle.epic_window.specs.Offers.{Offers, answer}
use Rattle.epic_window.specs.declared.offer.Offer.TheVariants.{Fresh, Seen, Full}
use Rattle.epic_router.specs.Remembering.{key_at}
use Rattle.epic_router.proofs.Remembered.{no_rows, answered_row, offered, untimed}
use Rattle.epic_router.proofs.remembering.window_refusal.Goals as goal

pub returns-then-not-is_timed-clause-value : goal.returns-then-not-is_timed-clause-value
returns-then-not-is_timed-clause-value c = λ t _. no_rows t c.args.window.now c.args.now c.args.packet.now (sym (ap is_timed c.first_byte.ensures) ∙ sym c.is_timed.ensures ∙ c.if-not-is_timed.true)

pub returns-then-not-is_timed-clause-window : goal.returns-then-not-is_timed-clause-window
returns-then-not-is_timed-clause-window c = untimed c.args.window.now c.args.now c.args.turn c.args.packet.now (sym (ap is_timed c.first_byte.ensures) ∙ sym c.is_timed.ensures ∙ c.if-not-is_timed.true) c.requires.latest

pub offer-requires-clause-fresh : goal.offer-requires-clause-fresh
unfolding key_at
offer-requires-clause-fresh c =
    subst (λ ts. IsFresh c.args.window.now.profile ts c.args.now) (sym (ap (λ k. k.ts) c.key_of.ensures)) (c.requires.fresh (sym (ap is_timed c.first_byte.ensures) ∙ sym c.is_timed.ensures ∙ c.if-not-is_timed.false))

pub returns-in-Fresh-clause-value : goal.returns-in-Fresh-clause-value
returns-in-Fresh-clause-value c = λ t profile.
    answered_row t c.args.window.now c.args.now c.args.packet.now c.key_of.result Fresh (sym (ap is_timed c.first_byte.ensures) ∙ sym c.is_timed.ensures ∙ c.if-not-is_timed.false) c.key_of.ensures profile c.in-Fresh.ensures.answers

pub returns-in-Fresh-clause-window : goal.returns-in-Fresh-clause-window
returns-in-Fresh-clause-window c =
    offered c.args.window.now c.offer.new.self c.key_of.result c.args.now c.args.turn Fresh c.args.packet.now (sym (ap is_timed c.first_byte.ensures) ∙ sym c.is_timed.ensures ∙ c.if-not-is_timed.false) c.key_of.ensures c.requires.latest c.in-Fresh.ensures

pub returns-in-Seen-clause-value : goal.returns-in-Seen-clause-value
returns-in-Seen-clause-value c = λ t profile.
    ap (λ j. Some (Replay c.in-Seen.first, j)) c.current-hop.ensures
    ∙ answered_row t c.args.window.now c.args.now c.args.packet.now c.key_of.result (Seen c.in-Seen.first) (sym (ap is_timed c.first_byte.ensures) ∙ sym c.is_timed.ensures ∙ c.if-not-is_timed.false) c.key_of.ensures profile c.in-Seen.ensures.answers

pub returns-in-Seen-clause-window : goal.returns-in-Seen-clause-window
returns-in-Seen-clause-window c =
    offered c.args.window.now c.offer.new.self c.key_of.result c.args.now c.args.turn (Seen c.in-Seen.first) c.args.packet.now (sym (ap is_timed c.first_byte.ensures) ∙ sym c.is_timed.ensures ∙ c.if-not-is_timed.false) c.key_of.ensures c.requires.latest c.in-Seen.ensures

pub returns-in-Full-clause-value : goal.returns-in-Full-clause-value
returns-in-Full-clause-value c = λ t profile.
    ap (λ j. Some (WindowFull c.in-Full.live, j)) c.current-hop.ensures
    ∙ answered_row t c.args.window.now c.args.now c.args.packet.now c.key_of.result (Full c.in-Full.live) (sym (ap is_timed c.first_byte.ensures) ∙ sym c.is_timed.ensures ∙ c.if-not-is_timed.false) c.key_of.ensures profile c.in-Full.ensures.answers

pub returns-in-Full-clause-window : goal.returns-in-Full-clause-window
returns-in-Full-clause-window c =
    offered c.args.window.now c.offer.new.self c.key_of.result c.args.now c.args.turn (Full c.in-Full.live) c.args.packet.now (sym (ap is_timed c.first_byte.ensures) ∙ sym c.is_timed.ensures ∙ c.if-not-is_timed.false) c.key_of.ensures c.requires.latest c.in-Full.ensures
