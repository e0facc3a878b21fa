use Rattle.epic_ends.proofs.Remembered.{answered, fresh_key}
use Rattle.epic_ends.proofs.arriving.remember.Goals as goal

pub offer-requires-clause-fresh : goal.offer-requires-clause-fresh
offer-requires-clause-fresh c =
    fresh_key c.args.window.now.profile c.args.now c.args.packet.now c.end_key.result c.end_key.ensures c.requires.fresh

pub returns-in-Fresh-clause-answer : goal.returns-in-Fresh-clause-answer
returns-in-Fresh-clause-answer c =
    answered c.args.window.now c.args.now c.args.packet.now c.end_key.result _ c.end_key.ensures c.in-Fresh.ensures.answers

pub returns-in-Seen-clause-answer : goal.returns-in-Seen-clause-answer
returns-in-Seen-clause-answer c =
    answered c.args.window.now c.args.now c.args.packet.now c.end_key.result _ c.end_key.ensures c.in-Seen.ensures.answers

pub returns-in-Full-clause-answer : goal.returns-in-Full-clause-answer
returns-in-Full-clause-answer c =
    answered c.args.window.now c.args.now c.args.packet.now c.end_key.result _ c.end_key.ensures c.in-Full.ensures.answers
