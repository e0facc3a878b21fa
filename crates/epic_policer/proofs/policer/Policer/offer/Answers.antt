use Rattle.std.proofs.Common.{refl, sym, ◌∙◌, subst, ◌∷◌, arith}
use Rattle.std.specs.HashMap.{keys}
use Rattle.epic_policer.specs.Offers.{Policy, Same}
use Rattle.epic_policer.specs.Queue.{entries_of}
use Rattle.epic_policer.specs.declared.packet.Packet.{Packet}
use Rattle.epic_policer.proofs.Answering.{answers_over, answers_pass, answers_unknown, policy_as}
use Rattle.epic_policer.proofs.Keeping.{kept_later, kept_put}
use Rattle.epic_policer.proofs.Nodes.{put_last, queue_put, size_put}
use Rattle.epic_policer.proofs.Sums.{Same-put}
use Rattle.epic_policer.proofs.policer.Policer.offer.Goals as goal

pub sweep-requires : goal.sweep-requires
sweep-requires c =
    let later = rw (← c.self.view_is) at c.requires.latest in
    record { kept = kept_later _ _ _ _ _ later c.self.invariant }

pub invariant_of-self : goal.invariant_of-self
invariant_of-self c =
    let p : Packet = record { source = c.args.source; bytes = c.args.bytes; moment = c.args.now } in
    let e = c.in-Ok.ensures in
    let charges = c.in-Taken.ensures.charges in
    kept_put _ _ _ _ _ p c.sweep.ensures.kept
    (put_last c.sweep.new.pool c.insert.new.self c.in-Ok.field-0 p c.sweep.ensures.kept.queue e.new e.live e.b e.values)
    (queue_put c.sweep.new.pool c.insert.new.self c.in-Ok.field-0 p c.sweep.ensures.kept.queue e.new e.live e.b e.values)
    (size_put c.sweep.new.pool c.insert.new.self c.in-Taken.list c.in-Ok.field-0 e.a)
    (omega (arith, charges.1, charges.2))
    charges.3 c.charge.ensures.lists

pub returns-in-Ok : goal.returns-in-Ok
returns-in-Ok c =
    let p : Packet = record { source = c.args.source; bytes = c.args.bytes; moment = c.args.now } in
    let policy : Policy = record { sources = keys c.self.inside.accounts; budget = c.self.inside.budget; span_us = c.self.inside.span_us } in
    let e = c.in-Ok.ensures in
    let charges = c.in-Taken.ensures.charges in
    rw (← c.self.view_is)
    (record {
      answers = answers_pass policy c.sweep.new.accounts.entries (entries_of c.self.inside.pool) c.sweep.new.pool p
          (sym c.sweep.ensures.keys) c.sweep.ensures.kept c.sweep.ensures.live c.sweep.ensures.same c.in-Taken.used c.in-Taken.list charges.0 charges.1 charges.2;
      passed = subst (λ ps. Same c.self.inside.span_us c.args.now ps (p ∷ entries_of c.self.inside.pool))
          (sym (put_last c.sweep.new.pool c.insert.new.self c.in-Ok.field-0 p c.sweep.ensures.kept.queue e.new e.live e.b e.values))
          (Same-put c.self.inside.span_us c.args.now p (entries_of c.sweep.new.pool) (entries_of c.self.inside.pool) c.sweep.ensures.same);
      latest = refl;
      policy = policy_as c.self.inside.budget c.self.inside.span_us (c.charge.ensures.keys ∙ c.sweep.ensures.keys);
      spare = let more = c.sweep.ensures.spare in let one = e.spare in omega (arith, more, one);
    })

pub returns-in-Over : goal.returns-in-Over
returns-in-Over c =
    let p : Packet = record { source = c.args.source; bytes = c.args.bytes; moment = c.args.now } in
    let policy : Policy = record { sources = keys c.self.inside.accounts; budget = c.self.inside.budget; span_us = c.self.inside.span_us } in
    let charges = c.in-Over.ensures.charges in
    rw (← c.self.view_is)
    (record {
      answers = answers_over policy c.sweep.new.accounts.entries (entries_of c.self.inside.pool) c.sweep.new.pool p
          (sym c.sweep.ensures.keys) c.sweep.ensures.kept c.sweep.ensures.live c.sweep.ensures.same c.in-Over.used charges.0 charges.1 charges.2;
      passed = c.sweep.ensures.same;
      latest = refl;
      policy = policy_as c.self.inside.budget c.self.inside.span_us (c.charge.ensures.keys ∙ c.sweep.ensures.keys);
      spare = let more = c.sweep.ensures.spare in omega (arith, more);
    })

pub returns-in-Unknown : goal.returns-in-Unknown
returns-in-Unknown c =
    let p : Packet = record { source = c.args.source; bytes = c.args.bytes; moment = c.args.now } in
    let policy : Policy = record { sources = keys c.self.inside.accounts; budget = c.self.inside.budget; span_us = c.self.inside.span_us } in
    rw (← c.self.view_is)
    (record {
      answers = answers_unknown policy c.sweep.new.accounts.entries (entries_of c.self.inside.pool) c.sweep.new.pool p
          (sym c.sweep.ensures.keys) c.sweep.ensures.kept c.sweep.ensures.live c.sweep.ensures.same c.in-Unknown.ensures.charges.0;
      passed = c.sweep.ensures.same;
      latest = refl;
      policy = policy_as c.self.inside.budget c.self.inside.span_us (c.charge.ensures.keys ∙ c.sweep.ensures.keys);
      spare = let more = c.sweep.ensures.spare in omega (arith, more);
    })
