use Rattle.std.proofs.Common.{◌+◌, Err, ap, sym, rules, arith, ◌∙◌}
use Rattle.epic_record.proofs.LedgerLaws.{whole_refused, none_read, line_read, line_refused}
use Rattle.epic_record.proofs.ledger_check.check_ledger.Goals as goal

pub returns-then-bytes-gt-MAX_LEDGER : goal.returns-then-bytes-gt-MAX_LEDGER
returns-then-bytes-gt-MAX_LEDGER c = whole_refused c.args.topo.now c.args.bytes.now (omega (arith, c.if-bytes-gt-MAX_LEDGER.true))

pub loop-rest-init : goal.loop-rest-init
loop-rest-init c =
    record {
      read = none_read c.args.topo.now c.args.bytes.now c.new-places.result (omega (arith, c.if-bytes-gt-MAX_LEDGER.false)) c.new-places.ensures.positions c.new-places.ensures.emissions;
      few = omega arith;
      within = omega arith;
      small = omega (arith, c.if-bytes-gt-MAX_LEDGER.false);
    }

pub returns-in-Err-Refused : goal.returns-in-Err-Refused
returns-in-Err-Refused c =
    line_refused c.args.topo.now c.args.bytes.now c.loop-rest.rest.now c.split_line.result.0.now c.split_line.result.1.now
    c.loop-rest.number c.loop-rest.accepted c.loop-rest.places c.in-Err-Refused.kind
    c.loop-rest.invariant.read c.split_line.ensures.parts (search rules)
    ∙ ap (λ k. Err (c.loop-rest.number + 1, k)) (sym c.in-Err-Refused.kind-is)

pub loop-rest-preserved-in-Ok : goal.loop-rest-preserved-in-Ok
loop-rest-preserved-in-Ok c =
    record {
      read =
          line_read c.args.topo.now c.args.bytes.now c.loop-rest.rest.now c.split_line.result.0.now c.split_line.result.1.now
          c.loop-rest.number c.loop-rest.accepted c.accepted_by-accepted.result c.loop-rest.places c.next_item.new.places c.in-Ok.item
          c.loop-rest.invariant.read c.split_line.ensures.parts (search rules) (search rules) c.accepted_by-accepted.ensures.value;
      few = omega (arith, c.accepted_by-accepted.ensures.most);
      within = omega (arith, c.split_line.ensures.shorter);
      small = c.loop-rest.invariant.small;
    }

pub loop-rest-preserved-in-Ok-2 : goal.loop-rest-preserved-in-Ok-2
loop-rest-preserved-in-Ok-2 c =
    record {
      read =
          line_read c.args.topo.now c.args.bytes.now c.loop-rest.rest.now c.split_line.result.0.now c.split_line.result.1.now
          c.loop-rest.number c.loop-rest.accepted c.accepted_by-accepted.result c.loop-rest.places c.next_item.new.places c.in-Ok.item
          c.loop-rest.invariant.read c.split_line.ensures.parts (search rules) (search rules) c.accepted_by-accepted.ensures.value;
      few = omega (arith, c.accepted_by-accepted.ensures.most);
      within = omega (arith, c.split_line.ensures.shorter);
      small = c.loop-rest.invariant.small;
    }

pub loop-rest-preserved-in-Ok-3 : goal.loop-rest-preserved-in-Ok-3
loop-rest-preserved-in-Ok-3 c =
    record {
      read =
          line_read c.args.topo.now c.args.bytes.now c.loop-rest.rest.now c.split_line.result.0.now c.split_line.result.1.now
          c.loop-rest.number c.loop-rest.accepted c.accepted_by-accepted.result c.loop-rest.places c.next_item.new.places c.in-Ok.item
          c.loop-rest.invariant.read c.split_line.ensures.parts (search rules) (search rules) c.accepted_by-accepted.ensures.value;
      few = omega (arith, c.accepted_by-accepted.ensures.most);
      within = omega (arith, c.split_line.ensures.shorter);
      small = c.loop-rest.invariant.small;
    }

pub loop-rest-preserved : goal.loop-rest-preserved
loop-rest-preserved c =
    record {
      read =
          line_read c.args.topo.now c.args.bytes.now c.loop-rest.rest.now c.split_line.result.0.now c.split_line.result.1.now
          c.loop-rest.number c.loop-rest.accepted c.accepted_by-accepted.result c.loop-rest.places c.next_item.new.places c.in-Ok.item
          c.loop-rest.invariant.read c.split_line.ensures.parts (search rules) (search rules) c.accepted_by-accepted.ensures.value;
      few = omega (arith, c.accepted_by-accepted.ensures.most);
      within = omega (arith, c.split_line.ensures.shorter);
      small = c.loop-rest.invariant.small;
    }
