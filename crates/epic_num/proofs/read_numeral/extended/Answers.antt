use Rattle.std.proofs.Common.{◌≡◌, ◌<◌, Some, ◌∙◌, ap, sym, arith}
use Rattle.epic_num.proofs.Numerals.{after_zero, after_digits}
use Rattle.epic_num.proofs.read_numeral.extended.Goals as goal

pub returns-in-Some-eq0 : goal.returns-in-Some-eq0
returns-in-Some-eq0 c = λ text writes.
    let zero : c.args.front ≡ Some 0 = c.in-Some-eq0.is ∙ ap (λ x. Some x) (sym c.in-Some-eq0.field-0-is ∙ c.in-Some-eq0.field-0-test) in
    after_zero c.args.base c.args.least c.args.most text c.args.c (omega arith) (omega arith) (rw zero at writes)

pub returns-in-Some : goal.returns-in-Some
returns-in-Some c = λ text writes.
    let test = rw c.in-Some.is at c.in-Some.value-test in
    let some : 0 < c.in-Some.value = omega (arith, test.1) in
    after_digits c.args.base c.args.least c.args.most text c.in-Some.value c.args.c c.with_digit-in-Some.result (omega arith) (omega arith) (rw c.in-Some.is at writes) some c.with_digit-in-Some.ensures
