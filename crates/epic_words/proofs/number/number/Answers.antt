use Rattle.std.proofs.Common.{arith}
use Rattle.epic_words.proofs.Numbers.{no_long_number, number_above, number_at_most, number_below, number_there}
use Rattle.epic_words.proofs.number.number.Goals as goal

pub returns-then-word-gt-MOST_DIGITS-clause-value : goal.returns-then-word-gt-MOST_DIGITS-clause-value
returns-then-word-gt-MOST_DIGITS-clause-value c =
    number_above c.args.least c.args.most c.args.word.now (no_long_number c.args.most c.args.word.now (omega arith) (omega arith))

pub returns-in-Ok-clause-value : goal.returns-in-Ok-clause-value
returns-in-Ok-clause-value c =
    number_there c.args.least c.args.most c.in-Ok.n c.args.word.now (rw c.as_bytes.ensures.value at c.in-Ok.ensures.ok) (omega arith)

pub returns-in-Ok-clause-most : goal.returns-in-Ok-clause-most
returns-in-Ok-clause-most c = number_at_most c.args.most c.in-Ok.n _ c.in-Ok.ensures.ok

pub returns-in_default-clause-value : goal.returns-in_default-clause-value
returns-in_default-clause-value c =
    number_below c.args.least c.args.most c.in-Ok.n c.args.word.now (rw c.as_bytes.ensures.value at c.in-Ok.ensures.ok) (omega arith)

pub returns-in_default-2-clause-value : goal.returns-in_default-2-clause-value
returns-in_default-2-clause-value c =
    number_above c.args.least c.args.most c.args.word.now (rw c.as_bytes.ensures.value at c.in_default.ensures.err.unread)
