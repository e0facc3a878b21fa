use Rattle.std.proofs.Common.{rules, ◌≡◌, Some, ap, sym, arith}
use Rattle.epic_num.specs.Names.{number_within}
use Rattle.epic_bench.specs.Request.{positive}
use Rattle.epic_bench.proofs.Numbers.{long_number, within_bound}
use Rattle.epic_bench.proofs.words.rounds.Goals as goal

pub returns-then-word-gt-MAX_DIGITS-clause-value :
    goal.returns-then-word-gt-MAX_DIGITS-clause-value
returns-then-word-gt-MAX_DIGITS-clause-value c = sym (ap positive (long_number c.args.word.now c.if-word-gt-MAX_DIGITS.true))

pub overflow_cast-result : goal.overflow_cast-result
overflow_cast-result c =
    let read : number_within 0xffff_ffff c.args.word.now ≡ Some c.in_ok-rounds.rounds = search rules in
    let bound = within_bound c.args.word.now c.in_ok-rounds.rounds read in
    omega arith
