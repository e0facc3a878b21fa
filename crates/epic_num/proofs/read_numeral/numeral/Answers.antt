use Rattle.std.proofs.Common.{◌≡◌, ◌++◌, [], ◌∷◌, None, length, take, get_or, ◌∙◌, arith}
use Rattle.epic_num.specs.Names.{numeral_of, within}
use Rattle.epic_num.proofs.Stopped.{ended, stopped}
use Rattle.epic_num.proofs.read_numeral.numeral.Goals as goal

pub returns-in-None-clause-err : goal.returns-in-None-clause-err
returns-in-None-clause-err c =
    let text = c.args.text.now in
    let i = c.loop-i.i in
    let none : within c.args.least c.args.most (numeral_of c.args.base (take i text ++ (get_or text i 0 ∷ []))) ≡ None =
    c.extended.ensures (take i text) c.loop-i.invariant.1 ∙ c.in-None.is in
    stopped c.args.base c.args.least c.args.most c.requires.least_base c.requires.most_base c.requires.least
    c.requires.order text i c.loop-i.front c.loop-i-test.true c.loop-i.invariant.1 none

pub returns-clause-err : goal.returns-clause-err
returns-clause-err c =
    let at : c.loop-i.i ≡ length c.args.text.now = omega arith in
    rw c.ok_or.ensures.value
    (ended c.args.base c.args.least c.args.most c.requires.least_base c.requires.most_base c.requires.least
    c.requires.order c.args.text.now c.loop-i.i c.loop-i.front at c.loop-i.invariant.1)
