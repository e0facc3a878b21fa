use Rattle.std.proofs.Common.{rules, ◌≡◌, ◌≢◌, ◌<◌, length, false, sym, ◌∙◌}
use Rattle.epic_ports.specs.Faults.{is_listed, next_count}
use Rattle.epic_ports.specs.MemSink.{taken_of}
use Rattle.epic_ports.proofs.SinkAnswers.{answer-refused, answer-taken, refuses-full, refuses-listed, refuses-neither}
use Rattle.epic_ports.proofs.mem_sink.MemSinkSink.write.Goals as goal
use Rattle.epic_ports.proofs.mem_sink.MemSinkSink.write.Goals.{then-taken-eq0-via-then-taken-eq0, then-taken-eq0-via-else-taken-eq0+then-contains}

pub returns-then-taken-eq0-clause-answer : goal.returns-then-taken-eq0-clause-answer
returns-then-taken-eq0-clause-answer c =
    let sink = c.args.self.now in
    let bytes = c.args.bytes.now in
    let some : 0 < length bytes = search rules in
    answer-refused sink bytes some (elim c.then-taken-eq0.branch [
      | then-taken-eq0-via-then-taken-eq0 w ↦ refuses-full sink bytes (search rules)
      | then-taken-eq0-via-else-taken-eq0+then-contains w ↦ refuses-listed sink bytes (rw (← c.next-self.ensures.value, ← w.deref.ensures.value) (sym w.contains.ensures.value ∙ w.if-contains.true))
    ])

pub returns-clause-answer : goal.returns-clause-answer
returns-clause-answer c =
    let sink = c.args.self.now in
    let bytes = c.args.bytes.now in
    let some : 0 < length bytes = search rules in
    let takes : taken_of sink bytes ≡ c.min-taken.result = search rules in
    let spare : taken_of sink bytes ≢ 0 = rw takes c.if-taken-eq0.false in
    let listed : is_listed sink.fail.items (next_count sink.calls) ≡ false = rw (← c.next-self.ensures.value, ← c.deref.ensures.value) (sym c.contains.ensures.value ∙ c.if-contains.false) in
    rw (← takes) (answer-taken sink bytes some (refuses-neither sink bytes spare listed))
