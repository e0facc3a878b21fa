use Rattle.std.proofs.Common.{◌≡◌, decimal, ◌∙◌}
use Rattle.epic_app.specs.FaultLines.{file_word}
use Rattle.epic_app.proofs.end.write_named_fault.Goals as goal

pub returns-clause-ok : goal.returns-clause-ok
returns-clause-ok g c =
    let word : c.as_bytes.result.now ≡ file_word c.args.file = c.as_bytes.ensures.value ∙ c.word.ensures in
    let line : c.as_bytes-2.result.now ≡ decimal c.args.line = c.as_bytes-2.ensures.value ∙ c.format.ensures.text in
    rw (word, line) at c.write_pieces.ensures.ok

pub returns-clause-err : goal.returns-clause-err
returns-clause-err g c =
    let word : c.as_bytes.result.now ≡ file_word c.args.file = c.as_bytes.ensures.value ∙ c.word.ensures in
    let line : c.as_bytes-2.result.now ≡ decimal c.args.line = c.as_bytes-2.ensures.value ∙ c.format.ensures.text in
    rw (word, line) at c.write_pieces.ensures.err
