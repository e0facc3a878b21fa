use Rattle.std.proofs.Common.{◌≡◌, decimal, ◌∙◌}
use Rattle.epic_topo.specs.Words.{kind_word, key_word}
use Rattle.epic_app.proofs.end.write_topology_fault.Goals as goal

pub returns-clause-ok : goal.returns-clause-ok
returns-clause-ok g c =
    let kind : c.as_bytes.result.now ≡ kind_word c.args.kind = c.as_bytes.ensures.value ∙ c.word.ensures in
    let key : c.as_bytes-2.result.now ≡ key_word c.args.key = c.as_bytes-2.ensures.value ∙ c.word-2.ensures in
    let item : c.as_bytes-3.result.now ≡ decimal c.args.item = c.as_bytes-3.ensures.value ∙ c.format.ensures.text in
    rw (kind, key, item) at c.write_pieces.ensures.ok

pub returns-clause-err : goal.returns-clause-err
returns-clause-err g c =
    let kind : c.as_bytes.result.now ≡ kind_word c.args.kind = c.as_bytes.ensures.value ∙ c.word.ensures in
    let key : c.as_bytes-2.result.now ≡ key_word c.args.key = c.as_bytes-2.ensures.value ∙ c.word-2.ensures in
    let item : c.as_bytes-3.result.now ≡ decimal c.args.item = c.as_bytes-3.ensures.value ∙ c.format.ensures.text in
    rw (kind, key, item) at c.write_pieces.ensures.err
