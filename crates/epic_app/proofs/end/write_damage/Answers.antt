use Rattle.std.proofs.Common.{◌≡◌, decimal, ap, ◌∙◌}
use Rattle.epic_feed.specs.Damages.{offset_of, word_of}
use Rattle.epic_app.proofs.end.write_damage.Goals as goal

pub returns-clause-ok : goal.returns-clause-ok
returns-clause-ok g c =
    let kind : c.as_bytes.result.now ≡ word_of c.args.damage = c.as_bytes.ensures.value ∙ c.word.ensures in
    let offset : c.as_bytes-2.result.now ≡ decimal (offset_of c.args.damage) = c.as_bytes-2.ensures.value ∙ (c.format.ensures.text ∙ ap decimal c.offset.ensures) in
    rw (kind, offset) at c.write_pieces.ensures.ok

pub returns-clause-err : goal.returns-clause-err
returns-clause-err g c =
    let kind : c.as_bytes.result.now ≡ word_of c.args.damage = c.as_bytes.ensures.value ∙ c.word.ensures in
    let offset : c.as_bytes-2.result.now ≡ decimal (offset_of c.args.damage) = c.as_bytes-2.ensures.value ∙ (c.format.ensures.text ∙ ap decimal c.offset.ensures) in
    rw (kind, offset) at c.write_pieces.ensures.err
