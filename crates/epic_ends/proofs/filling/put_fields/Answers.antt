use Rattle.std.proofs.Common.{[], map, sym, arith}
use Rattle.std.proofs.lemmas.List.{get_or-map, length-map}
use Rattle.epic_num.specs.declared.hop.Field.{Field}
use Rattle.epic_layout.specs.Contents.{field_bytes}
use Rattle.epic_layout.specs.Layout.{parse}
use Rattle.epic_ends.proofs.Filled.{put_more}
use Rattle.epic_ends.proofs.filling.put_fields.Goals as goal

pub loop-j-preserved : goal.loop-j-preserved
loop-j-preserved c =
    let test = c.loop-j-test.true in
    let counted = c.requires.packet.counted in
    let count = c.requires.count in
    record {
      shape = c.put_field.ensures.shape;
      packet = put_more (parse c.args.bytes.now) (parse c.loop-j.bytes) _ (map field_bytes c.args.fields.now) c.loop-j.j _
          (omega (arith, test, length-map c.args.fields.now (λ (w : Field). field_bytes w))) (omega (arith, test, counted, count))
          (sym (get_or-map (λ (w : Field). field_bytes w) c.args.fields.now c.loop-j.j _ [] test)) c.loop-j.invariant.packet c.put_field.ensures.packet;
      spelled = c.put_field.ensures.spelled;
      faultless = c.put_field.ensures.faultless;
    }
