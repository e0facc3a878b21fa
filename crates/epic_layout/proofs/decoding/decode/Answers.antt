use Rattle.std.proofs.Common.{Ok, sym, subst, true, ◌≡◌}
use Rattle.epic_num.specs.Tables.{unless}
use Rattle.epic_layout.specs.Layout.{parse}
use Rattle.epic_layout.specs.Packets.{Decodes, contents_of, is_valid}
use Rattle.epic_layout.proofs.Soundness.{checked_sound, faultless}
use Rattle.epic_layout.proofs.Cuts.{IsBytes-from}
use Rattle.epic_layout.proofs.Decoded.{decoded}
use Rattle.epic_layout.proofs.decoding.decode.Goals as goal

pub returns-in-Ok-packet_from : goal.returns-in-Ok-packet_from
returns-in-Ok-packet_from c =
    let b = c.args.bytes.now in
    let p = c.in-Ok-packet_from.packet in
    let s = checked_sound b _ _ c.in-Ok.ensures in
    let whole = subst (λ q. (is_valid q ≡ true) × (contents_of q ≡ parse b)) (sym c.in-Ok-packet_from.ensures) (decoded b (IsBytes-from b c.type_inv.bytes) s) in
    subst (λ f. Decodes (Ok p) (unless f (parse b))) (sym (faultless b s)) whole
