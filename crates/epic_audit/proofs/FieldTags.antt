-- The fields of levels 2 and 3, and what equal messages of them tell.
use Rattle.std.proofs.Common.{◌≡◌, ℕ, true}
use Rattle.std.proofs.lemmas.Slice.Eq.{bytes_eq-Decides}
use Rattle.epic_num.specs.declared.hop.HopName.{HopName}
use Rattle.epic_num.specs.Levels.{is_tagged}
use Rattle.epic_num.specs.Messages.{SameFieldContent}
use Rattle.epic_num.proofs.MessageLaws.{field_messages}
use Rattle.epic_layout.specs.Contents.{Contents, IsPacket, field}
use Rattle.epic_topo.specs.Network.{Network}
use Rattle.epic_fields.specs.Tags.{sigma}
use Rattle.epic_fields.specs.HopChecks.{carries_field, has_field}
use Rattle.epic_fields.specs.PacketTags.{message_over, hop_message, field_of}

pub right_field : (t : Network) (x : HopName) (p : Contents) (j : ℕ) → has_field t x p j ≡ true → field p j ≡ field_of t x p j
unfolding has_field carries_field
right_field t x p j e = (bytes_eq-Decides (field p j) (field_of t x p j)).0 e

-- equal messages are made over the same
pub same_message : (t : Network) (x y : HopName) (p q : Contents) (i j : ℕ) → IsPacket p → IsPacket q → is_tagged p.first ≡ true → is_tagged q.first ≡ true
    → hop_message t x p i ≡ hop_message t y q j → SameFieldContent p.first q.first p.ts q.ts p.src q.src i j (sigma t x) (sigma t y)
unfolding hop_message message_over
same_message t x y p q i j is_p is_q tagged_p tagged_q e =
    field_messages p.first q.first p.ts q.ts p.src q.src i j (sigma t x) (sigma t y)
    (record { is_tagged_first = tagged_p; ts_fits = is_p.ts; src_fits = is_p.src })
    (record { is_tagged_first = tagged_q; ts_fits = is_q.ts; src_fits = is_q.src })
    e
