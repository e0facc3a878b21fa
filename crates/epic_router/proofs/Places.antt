-- What bytes without a fault say of their hops.
use Rattle.std.proofs.Common.{◌≡◌, ℕ, ◌≤◌, List, Ok, arith}
use Rattle.epic_num.specs.Tables.{unless}
use Rattle.epic_layout.specs.Contents.{hop_count}
use Rattle.epic_num.specs.Levels.{is_first_byte}
use Rattle.epic_layout.specs.Layout.{fault, parse}
use Rattle.epic_layout.proofs.Shapes.{hop_count_parse}
use Rattle.epic_layout.proofs.Soundness.{checked_sound}

-- the current hop of bytes without a fault is a hop of the packet, or the one past its last
pub current_parse : {X : Type 0} (b : List ℕ) (x y : X) → Ok x ≡ unless (fault is_first_byte b) y → (parse b).current ≤ hop_count (parse b)
unfolding parse
current_parse b x y e = omega (arith, (checked_sound b x y e).current, hop_count_parse b)

-- and there are few of them
pub few_hops_parse : {X : Type 0} (b : List ℕ) (x y : X) → Ok x ≡ unless (fault is_first_byte b) y → hop_count (parse b) ≤ 32
few_hops_parse b x y e = omega (arith, (checked_sound b x y e).few_hops, hop_count_parse b)
