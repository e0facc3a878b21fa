-- Tests of whether two lines tell the same.
use Rattle.std.specs.Prelude.{◌==◌, ◌&&◌, Bool, true, false, Option, Some, None, bytes_eq}
use Rattle.epic_num.specs.declared.verdict.Part.{Part}
use Rattle.epic_num.specs.declared.verdict.Part.TheVariants.{Link, Sigma}
use Rattle.epic_num.specs.Same.{same_key, same_name}
use Rattle.epic_record.specs.declared.told.Told.{Told}
use Rattle.epic_record.specs.declared.told.Told.TheVariants as told
use Rattle.epic_record.specs.declared.told.ToldForgery.{ToldForgery}
use Rattle.epic_record.specs.declared.told.ToldForgery.TheVariants as what

abbrev pub same_part : Part → Part → Bool
same_part Link Link = true
same_part Sigma Sigma = true
same_part m n = false

-- both are there and the same, or neither is there
abbrev pub same_option : {X : Type 0} → (X → X → Bool) → Option X → Option X → Bool
same_option same None None = true
same_option same (Some x) (Some y) = same x y
same_option same o q = false

unfoldable pub same_what : ToldForgery → ToldForgery → Bool
same_what what.Issue what.Issue = true
same_what (what.Over key message) (what.Over key' message') =
    same_option same_key key key' && bytes_eq message message'
same_what what.Field what.Field = true
same_what (what.Update hop) (what.Update hop') = hop == hop'
same_what what.Dest what.Dest = true
same_what w v = false

unfoldable pub same_told : Told → Told → Bool
same_told (told.Proved first second) (told.Proved first' second') =
    first == first' && same_option (λ m n. m == n) second second'
same_told told.Unclaimed told.Unclaimed = true
same_told (told.Opened step) (told.Opened step') = step == step'
same_told (told.Forged what key message tag) (told.Forged what' key' message' tag') =
    same_what what what' && same_key key key' && bytes_eq message message' && bytes_eq tag tag'
same_told (told.Collided part left right tag) (told.Collided part' left' right' tag') =
    same_part part part' && same_name left left' && same_name right right' && bytes_eq tag tag'
same_told a b = false
