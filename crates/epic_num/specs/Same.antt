-- Tests of whether two values are the same, which compute.
use Rattle.std.specs.Prelude.{Bool, false, ◌&&◌, ◌==◌, bytes_eq}
use Rattle.epic_num.specs.declared.name.AsId.{AsId}
use Rattle.epic_num.specs.declared.name.HostId.{HostId}
use Rattle.epic_num.specs.declared.hop.Body.{Body}
use Rattle.epic_num.specs.declared.hop.Field.{Field}
use Rattle.epic_num.specs.declared.hop.HopName.{HopName}
use Rattle.epic_num.specs.declared.key_name.Holder.{Holder}
use Rattle.epic_num.specs.declared.key_name.Holder.TheVariants.{As, Host}
use Rattle.epic_num.specs.declared.key_name.KeyName.{KeyName}
use Rattle.epic_num.specs.declared.key_name.KeyName.TheVariants.{Fwd, Field as FieldKey, Dest}

unfoldable pub same_as : AsId → AsId → Bool
same_as a b = a.0 == b.0

unfoldable pub same_host : HostId → HostId → Bool
same_host h k = same_as h.asn k.asn && h.host == k.host

unfoldable pub same_body : Body → Body → Bool
same_body b c =
    b.pos == c.pos && b.exp == c.exp && b.ts_path == c.ts_path && b.inn == c.inn && b.out == c.out && bytes_eq b.link c.link

unfoldable pub same_name : HopName → HopName → Bool
same_name x y = same_as x.asn y.asn && x.generation == y.generation && same_body x.body y.body

unfoldable pub same_field : Field → Field → Bool
same_field v w = bytes_eq v.bytes w.bytes && v.width == w.width

unfoldable pub same_holder : Holder → Holder → Bool
same_holder (As a) (As b) = same_as a b
same_holder (Host h) (Host k) = same_host h k
same_holder _ _ = false

unfoldable pub same_key : KeyName → KeyName → Bool
same_key (Fwd a g) (Fwd b h) = same_as a b && g == h
same_key (FieldKey a src e) (FieldKey b src' e') = same_as a b && same_host src src' && e == e'
same_key (Dest dst src e) (Dest dst' src' e') = same_host dst dst' && same_host src src' && e == e'
same_key _ _ = false
