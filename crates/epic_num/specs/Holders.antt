-- Who holds a key.
use Rattle.std.specs.Prelude.{Bool, List, [], ◌∷◌}
use Rattle.std.specs.List.{list_any}
use Rattle.epic_num.specs.declared.key_name.Holder.{Holder}
use Rattle.epic_num.specs.declared.key_name.Holder.TheVariants.{As, Host}
use Rattle.epic_num.specs.declared.key_name.KeyName.{KeyName}
use Rattle.epic_num.specs.declared.key_name.KeyName.TheVariants.{Fwd, Field as FieldKey, Dest}
use Rattle.epic_num.specs.Same.{same_holder}

-- the AS whose master key it is derived from, and those that it is handed to
unfoldable pub holders : KeyName → List Holder
holders (Fwd a g) = As a ∷ []
holders (FieldKey a src epoch) = As a ∷ As src.asn ∷ Host src ∷ []
holders (Dest dst src epoch) = As dst.asn ∷ Host dst ∷ As src.asn ∷ Host src ∷ []

unfoldable pub is_among : Holder → List Holder → Bool
is_among h hs = list_any (λ k. same_holder h k) hs
