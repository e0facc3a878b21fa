-- The issues that go on from others.
use Rattle.std.specs.Prelude.{Bool, ◌&&◌, List, [], ◌∷◌}
use Rattle.std.specs.Option.{option_map_or}
use Rattle.epic_num.specs.Chains.{Issue, name_of}
use Rattle.epic_num.specs.declared.hop.HopName.{HopName}
use Rattle.epic_ledger.specs.Facts.{as_issue}
use Rattle.epic_ledger.specs.declared.event.Event.{Event}
use Rattle.epic_index.specs.Names.{name_eq, name_key}
use Rattle.epic_index.specs.declared.children.ChildKey.{ChildKey}

-- an issue of y that goes on from one of z
unfoldable pub child_key : HopName → HopName → ChildKey
child_key y z = record { child = name_key y; parent = name_key z }

abbrev pub child_eq : ChildKey → ChildKey → Bool
child_eq k l = name_eq k.child l.child && name_eq k.parent l.parent

-- what an issue is sought by, where it goes on from another
abbrev pub child_keys : List Issue → Issue → List ChildKey
child_keys issues i = option_map_or (λ z. child_key i.name z ∷ []) (name_of issues i.parent) []

unfoldable pub child_rows : List Issue → Event → List ChildKey
child_rows issues e = option_map_or (child_keys issues) (as_issue e) []
