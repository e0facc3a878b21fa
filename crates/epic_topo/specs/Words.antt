-- The words of the line on err that names a topology's fault: `epic: topology KIND KEY ITEM`.
use Rattle.std.specs.Prelude.{ℕ, List, codes}
use Rattle.epic_topo.specs.declared.fault.TopoKind.{TopoKind}
use Rattle.epic_topo.specs.declared.fault.TopoKind.TheVariants.{NotToml, Missing, WrongKind, BadProfile, TooMany, BadAs, BadKey, DuplicateAs, UnknownAs, BadInterface, SelfLink, InterfaceTwice, CoreRule}
use Rattle.epic_topo.specs.declared.fault.TopoKey.{TopoKey}
use Rattle.epic_topo.specs.declared.fault.TopoKey.TheVariants as key

-- the word of a fault
unfoldable pub kind_word : TopoKind → List ℕ
kind_word NotToml = codes "not-toml"
kind_word Missing = codes "missing"
kind_word WrongKind = codes "wrong-kind"
kind_word BadProfile = codes "bad-profile"
kind_word TooMany = codes "too-many"
kind_word BadAs = codes "bad-as"
kind_word BadKey = codes "bad-key"
kind_word DuplicateAs = codes "duplicate-as"
kind_word UnknownAs = codes "unknown-as"
kind_word BadInterface = codes "bad-interface"
kind_word SelfLink = codes "self-link"
kind_word InterfaceTwice = codes "interface-twice"
kind_word CoreRule = codes "core-rule"

-- the word of the key at which a fault is
unfoldable pub key_word : TopoKey → List ℕ
key_word key.Text = codes "text"
key_word key.Profile = codes "profile"
key_word key.LifetimeUs = codes "lifetime_us"
key_word key.SkewUs = codes "skew_us"
key_word key.EpochS = codes "epoch_s"
key_word key.Window = codes "window"
key_word key.As = codes "as"
key_word key.Name = codes "name"
key_word key.Core = codes "core"
key_word key.Key = codes "key"
key_word key.Link = codes "link"
key_word key.Kind = codes "kind"
key_word key.A = codes "a"
key_word key.AIf = codes "a_if"
key_word key.B = codes "b"
key_word key.BIf = codes "b_if"
