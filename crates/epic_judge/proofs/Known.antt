-- The AS of a hop that has the name of a known one.
use Rattle.std.proofs.Common.{◌≡◌, Bool, true, sym, subst, ◌∙◌}
use Rattle.std.specs.Prelude.{IsTrue}
use Rattle.epic_num.specs.Same.{same_name}
use Rattle.epic_num.specs.declared.hop.HopName.{HopName}
use Rattle.epic_num.proofs.SameLaws.{same_name-Decides}
use Rattle.epic_topo.specs.Network.{Network, has}

pub named_known : (t : Network) (y x : HopName) → same_name y x ≡ true → IsTrue (has t x.asn) → IsTrue (has t y.asn)
named_known t y x e known = subst (λ (z : HopName). IsTrue (has t z.asn)) (sym ((same_name-Decides y x).0 e)) known
