-- What the place of its lines says of a ledger file, and the form of its lines of a verdict file.
use Rattle.std.specs.Prelude.{◌≢◌, IsTrue, ⊤}
use Rattle.std.specs.List.{All}
use Rattle.epic_topo.specs.Network.{Network, has}
use Rattle.epic_ledger.specs.Facts.{Facts}
use Rattle.epic_record.specs.declared.told.Told.{Told}
use Rattle.epic_record.specs.declared.told.Told.TheVariants as told

-- hops were issued and accepted by ASes of the network
pub record AreKnown (t : Network) (f : Facts) : Type 0 where
  pub issued : All (λ i. IsTrue (has t i.name.asn)) f.issues
  pub passed : All (λ w. IsTrue (has t w.asn)) f.passes

-- the AS of the second hop that a line names is one that has a name
abbrev pub IsNamed : Told → Type 0
IsNamed (told.Collided part left right tag) = right.asn.0 ≢ 0
IsNamed (told.Proved first second) = ⊤
IsNamed told.Unclaimed = ⊤
IsNamed (told.Opened step) = ⊤
IsNamed (told.Forged what key message tag) = ⊤
