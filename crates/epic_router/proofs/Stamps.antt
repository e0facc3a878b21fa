-- What a packet's tags look at: neither at its fields nor at its current hop.
use Rattle.std.proofs.Common.{◌≡◌, ℕ, sym}
use Rattle.epic_num.specs.declared.hop.HopName.{HopName}
use Rattle.epic_layout.specs.Contents.{Contents}
use Rattle.epic_topo.specs.Network.{Network}
use Rattle.epic_fields.specs.Laws as laws
use Rattle.epic_fields.specs.PacketTags.{field_of, update_of}
use Rattle.epic_fields.proofs.Stamps.{tags_stamp}

-- the second packet has the first one's first byte, timestamp and source
pub record SameStamp (p q : Contents) : Type 0 where
  pub first : q.first ≡ p.first
  pub ts : q.ts ≡ p.ts
  pub src : q.src ≡ p.src

as_law : (p q : Contents) → SameStamp p q → laws.SameStamp q p
as_law p q e = record { first = e.first; ts = e.ts; src = e.src }

pub field_stamp : (t : Network) (x : HopName) (p q : Contents) (j : ℕ) → SameStamp p q → field_of t x q j ≡ field_of t x p j
field_stamp t x p q j e = (tags_stamp t x q p j (as_law p q e)).field

pub update_stamp : (t : Network) (x : HopName) (p q : Contents) (j : ℕ) → SameStamp p q → update_of t x q j ≡ update_of t x p j
update_stamp t x p q j e = (tags_stamp t x q p j (as_law p q e)).update
