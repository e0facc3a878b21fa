-- What a packet's tags look at.
use Rattle.std.specs.Prelude.{◌≡◌, ℕ, List}
use Rattle.epic_num.specs.declared.hop.HopName.{HopName}
use Rattle.epic_layout.specs.Contents.{Contents}
use Rattle.epic_layout.specs.Spelling.{SameDestContent}
use Rattle.epic_topo.specs.Network.{Network}
use Rattle.epic_fields.specs.PacketTags.{field_over, update_over, hop_message, field_of, update_of, dest_field_of}

-- two packets have the parts that a hop's tags are made over: first byte, timestamp and source
pub record SameStamp (p q : Contents) : Type 0 where
  pub first : p.first ≡ q.first
  pub ts : p.ts ≡ q.ts
  pub src : p.src ≡ q.src

-- the tags of a hop are the same in two such packets, whatever fields, route, destination and payload they have
pub record HaveSameTags (t : Network) (x : HopName) (p q : Contents) (j : ℕ) : Type 0 where
  pub message : hop_message t x p j ≡ hop_message t x q j
  pub field : field_of t x p j ≡ field_of t x q j
  pub update : update_of t x p j ≡ update_of t x q j

abbrev pub TagsLookAtStamp : Type 0
TagsLookAtStamp = (t : Network) (x : HopName) (p q : Contents) (j : ℕ) → SameStamp p q → HaveSameTags t x p q j

-- the same over any authenticator and shared key
abbrev pub FormulasLookAtStamp : Type 0
FormulasLookAtStamp =
    (shared authenticator : List ℕ) (p q : Contents) (j : ℕ) → SameStamp p q
    → (field_over shared authenticator p j ≡ field_over shared authenticator q j) × (update_over shared authenticator p j ≡ update_over shared authenticator q j)

-- a destination field looks at no field and no place of a packet beside what it is made over
abbrev pub DestFieldsLookAtContent : Type 0
DestFieldsLookAtContent =
    (t : Network) (p q : Contents) (us vs : List (List ℕ)) → SameDestContent p q us vs → dest_field_of t p us ≡ dest_field_of t q vs
