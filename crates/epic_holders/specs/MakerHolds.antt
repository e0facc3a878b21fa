-- What it means of a verdict on the maker of a level 1 field, whoever gave it, that it is true.
use Rattle.std.specs.Prelude.{◌≡◌, ◌≢◌, ℕ, ◌≤◌, true, List, Some, slice_get}
use Rattle.epic_num.specs.declared.hop.HopName.{HopName}
use Rattle.epic_num.specs.declared.hop.Level.TheVariants.{L1}
use Rattle.epic_num.specs.Levels.{level_of}
use Rattle.epic_num.specs.Messages.{field1_message}
use Rattle.epic_layout.specs.Contents.{Contents, field}
use Rattle.epic_topo.specs.Network.{Network}
use Rattle.epic_fields.specs.Formulas.{field1}
use Rattle.epic_fields.specs.Tags.{sigma}
use Rattle.epic_ledger.specs.Facts.{Facts, Sent, Reveal, sent_name}
use Rattle.epic_audit.specs.Clauses.{IsIssued, IsSourced, is_sent_like}
use Rattle.epic_holders.specs.declared.maker.Maker.{Maker}
use Rattle.epic_holders.specs.declared.maker.Maker.TheVariants.{AsHop, Made, Opened, Collided, Forged}
use Rattle.epic_holders.specs.Holders.{is_holder}

-- a packet of level 1 with p's source and timestamp was sent over x, as this emission
pub record IsMadeBy (f : Facts) (x : HopName) (p : Contents) (j emission : ℕ) : Type 0 where
  pub index : ℕ
  pub send : Sent
  pub there : slice_get f.sends index ≡ Some send
  pub alike : is_sent_like p send ≡ true
  pub named : sent_name f.issues send j ≡ Some x
  pub emission_is : send.emission ≡ emission

-- no holder of x was revealed
abbrev pub NoneOpened : Facts → HopName → Type 0
NoneOpened f x = (n : ℕ) (r : Reveal) → slice_get f.reveals n ≡ Some r → is_holder f x r.holder ≡ true → ⊥

-- a holder of x was revealed at this step, and none before it
pub record IsOpenedAt (f : Facts) (x : HopName) (step : ℕ) : Type 0 where
  pub index : ℕ
  pub reveal : Reveal
  pub there : slice_get f.reveals index ≡ Some reveal
  pub holds : is_holder f x reveal.holder ≡ true
  pub step_is : reveal.step ≡ step
  pub least : (n : ℕ) (r : Reveal) → slice_get f.reveals n ≡ Some r → is_holder f x r.holder ≡ true → step ≤ r.step

-- a source that sent a packet of level 1 made one of its fields over this message, under this authenticator
pub record IsComputed (t : Network) (f : Facts) (authenticator message : List ℕ) : Type 0 where
  pub index : ℕ
  pub send : Sent
  pub hop : ℕ
  pub name : HopName
  pub there : slice_get f.sends index ≡ Some send
  pub level : level_of send.packet.first ≡ L1
  pub named : sent_name f.issues send hop ≡ Some name
  pub sigma_is : sigma t name ≡ authenticator
  pub message_is : field1_message send.packet.ts send.packet.src hop ≡ message

-- the hop was issued, no packet was sent so over it, and a holder was revealed
pub record MakerOpened (f : Facts) (x : HopName) (p : Contents) (j step : ℕ) : Type 0 where
  pub issued : IsIssued f.issues x
  pub not_made : IsSourced f x p j → ⊥
  pub opened : IsOpenedAt f x step

-- no holder was revealed, and the packet that was sent has another hop with one authenticator at j
pub record MakerCollided (t : Network) (f : Facts) (x : HopName) (p : Contents) (j : ℕ) (left right : HopName) : Type 0 where
  pub issued : IsIssued f.issues x
  pub not_made : IsSourced f x p j → ⊥
  pub not_opened : NoneOpened f x
  pub left_is : left ≡ x
  pub sent : IsSourced f right p j
  pub differ : left ≢ right
  pub sigma_is : sigma t left ≡ sigma t right

-- no holder was revealed; the field is right under the authenticator, and no source made it
pub record MakerForged (t : Network) (f : Facts) (x : HopName) (p : Contents) (j : ℕ) : Type 0 where
  pub issued : IsIssued f.issues x
  pub not_made : IsSourced f x p j → ⊥
  pub not_opened : NoneOpened f x
  pub field_is : field p j ≡ field1 (sigma t x) p.ts p.src j
  pub not_computed : IsComputed t f (sigma t x) (field1_message p.ts p.src j) → ⊥

-- the verdict is true of hop j, whose name is x
abbrev pub MakerHolds : Network → Facts → HopName → Contents → ℕ → Maker → Type 0
MakerHolds t f x p j AsHop = IsIssued f.issues x → ⊥
MakerHolds t f x p j (Made emission) = IsMadeBy f x p j emission
MakerHolds t f x p j (Opened step) = MakerOpened f x p j step
MakerHolds t f x p j (Collided left right) = MakerCollided t f x p j left right
MakerHolds t f x p j Forged = MakerForged t f x p j
