-- Which holders of a key were revealed.
use Rattle.std.specs.Prelude.{◌≡◌, ℕ, min, Bool, true, List, [], ◌∷◌, Option, Some, None, option_map, slice_get, is_some}
use Rattle.epic_num.specs.declared.key_name.Holder.{Holder}
use Rattle.epic_num.specs.Holders.{is_among}
use Rattle.epic_ledger.specs.Facts.{Reveal}
use Rattle.epic_ledger.specs.Queries.{reveal_of}

-- the holder was revealed
pub record IsRevealed (reveals : List Reveal) (h : Holder) : Type 0 where
  pub index : ℕ
  pub reveal : Reveal
  pub there : slice_get reveals index ≡ Some reveal
  pub holder_is : reveal.holder ≡ h

-- one of these holders was revealed at this step
pub record IsRevealedAt (reveals : List Reveal) (hs : List Holder) (step : ℕ) : Type 0 where
  pub index : ℕ
  pub reveal : Reveal
  pub there : slice_get reveals index ≡ Some reveal
  pub among : is_among reveal.holder hs ≡ true
  pub step_is : reveal.step ≡ step

-- none of these holders was revealed
abbrev pub NoneRevealed : List Reveal → List Holder → Type 0
NoneRevealed reveals hs = (h : Holder) → is_among h hs ≡ true → IsRevealed reveals h → ⊥

unfoldable pub is_revealed : List Reveal → Holder → Bool
is_revealed reveals h = is_some (reveal_of reveals h)

-- the step of a holder's first reveal
unfoldable pub reveal_step : List Reveal → Holder → Option ℕ
reveal_step reveals h = option_map (λ r. r.step) (reveal_of reveals h)

-- the smaller of two numbers, where they are there
abbrev pub lesser : Option ℕ → Option ℕ → Option ℕ
lesser o None = o
lesser None (Some n) = Some n
lesser (Some m) (Some n) = Some (min m n)

-- the least of the holders' steps
abbrev pub least_step : List Reveal → List Holder → Option ℕ
least_step reveals [] = None
least_step reveals (h ∷ hs) = lesser (reveal_step reveals h) (least_step reveals hs)
