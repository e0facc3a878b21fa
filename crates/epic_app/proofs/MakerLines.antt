-- The line of a maker.
use Rattle.std.proofs.Common.{◌≡◌, ℕ, ◌<◌, ◌∷◌, ◌++◌, length, codes, decimal, ap, sym, ◌∙◌, append_assoc, arith}
use Rattle.epic_num.specs.declared.hop.HopName.{HopName}
use Rattle.epic_layout.specs.Contents.{Contents}
use Rattle.epic_topo.specs.Network.{Network}
use Rattle.epic_audit.specs.ForgedText.{words_text}
use Rattle.epic_holders.specs.declared.maker.Maker.{Maker}
use Rattle.epic_holders.specs.declared.maker.Maker.TheVariants.{AsHop, Made, Opened, Collided, Forged}
use Rattle.epic_holders.specs.MakerText.{maker_text, maker_words}
use Rattle.epic_text.proofs.LineLemmas.{words_text-cons}

some_words : (t : Network) (x : HopName) (p : Contents) (j : ℕ) (m : Maker) → 0 < length (maker_words t x p j m)
some_words t x p j AsHop = omega arith
some_words t x p j (Made emission) = omega arith
some_words t x p j (Opened step) = omega arith
some_words t x p j (Collided left right) = omega arith
some_words t x p j Forged = omega arith

-- the words behind the hop's number
pub maker_front : (t : Network) (x : HopName) (p : Contents) (j : ℕ) (m : Maker)
    → (codes "maker " ++ (decimal j ++ codes " ")) ++ maker_text t x p j m ≡ words_text (codes "maker" ∷ decimal j ∷ maker_words t x p j m)
unfolding maker_text
maker_front t x p j m =
    ap (λ w. codes "maker " ++ w)
    (append_assoc (decimal j) (codes " ") (words_text (maker_words t x p j m))
    ∙ sym (words_text-cons (decimal j) (maker_words t x p j m) (some_words t x p j m)))
