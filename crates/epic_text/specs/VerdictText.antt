-- The words of verdicts.
use Rattle.std.specs.Prelude.{ℕ, ◌<◌, ◌==◌, IsTrue, List, [], ◌∷◌, codes, decimal, if◌then◌else◌, ⊤}
use Rattle.hex.specs.Hex.{encode_lower}
use Rattle.epic_num.specs.declared.hop.HopName.{HopName}
use Rattle.epic_num.specs.declared.verdict.Collision.{Collision}
use Rattle.epic_num.specs.declared.verdict.Forgery.{Forgery}
use Rattle.epic_num.specs.declared.verdict.Part.{Part}
use Rattle.epic_num.specs.declared.verdict.Part.TheVariants.{Link, Sigma}
use Rattle.epic_num.specs.declared.verdict.Verdict.{Verdict}
use Rattle.epic_num.specs.declared.verdict.Verdict.TheVariants.{Proved, Unclaimed, Opened, Forged, Collided}
use Rattle.epic_num.specs.Bodies.{body_bytes}
use Rattle.epic_num.specs.Names.{as_text}
use Rattle.epic_layout.specs.Contents.{Contents, hop_count}
use Rattle.epic_topo.specs.Network.{Network, has}
use Rattle.epic_keys.specs.Keys.{owner}
use Rattle.epic_fields.specs.Tags.{sigma, link}
use Rattle.epic_audit.specs.ForgedText.{words_text, forged_words, has_form, fits_level}

-- a destination names the send alone, a hop of level 0 or 1 its issue alone, and other hops both
abbrev pub proved_words : ℕ → ℕ → List (List ℕ)
proved_words issue send =
    if issue == 0 then codes "proved" ∷ decimal send ∷ []
    else if send == 0 then codes "proved" ∷ decimal issue ∷ []
    else codes "proved" ∷ decimal issue ∷ decimal send ∷ []

-- the AS of a hop, the generation of its key, and the hop's body
unfoldable pub hop_text : HopName → List ℕ
hop_text x = words_text (as_text x.asn.0 ∷ decimal x.generation ∷ encode_lower (body_bytes x.body) ∷ [])

abbrev pub part_word : Part → List ℕ
part_word Link = codes "link"
part_word Sigma = codes "sigma"

-- the tag that both hops have
unfoldable pub common_tag : Network → Part → HopName → List ℕ
common_tag t Link x = link t x
common_tag t Sigma x = sigma t x

abbrev pub collided_words : Network → Collision → List (List ℕ)
collided_words t c =
    codes "collided"
    ∷ part_word c.part
    ∷ hop_text c.left
    ∷ hop_text c.right
    ∷ encode_lower (common_tag t c.part c.left)
    ∷ []

-- the words of a verdict on an acceptance of the packet, as it came in
unfoldable pub verdict_words : Network → Contents → Verdict → List (List ℕ)
verdict_words t p (Proved issue send) = proved_words issue send
verdict_words t p Unclaimed = codes "unclaimed" ∷ []
verdict_words t p (Opened step) = codes "opened" ∷ decimal step ∷ []
verdict_words t p (Forged forgery) = forged_words t p forgery
verdict_words t p (Collided collision) = collided_words t collision

-- the forgery is one of the packet, and its tag can be checked
pub record IsForgeryOf (t : Network) (p : Contents) (f : Forgery) : Type 0 where
  pub hop : f.hop < hop_count p
  pub form : IsTrue (has_form f.kind f.key)
  pub owner_there : IsTrue (has t (owner f.key))
  pub level : IsTrue (fits_level f.kind p.first)

-- what a verdict tells of can be computed
abbrev pub IsTellable : Network → Contents → Verdict → Type 0
IsTellable t p (Forged forgery) = IsForgeryOf t p forgery
IsTellable t p (Collided collision) = IsTrue (has t collision.left.asn)
IsTellable t p verdict = ⊤
