-- The words that say who can have made the field of a hop of level 1.
use Rattle.std.specs.Prelude.{◌≡◌, ℕ, List, [], ◌∷◌, codes, decimal, ⊤}
use Rattle.hex.specs.Hex.{encode_lower}
use Rattle.epic_num.specs.declared.hop.HopName.{HopName}
use Rattle.epic_num.specs.Bodies.{body_bytes}
use Rattle.epic_num.specs.Messages.{field1_message}
use Rattle.epic_num.specs.Names.{as_text}
use Rattle.epic_layout.specs.Contents.{Contents}
use Rattle.epic_topo.specs.Network.{Network}
use Rattle.epic_fields.specs.Tags.{sigma}
use Rattle.epic_audit.specs.ForgedText.{words_text, field_text}
use Rattle.epic_holders.specs.declared.maker.Maker.{Maker}
use Rattle.epic_holders.specs.declared.maker.Maker.TheVariants.{AsHop, Made, Opened, Collided, Forged}

-- the AS of a hop, the generation of its key, and the hop's body
unfoldable pub hop_text : HopName → List ℕ
hop_text x = words_text (as_text x.asn.0 ∷ decimal x.generation ∷ encode_lower (body_bytes x.body) ∷ [])

-- the authenticator that both hops have
unfoldable pub authenticator_text : Network → HopName → List ℕ
authenticator_text t x = encode_lower (sigma t x)

-- what the field of hop j of a level 1 packet is made over
unfoldable pub message_text : Contents → ℕ → List ℕ
message_text p j = encode_lower (field1_message p.ts p.src j)

-- two hops, and their authenticator
abbrev pub collided_words : Network → HopName → HopName → List (List ℕ)
collided_words t left right = codes "collided" ∷ hop_text left ∷ hop_text right ∷ authenticator_text t left ∷ []

-- a hop, what its field is made over, and the field as it stands in the packet
abbrev pub forged_words : HopName → Contents → ℕ → List (List ℕ)
forged_words x p j = codes "forged" ∷ hop_text x ∷ message_text p j ∷ field_text p j ∷ []

-- of hop j of the packet, whose name is x
abbrev pub maker_words : Network → HopName → Contents → ℕ → Maker → List (List ℕ)
maker_words t x p j AsHop = codes "as-hop" ∷ []
maker_words t x p j (Made emission) = codes "made" ∷ decimal emission ∷ []
maker_words t x p j (Opened step) = codes "opened" ∷ decimal step ∷ []
maker_words t x p j (Collided left right) = collided_words t left right
maker_words t x p j Forged = forged_words x p j

unfoldable pub maker_text : Network → HopName → Contents → ℕ → Maker → List ℕ
maker_text t x p j m = words_text (maker_words t x p j m)

-- the left name of a collision is x
abbrev pub IsOfHop : HopName → Maker → Type 0
IsOfHop x (Collided left right) = left ≡ x
IsOfHop x m = ⊤
