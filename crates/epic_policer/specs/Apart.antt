-- That no source's answers depend on what the others do.
use Rattle.std.specs.Prelude.{◌≡◌, Bool, List, [], map, filter, zip}
use Rattle.epic_num.specs.declared.name.AsId.{AsId}
use Rattle.epic_num.specs.Same.{same_as}
use Rattle.epic_policer.specs.Offers.{Policy, answers}
use Rattle.epic_policer.specs.declared.packet.Packet.{Packet}
use Rattle.epic_policer.specs.declared.policed.Policed.{Policed}

abbrev pub is_from : AsId → Packet → Bool
is_from source p = same_as p.source source

-- a source's packets among those offered, with their moments and lengths
abbrev pub offers_of : AsId → List Packet → List Packet
offers_of source ps = filter (is_from source) ps

-- the answers to a source's packets, among the answers to all packets
abbrev pub answers_to : AsId → List Packet → List Policed → List Policed
answers_to source ps given = map (λ x. x.1) (filter (λ x. is_from source x.0) (zip ps given))

-- where two lists of offers agree on the packets of a source, so do the answers to it
abbrev pub SourcesStandApart : Type 0
SourcesStandApart = (policy : Policy) (source : AsId) (ps qs : List Packet) → offers_of source ps ≡ offers_of source qs
    → answers_to source ps (answers policy [] ps) ≡ answers_to source qs (answers policy [] qs)
