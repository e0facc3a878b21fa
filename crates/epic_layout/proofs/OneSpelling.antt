-- The laws of spellings and of path bytes.
use Rattle.std.proofs.Common.{ap, sym, ◌∙◌, subst}
use Rattle.epic_layout.specs.Route.{place, successor, ingress, egress, body}
use Rattle.epic_layout.specs.Contents.{IsPacket, HoldsBytes}
use Rattle.epic_layout.specs.Spelling.{spelling}
use Rattle.epic_layout.specs.Laws.{PacketsAreSpelled, SpellingsAreOne, PacketsAreOne, PathsAreOne}
use Rattle.epic_layout.specs.Reading.{BytesAreRead}
use Rattle.epic_layout.proofs.Soundness.{sound}
use Rattle.epic_layout.proofs.Spelled.{spelling-parse}
use Rattle.epic_layout.proofs.Limits.{IsPacket-parse, HoldsBytes-parse}
use Rattle.epic_layout.proofs.Faultless.{Spells-spelling}
use Rattle.epic_layout.proofs.Codes.{same_route}

pub packets_are_spelled : PacketsAreSpelled
packets_are_spelled = Spells-spelling

pub spellings_are_one : SpellingsAreOne
spellings_are_one b p bytes s =
    let whole = sound b s.faultless in (
      subst IsPacket s.says (IsPacket-parse b bytes whole),
      subst HoldsBytes s.says (HoldsBytes-parse b bytes),
      sym (spelling-parse b bytes whole) ∙ ap spelling s.says,
    )

pub bytes_are_read : BytesAreRead
bytes_are_read bytes all faultless = IsPacket-parse bytes all (sound bytes faultless)

pub packets_are_one : PacketsAreOne
packets_are_one b p q s t = sym s.says ∙ t.says

pub paths_are_one : PathsAreOne
paths_are_one x y ix iy e =
    let same = same_route x y ix iy e in
    record {
      routes = same;
      bodies = λ j. ap (λ r. body r j) same;
      places = λ j. ap (λ r. place r.segments j) same;
      successors = λ j. ap (λ r. successor (place r.segments j) j) same;
      ingresses = λ j. ap (λ r. ingress r j) same;
      egresses = λ j. ap (λ r. egress r j) same;
    }
