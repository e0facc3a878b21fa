-- What a router answers to a packet.
use Rattle.std.specs.Prelude.{ℕ, ◌+◌, ◌==◌, if◌then◌else◌, List, [], ◌∷◌, Option, None, Some, option_map, unwrap_or}
use Rattle.epic_num.specs.declared.name.AsId.{AsId}
use Rattle.epic_num.specs.declared.turn.Check.{Check}
use Rattle.epic_num.specs.declared.turn.Check.TheVariants.{Layout}
use Rattle.epic_num.specs.declared.turn.Turn.{Turn}
use Rattle.epic_num.specs.declared.turn.Turn.TheVariants.{Forward, Deliver, Refused}
use Rattle.epic_num.specs.Levels.{is_first_byte}
use Rattle.epic_num.specs.Tables.{first_row}
use Rattle.epic_num.specs.Windows.{Told}
use Rattle.epic_layout.specs.Contents.{Contents}
use Rattle.epic_layout.specs.Layout.{fault, parse}
use Rattle.epic_layout.specs.Route.{egress}
use Rattle.epic_topo.specs.Network.{Network}
use Rattle.epic_router.specs.Candidates.{accepting}
use Rattle.epic_router.specs.Checks.{has_second, handled_hops, last_handled, rows}

-- the generation under which hop j is accepted
unfoldable pub generation_at : Network → AsId → List ℕ → Contents → ℕ → ℕ
generation_at t a candidates p j = unwrap_or (accepting t a candidates p j) 0

-- those of the hops that are handled from hop j on: there are two, of which the second is 0 where one hop is handled
unfoldable pub generations_from : Network → AsId → List ℕ → Contents → ℕ → List ℕ
generations_from t a candidates p j =
    generation_at t a candidates p j ∷ (if has_second p j then generation_at t a candidates p (j + 1) else 0) ∷ []

-- a packet goes on over the egress of the last hop that was handled, or to its destination's host
unfoldable pub onward : Contents → ℕ → ℕ → List ℕ → Turn
onward p last hops generations =
    if egress p.route last == 0 then Deliver p.dst.host hops generations else Forward (egress p.route last) hops generations

-- the answer, unless a check failed
abbrev pub unless : Option (Check × ℕ) → Turn → Turn
unless None answer = answer
unless (Some row) answer = Refused row.0 row.1

-- what a router answers to a packet
unfoldable pub handled : Network → AsId → List ℕ → ℕ → ℕ → Told → Contents → Turn
handled t a candidates iface now told p =
    unless
    (first_row (rows t a candidates iface now told p))
    (onward p (last_handled p p.current) (handled_hops p p.current) (generations_from t a candidates p p.current))

-- What the router of an AS answers to bytes that come in by an interface at a moment, where it tries these generations of the AS's
-- forwarding key and its window tells this of the packet. Interface 0 is the inside of the AS.
unfoldable pub turn_of : Network → AsId → List ℕ → ℕ → ℕ → Told → List ℕ → Turn
turn_of t a candidates iface now told bytes =
    unless
    (option_map (λ e. (Layout e, 0)) (fault is_first_byte bytes))
    (handled t a candidates iface now told (parse bytes))
