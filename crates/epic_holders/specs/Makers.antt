-- Who can have made the field of a hop of level 1: a table by what the ledger answers. The first line that fits decides; where
-- a line doesn't look at an answer, a variable stands. Here `x` is the name of hop j of the packet `p` as it came in. At level
-- 1 there is one first byte, so that the packets that were sent like p are those of level 1 with its source and timestamp.
use Rattle.std.specs.Prelude.{ℕ, List, [], ◌∷◌, Option, Some, None, find, option_map, option_and_then, bytes_eq, if◌then◌else◌}
use Rattle.epic_num.specs.declared.hop.HopName.{HopName}
use Rattle.epic_layout.specs.Contents.{Contents}
use Rattle.epic_topo.specs.Network.{Network}
use Rattle.epic_fields.specs.Tags.{sigma}
use Rattle.epic_ledger.specs.Facts.{Facts, Reveal, sent_name}
use Rattle.epic_ledger.specs.Queries.{issue_of}
use Rattle.epic_audit.specs.Clauses.{is_sent_like}
use Rattle.epic_audit.specs.Reveals.{lesser}
use Rattle.epic_audit.specs.Verdicts.{source_of}
use Rattle.epic_holders.specs.declared.maker.Maker.{Maker}
use Rattle.epic_holders.specs.declared.maker.Maker.TheVariants.{AsHop, Made, Opened, Collided, Forged}
use Rattle.epic_holders.specs.Holders.{is_holder}

-- the step of a reveal, where it is of a holder of x
unfoldable pub opened_by : Facts → HopName → Reveal → Option ℕ
opened_by f x r = if is_holder f x r.holder then Some r.step else None

-- the least of these steps
abbrev pub least_opened : Facts → HopName → List Reveal → Option ℕ
least_opened f x [] = None
least_opened f x (r ∷ rs) = lesser (opened_by f x r) (least_opened f x rs)

-- the hop that the packet sent like p has at j, where it has the authenticator of x; it may be of any AS
unfoldable pub other_sent : Network → Facts → HopName → Contents → ℕ → Option HopName
other_sent t f x p j =
    option_and_then
    (λ y. if bytes_eq (sigma t y) (sigma t x) then Some y else None)
    (option_and_then (λ s. sent_name f.issues s j) (find (is_sent_like p) f.sends))

-- The answers in their order: the number of the hop's issue; the emission of the packet that was sent like p over this hop;
-- the least step at which a holder of x was revealed; another hop with its authenticator in the packet that was sent.
abbrev pub maker_lines : HopName → Option ℕ → Option ℕ → Option ℕ → Option HopName → Maker
maker_lines x None send step other = AsHop
maker_lines x (Some issue) (Some emission) step other = Made emission
maker_lines x (Some issue) None (Some step) other = Opened step
maker_lines x (Some issue) None None (Some other) = Collided x other
maker_lines x (Some issue) None None None = Forged

unfoldable pub maker_verdict : Network → Facts → HopName → Contents → ℕ → Maker
maker_verdict t f x p j =
    maker_lines x
    (issue_of f.issues x)
    (option_map (λ s. s.emission) (source_of f x p j))
    (least_opened f x f.reveals)
    (other_sent t f x p j)

-- the verdict is Made
abbrev pub IsMade : Maker → Type 0
IsMade (Made emission) = Unit {0}
IsMade AsHop = ⊥
IsMade (Opened step) = ⊥
IsMade (Collided left right) = ⊥
IsMade Forged = ⊥
