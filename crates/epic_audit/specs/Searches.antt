-- Private: serves proofs of this crate alone; no public contract cites it.
-- What the calls look for on the way to a verdict, by the ledger's own answers.
use Rattle.std.specs.Prelude.{ℕ, ◌-◌, ◌==◌, ◌&&◌, ◌||◌, not, Bool, true, false, List, [], ◌∷◌, Option, None, Some, find, option_map, option_and_then, unwrap_or, bytes_eq, if◌then◌else◌, ⊤}
use Rattle.std.specs.List.{list_any, range_with_len}
use Rattle.std.specs.Option.{option_map_or, option_or}
use Rattle.epic_num.specs.declared.hop.HopName.{HopName}
use Rattle.epic_num.specs.declared.key_name.Holder.TheVariants.{As, Host}
use Rattle.epic_num.specs.declared.key_name.KeyName.{KeyName}
use Rattle.epic_num.specs.declared.key_name.KeyName.TheVariants.{Fwd}
use Rattle.epic_num.specs.declared.verdict.ForgedKind.TheVariants as kind
use Rattle.epic_num.specs.declared.verdict.Part.TheVariants.{Link, Sigma}
use Rattle.epic_num.specs.declared.verdict.Verdict.{Verdict}
use Rattle.epic_num.specs.declared.verdict.Verdict.TheVariants.{Proved, Unclaimed, Opened, Forged, Collided}
use Rattle.epic_num.specs.Holders.{holders}
use Rattle.epic_num.specs.Levels.{is_tagged}
use Rattle.epic_num.specs.Same.{same_host}
use Rattle.epic_layout.specs.Contents.{Contents, hop_count}
use Rattle.epic_layout.specs.Route.{place, is_first}
use Rattle.epic_topo.specs.Network.{Network}
use Rattle.epic_ledger.specs.declared.event.Event.{Event}
use Rattle.epic_ledger.specs.declared.event.Event.TheVariants as event
use Rattle.epic_ledger.specs.Facts.{Facts, as_pass, pass_name, sent_name}
use Rattle.epic_ledger.specs.History.{Emission}
use Rattle.epic_ledger.specs.Lawful.{FitsPass}
use Rattle.epic_ledger.specs.Queries.{issue_of, send_of, is_pass_of, same_path, chain_pass}
use Rattle.epic_num.specs.Levels.{is_updated}
use Rattle.epic_fields.specs.PacketTags.{field_name, dest_name}
use Rattle.epic_audit.specs.Reveals.{is_revealed, reveal_step, least_step}
use Rattle.epic_num.specs.Chains.{Issue, issue_at, name_of, no_name}
use Rattle.epic_audit.specs.Verdicts.{is_named, is_twin, is_twin_pass, twin_issue, broken_chain, has_update, twin_pass, opened_or_forged}
use Rattle.epic_audit.specs.declared.uncovered.Uncovered.{Uncovered}

-- ---- what p's source first sent with p's timestamp

-- its emission, and what it says
unfoldable pub first_sent : Facts → Contents → Option (ℕ × Contents)
first_sent f p = option_map (λ s. (s.emission, s.packet)) (send_of f.sends p.src p.ts)

-- its name at hop j
unfoldable pub name_sent : Facts → Contents → ℕ → Option HopName
name_sent f p j = option_and_then (λ s. sent_name f.issues s j) (send_of f.sends p.src p.ts)

-- its emission, where it has p's first byte
abbrev pub if_like : Contents → Option (ℕ × Contents) → Option ℕ
if_like p None = None
if_like p (Some s) = if s.1.first == p.first then Some s.0 else None

unfoldable pub sent_like : Facts → Contents → Option ℕ
sent_like f p = if_like p (first_sent f p)

-- the same, where its name is x
abbrev pub if_named : HopName → Option ℕ → Option HopName → Option ℕ
if_named x None name = None
if_named x (Some number) name = if is_named x name then Some number else None

-- its name, where that is of a twin of x
abbrev pub if_twin : Network → HopName → Option ℕ → Option HopName → Option HopName
if_twin t x None name = None
if_twin t x (Some number) None = None
if_twin t x (Some number) (Some y) = if is_twin t x y then Some y else None

-- the two packets have the same first byte, destination, path bytes and payload
unfoldable pub is_alike : Contents → Contents → Bool
is_alike p q = q.first == p.first && same_host q.dst p.dst && same_path q.route p.route && bytes_eq q.payload p.payload

-- its emission and how many hops it has, where it was sent as p is
abbrev pub if_alike : Contents → Option (ℕ × Contents) → Option (ℕ × ℕ)
if_alike p None = None
if_alike p (Some s) = if is_alike p s.1 then Some (s.0, hop_count s.1) else None

-- ---- issues

-- the issue of a number goes on from one of z
unfoldable pub is_linked : List Issue → ℕ → HopName → Bool
is_linked issues number z = option_map_or (λ i. is_named z (name_of issues i.parent)) (issue_at issues number) false

-- ---- hops that aren't covered

-- a hop of this name was accepted at index i of a packet with p's first byte, source and timestamp
unfoldable pub is_passed : Facts → HopName → Contents → ℕ → Bool
is_passed f x p i = list_any (is_pass_of p.first x p.src p.ts i) f.passes

-- hop i has a name, and was neither accepted nor was its AS revealed
unfoldable pub is_open : Facts → Contents → ℕ → Bool
is_open f p i = option_map_or (λ x. not (is_revealed f.reveals (As x.asn) || is_passed f x p i)) (name_sent f p i) false

-- hop i of that packet
abbrev pub open_hop : Facts → Contents → ℕ → Uncovered
open_hop f p i = record { hop = i; name = unwrap_or (name_sent f p i) no_name }

-- at level 3, from a source that wasn't revealed, the first of so many hops that is open
unfoldable pub first_open : Facts → Contents → ℕ → Option Uncovered
first_open f p hops =
    if not (is_updated p.first) || (is_revealed f.reveals (Host p.src) || is_revealed f.reveals (As p.src.asn)) then None
    else option_map (open_hop f p) (find (is_open f p) (range_with_len 0 hops))

-- ---- accepted hops

-- the name of the hop that the event says was accepted, where that is a twin of the hop
unfoldable pub twin_at : Network → Contents → Uncovered → List Emission → Event → Option HopName
twin_at t p u emissions e =
    option_and_then (λ w. if is_twin_pass t p u w then Some (pass_name w) else None) (as_pass emissions e)

-- the first answer
abbrev pub find_map : {X Y : Type 0} → (X → Option Y) → List X → Option Y
find_map h [] = None
find_map h (x ∷ xs) = option_or (h x) (find_map h xs)

-- of an accepted hop the event names what is there
abbrev pub PassFits : List Emission → Event → Type 0
PassFits emissions (event.Pass step a hop generation emission) = FitsPass emissions emission hop
PassFits emissions (event.Issue step number name parent) = ⊤
PassFits emissions (event.Fetch step source owner epoch) = ⊤
PassFits emissions (event.Send step emission segments) = ⊤
PassFits emissions (event.Arrive step host src ts hops checked) = ⊤
PassFits emissions (event.Reveal step holder) = ⊤
PassFits emissions (event.Roll step a generation) = ⊤

-- the name of the hop that was passed before hop j in its segment
unfoldable pub passed_before : Facts → Contents → ℕ → Option HopName
passed_before f p j =
    if is_first (place p.route.segments j) then None else option_map pass_name (chain_pass f.passes p.route (j - 1))

-- ---- verdicts by what was found

-- of a hop that wasn't issued
abbrev pub unissued_lines : HopName → ℕ → Option ℕ → Option HopName → Verdict
unissued_lines x j (Some step) twin = Opened step
unissued_lines x j None (Some twin) = Collided (record { part = Sigma; left = x; right = twin })
unissued_lines x j None None =
    Forged (record { kind = kind.Issue; hop = j; key = Fwd x.asn x.generation; generation = x.generation })

-- of a hop that was issued and is chained, and whose field its source didn't make
abbrev pub unsourced_lines : HopName → ℕ → KeyName → Option ℕ → Option HopName → Verdict
unsourced_lines x j key (Some step) other = Opened step
unsourced_lines x j key None (Some other) = Collided (record { part = Sigma; left = x; right = other })
unsourced_lines x j key None None = Forged (record { kind = kind.Field; hop = j; key = key; generation = x.generation })

-- of any hop
abbrev pub issued_lines : Option ℕ → Verdict → Option (HopName × HopName) → Bool → Option ℕ → Verdict → Verdict
issued_lines None unissued pair tagged send unsourced = unissued
issued_lines (Some issue) unissued (Some pair) tagged send unsourced =
    Collided (record { part = Link; left = pair.0; right = pair.1 })
issued_lines (Some issue) unissued None false send unsourced = Proved issue 0
issued_lines (Some issue) unissued None true (Some send) unsourced = Proved issue send
issued_lines (Some issue) unissued None true None unsourced = unsourced

unfoldable pub hop_found : Network → Facts → HopName → Contents → ℕ → Verdict
hop_found t f x p j =
    let key = field_name t x.asn p
    in issued_lines
    (issue_of f.issues x)
    (unissued_lines x j (reveal_step f.reveals (As x.asn)) (twin_issue t f x p))
    (broken_chain f x p j)
    (is_tagged p.first)
    (if_named x (sent_like f p) (name_sent f p j))
    (unsourced_lines x j key (least_step f.reveals (holders key)) (if_twin t x (sent_like f p) (name_sent f p j)))

-- of a packet that was sent so and has the update of an uncovered hop
abbrev pub updated_lines : Network → Contents → Uncovered → Option HopName → Verdict
updated_lines t p u (Some twin) = Collided (record { part = Sigma; left = twin; right = u.name })
updated_lines t p u None =
    Forged (record { kind = kind.Update; hop = u.hop; key = field_name t u.name.asn p; generation = u.name.generation })

-- of a packet that was sent so
abbrev pub sent_lines : Network → Facts → Contents → ℕ → Option Uncovered → Verdict
sent_lines t f p send None = Proved 0 send
sent_lines t f p send (Some u) =
    if has_update t p u then updated_lines t p u (twin_pass t f p u)
    else opened_or_forged (dest_name t p) (least_step f.reveals (holders (dest_name t p)))

-- of a packet of level 2 or 3
abbrev pub arrived_lines : Network → Facts → Contents → Option (ℕ × ℕ) → Verdict
arrived_lines t f p (Some s) = sent_lines t f p s.0 (first_open f p s.1)
arrived_lines t f p None = opened_or_forged (dest_name t p) (least_step f.reveals (holders (dest_name t p)))

unfoldable pub dest_found : Network → Facts → Contents → Verdict
dest_found t f p = if is_tagged p.first then arrived_lines t f p (if_alike p (first_sent f p)) else Unclaimed
