-- The verdicts, each a table by what the ledger answers. The first line that fits decides; where a line doesn't look at an
-- answer, a variable stands.
use Rattle.std.specs.Prelude.{ℕ, ◌-◌, ◌&&◌, ◌||◌, ◌==◌, not, Bool, true, false, List, Option, Some, None, find, option_map, option_and_then, unwrap_or, bytes_eq, if◌then◌else◌}
use Rattle.std.specs.List.{list_any, range_with_len}
use Rattle.std.specs.Option.{option_map_or}
use Rattle.epic_num.specs.declared.hop.HopName.{HopName}
use Rattle.epic_num.specs.declared.key_name.Holder.TheVariants.{As, Host}
use Rattle.epic_num.specs.declared.key_name.KeyName.{KeyName}
use Rattle.epic_num.specs.declared.key_name.KeyName.TheVariants.{Fwd}
use Rattle.epic_num.specs.declared.verdict.ForgedKind.TheVariants as kind
use Rattle.epic_num.specs.declared.verdict.Part.TheVariants.{Link, Sigma}
use Rattle.epic_num.specs.declared.verdict.Verdict.{Verdict}
use Rattle.epic_num.specs.declared.verdict.Verdict.TheVariants.{Proved, Unclaimed, Opened, Forged, Collided}
use Rattle.epic_num.specs.Chains.{Issue, issue_at, name_of, no_name}
use Rattle.epic_num.specs.Holders.{holders}
use Rattle.epic_num.specs.Levels.{is_tagged}
use Rattle.epic_num.specs.Same.{same_as, same_name, same_host}
use Rattle.epic_layout.specs.Contents.{Contents, field, hop_count}
use Rattle.epic_layout.specs.Route.{place, is_first}
use Rattle.epic_topo.specs.Network.{Network}
use Rattle.epic_fields.specs.Tags.{sigma}
use Rattle.epic_fields.specs.PacketTags.{field_name, dest_name, update_of}
use Rattle.epic_ledger.specs.Facts.{Facts, Sent, Pass, pass_name, sent_name}
use Rattle.epic_ledger.specs.Queries.{issue_of, is_pass_of, chain_pass}
use Rattle.epic_num.specs.Levels.{is_updated, is_timed}
use Rattle.epic_audit.specs.Clauses.{higher, lower, is_sent_like, sent_as}
use Rattle.epic_audit.specs.declared.uncovered.Uncovered.{Uncovered}
use Rattle.epic_audit.specs.Reveals.{is_revealed, reveal_step, least_step}

-- a name was found, and is x
abbrev pub is_named : HopName → Option HopName → Bool
is_named x o = option_map_or (λ y. same_name y x) o false

-- ---- what is asked about a hop

-- the hop is of the AS of x and has its authenticator
unfoldable pub is_twin : Network → HopName → HopName → Bool
is_twin t x y = same_as y.asn x.asn && bytes_eq (sigma t y) (sigma t x)

-- at levels 1 to 3, the name of the first issue that is
unfoldable pub twin_issue : Network → Facts → HopName → Contents → Option HopName
twin_issue t f x p =
    if is_timed p.first then option_map (λ i. i.name) (find (λ i. is_twin t x i.name) f.issues) else None

-- the issue is of y, and goes on from one of z
unfoldable pub is_child : List Issue → HopName → HopName → Issue → Bool
is_child issues y z i = same_name i.name y && is_named z (name_of issues i.parent)

-- the name of the parent of an issue
unfoldable pub parent_name : List Issue → ℕ → HopName
parent_name issues number =
    unwrap_or (option_and_then (λ i. name_of issues i.parent) (issue_at issues number)) no_name

-- z and the parent of the first issue of y, where y was issued and none of its issues goes on from z
abbrev pub broken : List Issue → HopName → Option ℕ → Bool → Option (HopName × HopName)
broken issues z None linked = None
broken issues z (Some number) true = None
broken issues z (Some number) false = Some (z, parent_name issues number)

-- the same of two neighbours
unfoldable pub broken_between : List Issue → HopName → HopName → Option (HopName × HopName)
broken_between issues y z = broken issues z (issue_of issues y) (list_any (is_child issues y z) issues)

-- the same of a hop and the one that was passed before it in its segment
unfoldable pub broken_chain : Facts → HopName → Contents → ℕ → Option (HopName × HopName)
broken_chain f x p j =
    if is_first (place p.route.segments j) then None
    else option_and_then (λ w. broken_between f.issues (higher (pass_name w) x) (lower (pass_name w) x)) (chain_pass f.passes p.route (j - 1))

-- the first packet that p's source sent with p's first byte and timestamp over this hop
unfoldable pub source_of : Facts → HopName → Contents → ℕ → Option Sent
source_of f x p j = find (λ s. is_sent_like p s && is_named x (sent_name f.issues s j)) f.sends

-- the first that it sent so at all has at j another hop of the AS with the authenticator of x
unfoldable pub twin_sent : Network → Facts → HopName → Contents → ℕ → Option HopName
twin_sent t f x p j =
    option_and_then
    (λ y. if is_twin t x y then Some y else None)
    (option_and_then (λ s. sent_name f.issues s j) (find (is_sent_like p) f.sends))

-- ---- the verdict of a hop

-- The answers in their order: the number of the hop's issue; the step of its AS's reveal; an issue with its authenticator;
-- the pair at which its chain breaks; whether the packet is of level 2 or 3; the emission of its source; the step at which
-- a holder of the field's key was revealed; another hop with its authenticator in the packet that was sent.
abbrev pub hop_lines : HopName → ℕ → KeyName → Option ℕ → Option ℕ → Option HopName → Option (HopName × HopName) → Bool → Option ℕ → Option ℕ → Option HopName → Verdict
hop_lines x j key None (Some step) twin pair tagged send opened other = Opened step
hop_lines x j key None None (Some twin) pair tagged send opened other =
    Collided (record { part = Sigma; left = x; right = twin })
hop_lines x j key None None None pair tagged send opened other =
    Forged (record { kind = kind.Issue; hop = j; key = Fwd x.asn x.generation; generation = x.generation })
hop_lines x j key (Some issue) step twin (Some pair) tagged send opened other =
    Collided (record { part = Link; left = pair.0; right = pair.1 })
hop_lines x j key (Some issue) step twin None false send opened other = Proved issue 0
hop_lines x j key (Some issue) step twin None true (Some send) opened other = Proved issue send
hop_lines x j key (Some issue) step twin None true None (Some opened) other = Opened opened
hop_lines x j key (Some issue) step twin None true None None (Some other) =
    Collided (record { part = Sigma; left = x; right = other })
hop_lines x j key (Some issue) step twin None true None None None =
    Forged (record { kind = kind.Field; hop = j; key = key; generation = x.generation })

-- the verdict of hop j of a packet, whose name is x
abbrev pub hop_verdict : Network → Facts → HopName → Contents → ℕ → Verdict
hop_verdict t f x p j =
    hop_lines x j (field_name t x.asn p)
    (issue_of f.issues x)
    (reveal_step f.reveals (As x.asn))
    (twin_issue t f x p)
    (broken_chain f x p j)
    (is_tagged p.first)
    (option_map (λ s. s.emission) (source_of f x p j))
    (least_step f.reveals (holders (field_name t x.asn p)))
    (twin_sent t f x p j)

-- ---- what is asked about a packet at its destination

-- hop i of a sent packet
abbrev pub sent_hop : Facts → Sent → ℕ → Uncovered
sent_hop f s i = record { hop = i; name = unwrap_or (sent_name f.issues s i) no_name }

-- the AS of hop i was neither revealed nor accepted that hop
unfoldable pub is_uncovered : Facts → Contents → Sent → ℕ → Bool
is_uncovered f p s i =
    option_map_or
    (λ x. not (is_revealed f.reveals (As x.asn) || list_any (is_pass_of p.first x p.src p.ts i) f.passes))
    (sent_name f.issues s i)
    false

-- at level 3, from a source that wasn't revealed, the first hop of the sent packet that isn't covered
unfoldable pub uncovered_in : Facts → Contents → Sent → Option Uncovered
uncovered_in f p s =
    if not (is_updated p.first) || (is_revealed f.reveals (Host p.src) || is_revealed f.reveals (As p.src.asn)) then None
    else option_map (sent_hop f s) (find (is_uncovered f p s) (range_with_len 0 (hop_count s.packet)))

unfoldable pub uncovered : Facts → Contents → Option Uncovered
uncovered f p = option_and_then (uncovered_in f p) (sent_as f.sends p)

-- the packet has the hop's update
unfoldable pub has_update : Network → Contents → Uncovered → Bool
has_update t p u = bytes_eq (field p u.hop) (update_of t u.name p u.hop)

-- another hop of the AS with the authenticator was accepted at the index of a packet with p's first byte, source and timestamp
unfoldable pub is_twin_pass : Network → Contents → Uncovered → Pass → Bool
is_twin_pass t p u w =
    w.hop == u.hop && w.packet.ts == p.ts && w.packet.first == p.first && same_host w.packet.src p.src && is_twin t u.name (pass_name w)

-- the name of the first that was
unfoldable pub twin_pass : Network → Facts → Contents → Uncovered → Option HopName
twin_pass t f p u = option_map pass_name (find (is_twin_pass t p u) f.passes)

-- ---- the verdict of a destination

-- where no holder of the destination field's key was revealed, it is forged
abbrev pub opened_or_forged : KeyName → Option ℕ → Verdict
opened_or_forged key (Some step) = Opened step
opened_or_forged key None = Forged (record { kind = kind.Dest; hop = 0; key = key; generation = 0 })

-- The answers in their order: whether the packet is of level 2 or 3; the emission as which it was sent; the first hop that
-- isn't covered; whether the packet has that hop's update; another hop with its authenticator that was accepted there; the
-- step at which a holder of the destination field's key was revealed.
abbrev pub dest_lines : Network → Contents → Bool → Option ℕ → Option Uncovered → Bool → Option HopName → Option ℕ → Verdict
dest_lines t p false send hop updated twin opened = Unclaimed
dest_lines t p true (Some send) None updated twin opened = Proved 0 send
dest_lines t p true (Some send) (Some u) true (Some twin) opened =
    Collided (record { part = Sigma; left = twin; right = u.name })
dest_lines t p true (Some send) (Some u) true None opened =
    Forged (record { kind = kind.Update; hop = u.hop; key = field_name t u.name.asn p; generation = u.name.generation })
dest_lines t p true (Some send) (Some u) false twin opened = opened_or_forged (dest_name t p) opened
dest_lines t p true None hop updated twin opened = opened_or_forged (dest_name t p) opened

-- the verdict of a packet at its destination
abbrev pub dest_verdict : Network → Facts → Contents → Verdict
dest_verdict t f p =
    dest_lines t p
    (is_tagged p.first)
    (option_map (λ s. s.emission) (sent_as f.sends p))
    (uncovered f p)
    (option_map_or (has_update t p) (uncovered f p) false)
    (option_and_then (twin_pass t f p) (uncovered f p))
    (least_step f.reveals (holders (dest_name t p)))

-- ---- whether a verdict is Proved

abbrev pub IsProved : Verdict → Type 0
IsProved (Proved issue send) = Unit {0}
IsProved Unclaimed = ⊥
IsProved (Opened step) = ⊥
IsProved (Forged r) = ⊥
IsProved (Collided c) = ⊥
