-- Tests of whether a verdict is true of hop j of a packet, whose name is x: one for each of the audit's definitions.
use Rattle.std.specs.Prelude.{ℕ, ◌==◌, ◌&&◌, ◌||◌, not, Bool, false, [], ◌∷◌, Option, option_map, is_none, bytes_eq, if◌then◌else◌}
use Rattle.std.specs.Option.{option_map_or}
use Rattle.epic_num.specs.declared.hop.HopName.{HopName}
use Rattle.epic_num.specs.declared.key_name.Holder.TheVariants.{As}
use Rattle.epic_num.specs.declared.key_name.KeyName.TheVariants.{Fwd}
use Rattle.epic_num.specs.declared.verdict.Collision.{Collision}
use Rattle.epic_num.specs.declared.verdict.Forgery.{Forgery}
use Rattle.epic_num.specs.declared.verdict.ForgedKind.{ForgedKind}
use Rattle.epic_num.specs.declared.verdict.ForgedKind.TheVariants as kind
use Rattle.epic_num.specs.declared.verdict.Part.{Part}
use Rattle.epic_num.specs.declared.verdict.Part.TheVariants.{Link, Sigma}
use Rattle.epic_num.specs.declared.verdict.Verdict.{Verdict}
use Rattle.epic_num.specs.declared.verdict.Verdict.TheVariants.{Proved, Unclaimed, Opened, Forged, Collided}
use Rattle.epic_num.specs.Holders.{holders}
use Rattle.epic_num.specs.Levels.{is_tagged, is_timed}
use Rattle.epic_num.specs.Moments.{epoch_of}
use Rattle.epic_num.specs.Same.{same_key, same_name}
use Rattle.epic_layout.specs.Contents.{Contents, field}
use Rattle.epic_topo.specs.Network.{Network}
use Rattle.epic_fields.specs.Formulas.{field_part}
use Rattle.epic_fields.specs.PacketTags.{field_name, field_of, hop_message, hop_tag}
use Rattle.epic_ledger.specs.Facts.{Facts}
use Rattle.epic_ledger.specs.Queries.{issue_of}
use Rattle.epic_audit.specs.Reveals.{is_revealed}
use Rattle.epic_audit.specs.Verdicts.{is_named, twin_issue, broken_chain, source_of, twin_sent}
use Rattle.epic_judging.specs.Given.{is_issued, is_chained, is_sourced, hop_ok, any_revealed_at, none_revealed, made_field, one_link, one_sigma}

-- the answer is there and is this number
abbrev pub is_number : ℕ → Option ℕ → Bool
is_number n o = option_map_or (λ m. m == n) o false

unfoldable pub hop_proved : Facts → HopName → Contents → ℕ → ℕ → ℕ → Bool
hop_proved f x p j issue send =
    hop_ok f x p j
    && is_number issue (issue_of f.issues x)
    && (if is_tagged p.first then is_number send (option_map (λ s. s.emission) (source_of f x p j)) else send == 0)

-- ---- reveals

unfoldable pub issue_opened : Facts → HopName → ℕ → Bool
issue_opened f x step = not (is_issued f.issues x) && any_revealed_at f.reveals (As x.asn ∷ []) step

unfoldable pub field_opened : Network → Facts → HopName → Contents → ℕ → ℕ → Bool
field_opened t f x p j step =
    is_issued f.issues x
    && is_chained f x p j
    && is_tagged p.first
    && not (is_sourced f x p j)
    && any_revealed_at f.reveals (holders (field_name t x.asn p)) step

-- ---- forgeries

-- the hop was never issued, and its field is right
unfoldable pub is_forged_issue : Network → Facts → HopName → Contents → ℕ → Bool
is_forged_issue t f x p j =
    not (is_issued f.issues x)
    && not (is_revealed f.reveals (As x.asn))
    && bytes_eq (field p j) (field_of t x p j)
    && is_none (twin_issue t f x p)

-- the field's message was never sent, and the field is right
unfoldable pub is_forged_field : Network → Facts → HopName → Contents → ℕ → Bool
is_forged_field t f x p j =
    is_tagged p.first
    && bytes_eq (field p j) (field_part p.first (hop_tag t x p j))
    && not (made_field t f x.asn p.src (epoch_of t.profile p.ts) (hop_message t x p j))
    && none_revealed f.reveals (holders (field_name t x.asn p))

unfoldable pub issue_forged : Network → Facts → HopName → Contents → ℕ → Forgery → Bool
issue_forged t f x p j r =
    is_forged_issue t f x p j
    && r.hop == j
    && same_key r.key (Fwd x.asn x.generation)
    && r.generation == x.generation

unfoldable pub field_forged : Network → Facts → HopName → Contents → ℕ → Forgery → Bool
field_forged t f x p j r =
    not (hop_ok f x p j)
    && is_forged_field t f x p j
    && r.hop == j
    && same_key r.key (field_name t x.asn p)
    && r.generation == x.generation

abbrev pub hop_forged : Network → Facts → HopName → Contents → ℕ → Forgery → ForgedKind → Bool
hop_forged t f x p j r kind.Issue = issue_forged t f x p j r
hop_forged t f x p j r kind.Field = field_forged t f x p j r
hop_forged t f x p j r kind.Update = false
hop_forged t f x p j r kind.Dest = false

-- ---- collisions

unfoldable pub collided_with_issue : Network → Facts → HopName → Contents → Collision → Bool
collided_with_issue t f x p c =
    not (is_issued f.issues x)
    && is_timed p.first
    && same_name c.left x
    && is_named c.right (twin_issue t f x p)
    && one_sigma t c.left c.right

unfoldable pub collided_in_chain : Network → Facts → HopName → Contents → ℕ → Collision → Bool
collided_in_chain t f x p j c =
    option_map_or (λ pair. same_name c.left pair.0 && same_name c.right pair.1) (broken_chain f x p j) false
    && one_link t c.left c.right

unfoldable pub collided_with_send : Network → Facts → HopName → Contents → ℕ → Collision → Bool
collided_with_send t f x p j c =
    is_tagged p.first
    && not (is_sourced f x p j)
    && same_name c.left x
    && is_named c.right (twin_sent t f x p j)
    && one_sigma t c.left c.right

abbrev pub hop_collided : Network → Facts → HopName → Contents → ℕ → Collision → Part → Bool
hop_collided t f x p j c Sigma = collided_with_issue t f x p c || collided_with_send t f x p j c
hop_collided t f x p j c Link = collided_in_chain t f x p j c

-- ---- all

-- the verdict is true of hop j, whose name is x
abbrev pub holds_of_hop : Network → Facts → HopName → Contents → ℕ → Verdict → Bool
holds_of_hop t f x p j (Proved issue send) = hop_proved f x p j issue send
holds_of_hop t f x p j Unclaimed = false
holds_of_hop t f x p j (Opened step) = issue_opened f x step || field_opened t f x p j step
holds_of_hop t f x p j (Forged r) = hop_forged t f x p j r r.kind
holds_of_hop t f x p j (Collided c) = hop_collided t f x p j c c.part
