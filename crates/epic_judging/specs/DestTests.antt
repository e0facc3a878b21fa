-- Tests of whether a verdict is true of a packet at its destination: one for each of the audit's definitions.
use Rattle.std.specs.Prelude.{ℕ, ◌==◌, ◌&&◌, not, Bool, false, option_map, bytes_eq}
use Rattle.std.specs.Option.{option_map_or}
use Rattle.epic_num.specs.declared.hop.HopName.{HopName}
use Rattle.epic_num.specs.declared.verdict.Collision.{Collision}
use Rattle.epic_num.specs.declared.verdict.Forgery.{Forgery}
use Rattle.epic_num.specs.declared.verdict.ForgedKind.{ForgedKind}
use Rattle.epic_num.specs.declared.verdict.ForgedKind.TheVariants as kind
use Rattle.epic_num.specs.declared.verdict.Part.{Part}
use Rattle.epic_num.specs.declared.verdict.Part.TheVariants.{Link, Sigma}
use Rattle.epic_num.specs.declared.verdict.Verdict.{Verdict}
use Rattle.epic_num.specs.declared.verdict.Verdict.TheVariants.{Proved, Unclaimed, Opened, Forged, Collided}
use Rattle.epic_num.specs.Holders.{holders}
use Rattle.epic_num.specs.Levels.{is_tagged, is_updated}
use Rattle.epic_num.specs.Moments.{epoch_of}
use Rattle.epic_num.specs.Same.{same_key, same_name}
use Rattle.epic_layout.specs.Contents.{Contents, field}
use Rattle.epic_layout.specs.Spelling.{dest_message}
use Rattle.epic_layout.specs.Updates.{own_updates}
use Rattle.epic_topo.specs.Network.{Network}
use Rattle.epic_keys.specs.Keys.{owner}
use Rattle.epic_fields.specs.HopChecks.{hop_name}
use Rattle.epic_fields.specs.PacketTags.{field_name, dest_name, hop_message, update_of, dest_field_of}
use Rattle.epic_ledger.specs.Facts.{Facts, Sent, sent_name}
use Rattle.epic_ledger.specs.Queries.{same_path}
use Rattle.epic_audit.specs.Clauses.{sent_as}
use Rattle.epic_audit.specs.Verdicts.{is_named, uncovered, has_update, twin_pass}
use Rattle.epic_judging.specs.Given.{dest_ok, any_revealed_at, none_revealed, made_dest, given_out, only_send, one_sigma}
use Rattle.epic_judging.specs.HopTests.{is_number}

unfoldable pub dest_proved : Facts → Contents → ℕ → ℕ → Bool
dest_proved f p issue send =
    is_tagged p.first
    && dest_ok f p
    && issue == 0
    && is_number send (option_map (λ s. s.emission) (sent_as f.sends p))

unfoldable pub dest_opened : Network → Facts → Contents → ℕ → Bool
dest_opened t f p step =
    is_tagged p.first && not (dest_ok f p) && any_revealed_at f.reveals (holders (dest_name t p)) step

-- ---- forgeries

-- the packet was sent with p's first byte and path bytes, over hop j of this name
unfoldable pub is_sent_over : Facts → HopName → Contents → ℕ → Sent → Bool
is_sent_over f x p j s =
    s.packet.first == p.first && same_path s.packet.route p.route && is_named x (sent_name f.issues s j)

-- no router of its AS gave out the hop's update, and the update is right
unfoldable pub is_forged_update : Network → Facts → HopName → Contents → ℕ → Bool
is_forged_update t f x p j =
    is_updated p.first
    && option_map_or (is_sent_over f x p j) (only_send f.sends p) false
    && bytes_eq (field p j) (update_of t x p j)
    && not (given_out t f.passes x.asn p.src (epoch_of t.profile p.ts) (hop_message t x p j))
    && none_revealed f.reveals (holders (field_name t x.asn p))

-- the key is the one that its owner shares with the packet's source, and the hop is one of the owner's
unfoldable pub update_forged : Network → Facts → Contents → Forgery → Bool
update_forged t f p r =
    not (dest_ok f p)
    && is_forged_update t f (hop_name (owner r.key) r.generation p r.hop) p r.hop
    && same_key r.key (field_name t (owner r.key) p)

-- the destination field's message was never sent, and the field is right
unfoldable pub is_forged_dest : Network → Facts → Contents → Bool
is_forged_dest t f p =
    is_tagged p.first
    && bytes_eq p.dest_field (dest_field_of t p (own_updates p))
    && not (made_dest t f p.dst p.src (epoch_of t.profile p.ts) (dest_message p (own_updates p)))
    && none_revealed f.reveals (holders (dest_name t p))

unfoldable pub dest_forged : Network → Facts → Contents → Forgery → Bool
dest_forged t f p r =
    not (dest_ok f p)
    && is_forged_dest t f p
    && r.hop == 0
    && same_key r.key (dest_name t p)
    && r.generation == 0

abbrev pub arrival_forged : Network → Facts → Contents → Forgery → ForgedKind → Bool
arrival_forged t f p r kind.Update = update_forged t f p r
arrival_forged t f p r kind.Dest = dest_forged t f p r
arrival_forged t f p r kind.Issue = false
arrival_forged t f p r kind.Field = false

-- ---- collisions

unfoldable pub collided_with_pass : Network → Facts → Contents → Collision → Bool
collided_with_pass t f p c =
    is_tagged p.first
    && option_map_or
    (λ u. has_update t p u && is_named c.left (twin_pass t f p u) && same_name c.right u.name)
    (uncovered f p)
    false
    && one_sigma t c.left c.right

abbrev pub arrival_collided : Network → Facts → Contents → Collision → Part → Bool
arrival_collided t f p c Sigma = collided_with_pass t f p c
arrival_collided t f p c Link = false

-- ---- all

-- the verdict is true of the packet at its destination
abbrev pub holds_of_dest : Network → Facts → Contents → Verdict → Bool
holds_of_dest t f p (Proved issue send) = dest_proved f p issue send
holds_of_dest t f p Unclaimed = not (is_tagged p.first)
holds_of_dest t f p (Opened step) = dest_opened t f p step
holds_of_dest t f p (Forged r) = arrival_forged t f p r r.kind
holds_of_dest t f p (Collided c) = arrival_collided t f p c c.part
