-- What a verdict is told as: the words of its line, read.
use Rattle.std.specs.Prelude.{ℕ, ◌==◌, List, Some, None, if◌then◌else◌}
use Rattle.epic_num.specs.declared.hop.Level.{Level}
use Rattle.epic_num.specs.declared.hop.Level.TheVariants.{L0}
use Rattle.epic_num.specs.declared.verdict.ForgedKind.{ForgedKind}
use Rattle.epic_num.specs.declared.verdict.ForgedKind.TheVariants as kind
use Rattle.epic_num.specs.declared.verdict.Forgery.{Forgery}
use Rattle.epic_num.specs.declared.verdict.Verdict.{Verdict}
use Rattle.epic_num.specs.declared.verdict.Verdict.TheVariants.{Proved, Unclaimed, Opened, Forged, Collided}
use Rattle.epic_num.specs.Levels.{is_tagged, level_of}
use Rattle.epic_num.specs.Messages.{authenticator_message, field1_message}
use Rattle.epic_layout.specs.Contents.{Contents, field}
use Rattle.epic_layout.specs.Route.{body}
use Rattle.epic_layout.specs.Spelling.{dest_message}
use Rattle.epic_layout.specs.Updates.{own_updates}
use Rattle.epic_topo.specs.Network.{Network}
use Rattle.epic_keys.specs.Keys.{owner}
use Rattle.epic_fields.specs.PacketTags.{field_name, hop_message}
use Rattle.epic_audit.specs.ForgedText.{forged_hop}
use Rattle.epic_text.specs.VerdictText.{common_tag}
use Rattle.epic_record.specs.declared.told.Told.{Told}
use Rattle.epic_record.specs.declared.told.Told.TheVariants as told
use Rattle.epic_record.specs.declared.told.ToldForgery.{ToldForgery}
use Rattle.epic_record.specs.declared.told.ToldForgery.TheVariants as what

-- a destination names the send alone, a hop of level 0 or 1 its issue alone, and other hops both
abbrev pub proved_told : ℕ → ℕ → Told
proved_told issue send =
    if issue == 0 then told.Proved send None
    else if send == 0 then told.Proved issue None
    else told.Proved issue (Some send)

-- ---- forgeries

-- at level 0 the field is a part of the authenticator, and at level 1 the authenticator is the key of the field
abbrev pub static_what : Level → Contents → Forgery → ToldForgery
static_what L0 p r = what.Issue
static_what level p r = what.Over None (field1_message p.ts p.src r.hop)

-- at levels 2 and 3 the key of the field is the one that the AS shares with the source
abbrev pub issue_what : Network → Contents → Forgery → ToldForgery
issue_what t p r =
    if is_tagged p.first then
    what.Over (Some (field_name t (owner r.key) p)) (hop_message t (forged_hop p r) p r.hop)
    else static_what (level_of p.first) p r

abbrev pub told_what : ForgedKind → Network → Contents → Forgery → ToldForgery
told_what kind.Issue t p r = issue_what t p r
told_what kind.Field t p r = what.Field
told_what kind.Update t p r = what.Update r.hop
told_what kind.Dest t p r = what.Dest

-- what the tag is made over; of a hop that was never issued what its authenticator is made over
abbrev pub told_message : ForgedKind → Network → Contents → Forgery → List ℕ
told_message kind.Issue t p r = authenticator_message (body p.route r.hop)
told_message kind.Field t p r = hop_message t (forged_hop p r) p r.hop
told_message kind.Update t p r = hop_message t (forged_hop p r) p r.hop
told_message kind.Dest t p r = dest_message p (own_updates p)

-- the tag that stands in the packet
abbrev pub told_tag : ForgedKind → Contents → Forgery → List ℕ
told_tag kind.Dest p r = p.dest_field
told_tag kind p r = field p r.hop

abbrev pub forged_told : Network → Contents → Forgery → Told
forged_told t p r = told.Forged (told_what r.kind t p r) r.key (told_message r.kind t p r) (told_tag r.kind p r)

-- ---- verdicts

-- what a verdict on an acceptance of the packet, as it came in, is told as
unfoldable pub told_of : Network → Contents → Verdict → Told
told_of t p (Proved issue send) = proved_told issue send
told_of t p Unclaimed = told.Unclaimed
told_of t p (Opened step) = told.Opened step
told_of t p (Forged r) = forged_told t p r
told_of t p (Collided c) = told.Collided c.part c.left c.right (common_tag t c.part c.left)
