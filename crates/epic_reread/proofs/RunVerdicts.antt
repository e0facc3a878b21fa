-- What is told of a run's verdict is in range, and can be named.
use Rattle.std.proofs.Common.{ℕ, ◌/◌, ◌<◌, ◌≤◌, ◌^◌, ◌==◌, Bool, true, false, cond, arith, IsTrue, Some, None}
use Rattle.std.proofs.Math.Nat.{mul-le-mul_left}
use Rattle.std.proofs.lemmas.Bool.{cond_both}
use Rattle.std.proofs.lemmas.Nat.{div-add-mod'}
use Rattle.epic_num.specs.declared.hop.HopName.{HopName}
use Rattle.epic_num.specs.declared.hop.Level.{Level}
use Rattle.epic_num.specs.declared.hop.Level.TheVariants.{L0, L1, L2, L3}
use Rattle.epic_num.specs.declared.key_name.KeyName.{KeyName}
use Rattle.epic_num.specs.declared.key_name.KeyName.TheVariants as keys
use Rattle.epic_num.specs.declared.name.AsId.{AsId}
use Rattle.epic_num.specs.declared.name.HostId.{HostId}
use Rattle.epic_num.specs.declared.verdict.ForgedKind.{ForgedKind}
use Rattle.epic_num.specs.declared.verdict.ForgedKind.TheVariants.{Issue, Field, Update, Dest}
use Rattle.epic_num.specs.declared.verdict.Forgery.{Forgery}
use Rattle.epic_num.specs.declared.verdict.Part.{Part}
use Rattle.epic_num.specs.declared.verdict.Part.TheVariants.{Link, Sigma}
use Rattle.epic_num.specs.declared.verdict.Verdict.TheVariants.{Proved, Unclaimed, Opened, Forged, Collided}
use Rattle.epic_num.specs.Levels.{is_tagged, level_of}
use Rattle.epic_num.specs.Messages.{IsHost}
use Rattle.epic_num.specs.Moments.{epoch_of}
use Rattle.epic_num.specs.Names.{IsHostFrom}
use Rattle.epic_layout.specs.Contents.{Contents, HoldsBytes, IsBytes, IsPacket}
use Rattle.epic_topo.specs.Lawful.{IsTopology}
use Rattle.epic_topo.specs.Network.{Network, has}
use Rattle.epic_topo.proofs.Linked.{names_readable}
use Rattle.epic_keys.specs.Keys.{owner}
use Rattle.epic_fields.specs.HopChecks.{hop_name}
use Rattle.epic_fields.specs.PacketTags.{field_name, hop_message, message_over}
use Rattle.epic_fields.specs.Tags.{sigma}
use Rattle.epic_audit.specs.ForgedText.{forged_hop}
use Rattle.epic_text.specs.VerdictText.{IsForgeryOf, common_tag}
use Rattle.epic_record.specs.declared.told.Told.TheVariants as told
use Rattle.epic_record.specs.declared.told.ToldForgery.TheVariants as what
use Rattle.epic_judging.specs.Telling.{static_what, told_message, told_of, told_tag, told_what}
use Rattle.epic_reread.specs.Fitting.{Fits, HopFits, KeyFits, VerdictsCanBeTold}
use Rattle.epic_reread.specs.Rereading.{CanBeTold, IsFieldKey, IsNamed, IsNamedHop, IsWhat}
use Rattle.epic_reread.proofs.PacketBytes.{authenticator_message_is, dest_message_is, field1_message_is, field23_message_is, field_is, hop_fits, is_bytes}
use Rattle.epic_reread.proofs.TagsAreBytes.{link_is, sigma_is}

-- ---- names

source : (h : HostId) → IsHost h → IsHostFrom 0 h
source h is = ((is.asn, omega arith, omega arith), is.host)

named : (t : Network) (k : KeyName) → IsTopology t → IsTrue (has t (owner k)) → KeyFits k → IsNamed k
unfolding owner
named t (keys.Fwd a g) ok there fits = (names_readable t ok a there, fits)
named t (keys.Field a src epoch) ok there fits = (names_readable t ok a there, source src fits.0, fits.1)
named t (keys.Dest dst src epoch) ok there fits = ((names_readable t ok dst.asn there, fits.0.host), source src fits.1, fits.2)

named_hop : (t : Network) (x : HopName) → IsTopology t → IsTrue (has t x.asn) → HopFits x → IsNamedHop x
named_hop t x ok there fits = record { asn = names_readable t ok x.asn there; generation = fits.generation; body = fits.body; link = fits.link }

quotient_le : (n base : ℕ) → 1 ≤ base → n / base ≤ n
quotient_le n base b = omega (arith, mul-le-mul_left (n / base) b, div-add-mod' n base)

pub epoch_fits : (t : Network) (p : Contents) → IsTopology t → IsPacket p → epoch_of t.profile p.ts < 2 ^ 64
unfolding epoch_of
epoch_fits t p ok is = omega (arith, is.ts, quotient_le p.ts t.profile.epoch_us (omega (arith, ok.settings.some_epoch)))

field_key_named : (t : Network) (a : AsId) (p : Contents) → IsTopology t → IsPacket p → IsTrue (has t a) → IsFieldKey (Some (field_name t a p))
unfolding field_name
field_key_named t a p ok is there = (names_readable t ok a there, source p.src is.src, epoch_fits t p ok is)

-- ---- forgeries

module _ (t : Network) (p : Contents) (r : Forgery) (ok : IsTopology t) (is : IsPacket p) (bytes : HoldsBytes p) (of : IsForgeryOf t p r) where
  few : r.hop < 256
  few = omega (arith, of.hop, is.route.few_hops)

  message_is : IsBytes (hop_message t (forged_hop p r) p r.hop)
  unfolding hop_message message_over forged_hop hop_name
  message_is =
      let fits = hop_fits p r.hop is bytes of.hop in
      field23_message_is p.first p.ts p.src r.hop (sigma t (forged_hop p r)) few (sigma_is t (forged_hop p r) ok fits.0 fits.1)

  static_is : (level : Level) → IsWhat (static_what level p r)
  static_is L0 = tt
  static_is L1 = (tt, field1_message_is p.ts p.src r.hop few)
  static_is L2 = (tt, field1_message_is p.ts p.src r.hop few)
  static_is L3 = (tt, field1_message_is p.ts p.src r.hop few)

  what_is : (kind : ForgedKind) → IsWhat (told_what kind t p r)
  what_is Issue =
      cond_both (is_tagged p.first) (what.Over (Some (field_name t (owner r.key) p)) (hop_message t (forged_hop p r) p r.hop)) (static_what (level_of p.first) p r) IsWhat
      (λ e. (field_key_named t (owner r.key) p ok is of.owner_there, message_is)) (λ e. static_is (level_of p.first))
  what_is Field = tt
  what_is Update = few
  what_is Dest = tt

  made_over : (kind : ForgedKind) → IsBytes (told_message kind t p r)
  made_over Issue = authenticator_message_is p r.hop is bytes of.hop
  made_over Field = message_is
  made_over Update = message_is
  made_over Dest = dest_message_is p is bytes

  tag_is : (kind : ForgedKind) → IsBytes (told_tag kind p r)
  tag_is Issue = field_is p r.hop is bytes of.hop
  tag_is Field = field_is p r.hop is bytes of.hop
  tag_is Update = field_is p r.hop is bytes of.hop
  tag_is Dest = bytes.dest_bytes

-- ---- verdicts

common_is : (t : Network) (part : Part) (x : HopName) → IsTopology t → HopFits x → IsBytes (common_tag t part x)
unfolding common_tag
common_is t Link x ok fits = is_bytes (common_tag t Link x) (link_is t x ok fits.body fits.link)
common_is t Sigma x ok fits = is_bytes (common_tag t Sigma x) (sigma_is t x ok fits.body fits.link)

proved_is : (b c : Bool) (issue send : ℕ) → issue < 2 ^ 32 → send < 2 ^ 32
    → CanBeTold (cond b (told.Proved send None) (cond c (told.Proved issue None) (told.Proved issue (Some send))))
unfolding CanBeTold
proved_is true c issue send h k = (k, tt)
proved_is false true issue send h k = (h, tt)
proved_is false false issue send h k = (h, k)

pub verdicts_can_be_told : VerdictsCanBeTold
unfolding told_of CanBeTold Fits
verdicts_can_be_told t p (Proved issue send) run = proved_is (issue == 0) (send == 0) issue send run.fits.0 run.fits.1
verdicts_can_be_told t p Unclaimed run = tt
verdicts_can_be_told t p (Opened step) run = run.fits
verdicts_can_be_told t p (Forged r) run = (
  what_is t p r run.topology run.packet run.bytes run.tellable r.kind,
  named t r.key run.topology run.tellable.owner_there run.fits,
  made_over t p r run.topology run.packet run.bytes run.tellable r.kind,
  tag_is t p r run.topology run.packet run.bytes run.tellable r.kind,
)
verdicts_can_be_told t p (Collided c) run = (
  named_hop t c.left run.topology run.tellable run.fits.0,
  named_hop t c.right run.topology run.other_there run.fits.1,
  common_is t c.part c.left run.topology run.fits.0,
)
