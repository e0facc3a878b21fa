-- What it means that a verdict line is true, and a test of it over the ledger's lists.
use Rattle.std.specs.Prelude.{◌≡◌, ℕ, ◌&&◌, Bool, option_and_then, unwrap_or}
use Rattle.std.specs.Option.{option_map_or}
use Rattle.epic_num.specs.declared.verdict.ForgedKind.TheVariants as kind
use Rattle.epic_num.specs.declared.key_name.KeyName.{KeyName}
use Rattle.epic_num.specs.declared.verdict.Verdict.{Verdict}
use Rattle.epic_num.specs.declared.verdict.Verdict.TheVariants.{Proved, Unclaimed, Opened, Forged, Collided}
use Rattle.epic_layout.specs.Contents.{Contents}
use Rattle.epic_topo.specs.Network.{Network}
use Rattle.epic_fields.specs.HopChecks.{hop_name}
use Rattle.epic_ledger.specs.Facts.{Facts, sent_name}
use Rattle.epic_audit.specs.Holds.{Holds, Subject, AtHop, AtDest}
use Rattle.epic_record.specs.VerdictLines.{Acceptance}
use Rattle.epic_record.specs.declared.told.Told.{Told}
use Rattle.epic_record.specs.declared.told.Told.TheVariants as told
use Rattle.epic_record.specs.declared.told.ToldForgery.{ToldForgery}
use Rattle.epic_record.specs.declared.told.ToldForgery.TheVariants as what
use Rattle.epic_judging.specs.DestTests.{holds_of_dest}
use Rattle.epic_judging.specs.Given.{only_send}
use Rattle.epic_judging.specs.HopTests.{holds_of_hop}
use Rattle.epic_judging.specs.Same.{same_told}
use Rattle.epic_judging.specs.Telling.{told_of}

-- A line is true of an acceptance, after what the lines before it tell, where some verdict is true of it and is told so: with its
-- own keys, messages and tags.
pub record IsTrueOf (t : Network) (f : Facts) (a : Acceptance) (line : Told) : Type 0 where
  pub verdict : Verdict
  pub holds : Holds t f a.packet a.subject verdict
  pub told_is : told_of t a.packet verdict ≡ line

-- ---- the verdict that a line means

-- the generation of the hop, by the one packet that was sent; no word of a line tells it
unfoldable pub generation_of : Facts → Contents → ℕ → ℕ
generation_of f p hop =
    option_map_or (λ x. x.generation) (option_and_then (λ s. sent_name f.issues s hop) (only_send f.sends p)) 0

abbrev pub forged_at_hop : ℕ → ℕ → ToldForgery → KeyName → Verdict
forged_at_hop generation j what.Field key = Forged (record { kind = kind.Field; hop = j; key = key; generation = generation })
forged_at_hop generation j told key = Forged (record { kind = kind.Issue; hop = j; key = key; generation = generation })

abbrev pub forged_at_dest : Facts → Contents → ToldForgery → KeyName → Verdict
forged_at_dest f p (what.Update hop) key =
    Forged (record { kind = kind.Update; hop = hop; key = key; generation = generation_of f p hop })
forged_at_dest f p told key = Forged (record { kind = kind.Dest; hop = 0; key = key; generation = 0 })

abbrev pub meant_at_hop : ℕ → ℕ → Told → Verdict
meant_at_hop generation j (told.Proved first second) = Proved first (unwrap_or second 0)
meant_at_hop generation j told.Unclaimed = Unclaimed
meant_at_hop generation j (told.Opened step) = Opened step
meant_at_hop generation j (told.Forged what key message tag) = forged_at_hop generation j what key
meant_at_hop generation j (told.Collided part left right tag) =
    Collided (record { part = part; left = left; right = right })

abbrev pub meant_at_dest : Facts → Contents → Told → Verdict
meant_at_dest f p (told.Proved first second) = Proved 0 first
meant_at_dest f p told.Unclaimed = Unclaimed
meant_at_dest f p (told.Opened step) = Opened step
meant_at_dest f p (told.Forged what key message tag) = forged_at_dest f p what key
meant_at_dest f p (told.Collided part left right tag) = Collided (record { part = part; left = left; right = right })

-- the one verdict of the subject that can be told so
unfoldable pub meant : Facts → Contents → Subject → Told → Verdict
meant f p (AtHop a generation j) line = meant_at_hop generation j line
meant f p AtDest line = meant_at_dest f p line

-- ---- tests

-- the verdict is true
abbrev pub holds : Network → Facts → Contents → Subject → Verdict → Bool
holds t f p (AtHop a generation j) v = holds_of_hop t f (hop_name a generation p j) p j v
holds t f p AtDest v = holds_of_dest t f p v

-- the verdict is true and is told so
unfoldable pub is_told_true : Network → Facts → Contents → Subject → Told → Verdict → Bool
is_told_true t f p s line v = same_told (told_of t p v) line && holds t f p s v

-- the line is true
unfoldable pub told_true : Network → Facts → Contents → Subject → Told → Bool
told_true t f p s line = is_told_true t f p s line (meant f p s line)
