-- The line that a run writes of a verdict is read as what the verdict is told as.
use Rattle.std.specs.Prelude.{◌≡◌, ℕ, ◌<◌, ◌^◌, List, [], ◌∷◌, ◌++◌, Option, Some, None, Ok, ⊤}
use Rattle.epic_num.specs.declared.hop.HopName.{HopName}
use Rattle.epic_num.specs.declared.key_name.KeyName.{KeyName}
use Rattle.epic_num.specs.declared.key_name.KeyName.TheVariants as keys
use Rattle.epic_num.specs.Bodies.{IsBody}
use Rattle.epic_num.specs.Names.{IsHostFrom, IsReadable, IsReadableHost}
use Rattle.epic_num.specs.declared.verdict.Verdict.{Verdict}
use Rattle.epic_layout.specs.Contents.{Contents, IsBytes}
use Rattle.epic_topo.specs.Network.{Network}
use Rattle.epic_record.specs.declared.told.Told.{Told}
use Rattle.epic_record.specs.declared.told.Told.TheVariants as told
use Rattle.epic_record.specs.declared.told.ToldForgery.{ToldForgery}
use Rattle.epic_record.specs.declared.told.ToldForgery.TheVariants as what
use Rattle.epic_record.specs.VerdictFile.{told_at_dest, told_at_hop}
use Rattle.epic_record.specs.VerdictLines.{dest_verdict_line, hop_verdict_line}
use Rattle.epic_judging.specs.Telling.{told_of}

-- ---- what a line can tell: each number fits its type, and each AS that owns a key or issues a hop can be named

-- a source may be a host of any AS
abbrev pub IsNamed : KeyName → Type 0
IsNamed (keys.Fwd a g) = IsReadable a.0 × (g < 2 ^ 32)
IsNamed (keys.Field a src epoch) = IsReadable a.0 × IsHostFrom 0 src × (epoch < 2 ^ 64)
IsNamed (keys.Dest dst src epoch) = IsReadableHost dst × IsHostFrom 0 src × (epoch < 2 ^ 64)

pub record IsNamedHop (x : HopName) : Type 0 where
  pub asn : IsReadable x.asn.0
  pub generation : x.generation < 2 ^ 32
  pub body : IsBody x.body
  pub link : IsBytes x.body.link

-- the key of a field over an authenticator: the authenticator itself, or a key that the AS shares with a source
abbrev pub IsFieldKey : Option KeyName → Type 0
IsFieldKey None = ⊤
IsFieldKey (Some (keys.Field a src epoch)) = IsNamed (keys.Field a src epoch)
IsFieldKey (Some key) = ⊥

abbrev pub IsWhat : ToldForgery → Type 0
IsWhat (what.Over key message) = IsFieldKey key × IsBytes message
IsWhat (what.Update hop) = hop < 2 ^ 8
IsWhat other = ⊤

-- a second number may be missing
abbrev pub IsSecond : Option ℕ → Type 0
IsSecond None = ⊤
IsSecond (Some second) = second < 2 ^ 32

unfoldable pub CanBeTold : Told → Type 0
CanBeTold (told.Proved first second) = (first < 2 ^ 32) × IsSecond second
CanBeTold told.Unclaimed = ⊤
CanBeTold (told.Opened step) = step < 2 ^ 32
CanBeTold (told.Forged forged key message tag) = IsWhat forged × IsNamed key × IsBytes message × IsBytes tag
CanBeTold (told.Collided part left right tag) = IsNamedHop left × IsNamedHop right × IsBytes tag

-- ---- the laws

-- the line of a verdict on a hop, by the hop's index in the packet, and without its line feed
abbrev pub HopLinesAreReadBack : Type 0
HopLinesAreReadBack =
    (t : Network) (p : Contents) (hop : ℕ) (verdict : Verdict) (line : List ℕ)
    → hop < 2 ^ 8
    → CanBeTold (told_of t p verdict)
    → line ++ (10 ∷ []) ≡ hop_verdict_line t p hop verdict
    → told_at_hop hop line ≡ Ok (told_of t p verdict)

-- the line of a verdict on a packet at its destination
abbrev pub DestLinesAreReadBack : Type 0
DestLinesAreReadBack =
    (t : Network) (p : Contents) (verdict : Verdict) (line : List ℕ)
    → CanBeTold (told_of t p verdict)
    → line ++ (10 ∷ []) ≡ dest_verdict_line t p verdict
    → told_at_dest line ≡ Ok (told_of t p verdict)
