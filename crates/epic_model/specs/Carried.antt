-- A packet that is carried to its destination and accepted there.
use Rattle.std.specs.Prelude.{◌≡◌, ℕ, ◌<◌, true, false, if◌then◌else◌, List, [], ◌∷◌, slice_get, Some}
use Rattle.epic_num.specs.declared.arrival.Arrival.{Arrival}
use Rattle.epic_num.specs.declared.arrival.Arrival.TheVariants.{Accepted, Unchecked}
use Rattle.epic_num.specs.declared.hop.HopName.{HopName}
use Rattle.epic_num.specs.declared.passed.PassResult.{PassResult}
use Rattle.epic_num.specs.declared.passed.PassResult.TheVariants.{Turned, Arrived, Full}
use Rattle.epic_num.specs.declared.passed.Place.TheVariants.{Router}
use Rattle.epic_num.specs.declared.turn.Turn.TheVariants.{Forward, Deliver, Refused}
use Rattle.epic_num.specs.declared.verdict.Part.TheVariants.{Link}
use Rattle.epic_num.specs.declared.verdict.Verdict.{Verdict}
use Rattle.epic_num.specs.declared.verdict.Verdict.TheVariants.{Proved, Unclaimed, Opened, Forged, Collided}
use Rattle.epic_num.specs.Levels.{is_tagged}
use Rattle.epic_num.specs.Moments.{is_path_future}
use Rattle.epic_layout.specs.Contents.{Contents, IsPacket, hop_count}
use Rattle.epic_layout.specs.Route.{body}
use Rattle.epic_layout.specs.Spelling.{spelling}
use Rattle.epic_topo.specs.Network.{Network}
use Rattle.epic_ends.specs.Ways.{IsRoad, IsMade}
use Rattle.epic_ledger.specs.History.{History, Emission, emission_at}
use Rattle.epic_ledger.specs.Facts.{Pass, passes_in, pass_name}
use Rattle.epic_ledger.specs.Lawful.{IsLawful}
use Rattle.epic_ledger.specs.Queries.{same_path}
use Rattle.epic_model.specs.Honest.{Honest}
use Rattle.epic_model.specs.Passing.{Happened, carried}
use Rattle.epic_model.specs.Sends.{IsOnRecord}

abbrev pub Each : (Verdict → Type 0) → List Verdict → Type 0
Each P [] = Unit {0}
Each P (v ∷ vs) = P v × Each P vs

-- a hop's verdict is Proved, or two hops have one link tag
abbrev pub IsWelcome : Verdict → Type 0
IsWelcome (Proved issue send) = Unit {0}
IsWelcome (Collided c) = c.part ≡ Link
IsWelcome Unclaimed = ⊥
IsWelcome (Opened step) = ⊥
IsWelcome (Forged r) = ⊥

-- it is Proved
abbrev pub IsProvedHop : Verdict → Type 0
IsProvedHop (Proved issue send) = Unit {0}
IsProvedHop (Collided c) = ⊥
IsProvedHop Unclaimed = ⊥
IsProvedHop (Opened step) = ⊥
IsProvedHop (Forged r) = ⊥

-- the destination's is Proved, or Unclaimed at levels 0 and 1
abbrev pub IsEndVerdict : Contents → Verdict → Type 0
IsEndVerdict p (Proved issue send) = is_tagged p.first ≡ true
IsEndVerdict p Unclaimed = is_tagged p.first ≡ false
IsEndVerdict p (Collided c) = ⊥
IsEndVerdict p (Opened step) = ⊥
IsEndVerdict p (Forged r) = ⊥

-- the destination's answer: a packet of level 0 or 1 has nothing to check
abbrev pub welcome : Contents → Arrival
welcome p = if is_tagged p.first then Accepted else Unchecked

-- the passes end with the arrival
abbrev pub IsEnd : Contents → List Happened → Type 0
IsEnd p [] = ⊥
IsEnd p (d ∷ []) = (d.result ≡ Arrived (welcome p)) × Each (IsEndVerdict p) d.verdicts
IsEnd p (d ∷ e ∷ ds) = ⊥

-- a router sends the packet on, to where the rest holds, or delivers it
abbrev pub GoesOn : Type 0 → Type 0 → PassResult → Type 0
GoesOn onward delivered (Turned (Forward out hops generations)) = onward
GoesOn onward delivered (Turned (Deliver host hops generations)) = delivered
GoesOn onward delivered (Turned (Refused check hop)) = ⊥
GoesOn onward delivered (Arrived arrival) = ⊥
GoesOn onward delivered Full = ⊥

-- each router forwards the packet but the last, which delivers it, and the destination takes it; hops have verdicts such as these
abbrev pub IsCarriedBy : (Verdict → Type 0) → Contents → List Happened → Type 0
IsCarriedBy V p [] = ⊥
IsCarriedBy V p (d ∷ ds) = Each V d.verdicts × GoesOn (IsCarriedBy V p ds) (IsEnd p ds) d.result

abbrev pub IsCarried : Contents → List Happened → Type 0
IsCarried p ds = IsCarriedBy IsWelcome p ds

-- with every hop proved
abbrev pub IsProvedAllAlong : Contents → List Happened → Type 0
IsProvedAllAlong p ds = IsCarriedBy IsProvedHop p ds

-- no other name of a hop has passed with these path bytes
abbrev pub NoOtherPassed : History → Contents → (ℕ → HopName) → Type 0
NoOtherPassed h p x =
    (n : ℕ) (w : Pass) → slice_get (passes_in h) n ≡ Some w → w.hop < hop_count p → same_path w.packet.route p.route ≡ true
    → pass_name w ≡ x w.hop

-- the emission is the packet, at interface 0 of its source's AS
abbrev pub IsAtStart : Contents → Emission → Type 0
IsAtStart p e = e ≡ record { place = Router p.src.asn 0; bytes = spelling p }

-- no hop's segment begins too late
abbrev pub NoneFuture : Network → ℕ → Contents → Type 0
NoneFuture t now p = (j : ℕ) → j < hop_count p → is_path_future t.profile (body p.route j).ts_path now ≡ false

-- what is known of a packet that its source made and the ledger has on record, and of its emission
pub record IsReady (t : Network) (h : History) (now : ℕ) (p : Contents) (x : ℕ → HopName) (number : ℕ) : Type 0 where
  pub lawful : IsLawful h
  pub recorded : IsOnRecord h p x
  pub packet : IsPacket p
  pub road : IsRoad t p x
  pub made : IsMade t p x
  pub started : NoneFuture t now p
  pub emission : Emission
  pub there : emission_at h.emissions number ≡ Some emission
  pub at_start : IsAtStart p emission

-- an honest packet is carried to its destination
abbrev pub HonestPacketsArrive : Type 0
HonestPacketsArrive =
    (t : Network) (step now : ℕ) (h : History) (p : Contents) (x : ℕ → HopName) (number : ℕ)
    → IsReady t h now p x number → Honest t h now p x
    → IsCarried p (carried t step now 33 h number)

-- and every hop on its way is proved, where no other hop has passed with its path bytes
abbrev pub HonestPacketsAreProved : Type 0
HonestPacketsAreProved =
    (t : Network) (step now : ℕ) (h : History) (p : Contents) (x : ℕ → HopName) (number : ℕ)
    → IsReady t h now p x number → Honest t h now p x → NoOtherPassed h p x
    → IsProvedAllAlong p (carried t step now 33 h number)
