-- What the verdicts of a step are worth: each is true over the ledger before its passage, and is Proved exactly where the provenance
-- stands there.
use Rattle.std.specs.Prelude.{◌≡◌, ◌↔◌, ℕ, ◌+◌, true, List, [], ◌∷◌, Some, length, map, slice_get, slice_index}
use Rattle.std.specs.List.{All}
use Rattle.epic_num.specs.declared.answer.Answer.{Answer}
use Rattle.epic_num.specs.declared.answer.Answer.TheVariants as answer
use Rattle.epic_num.specs.declared.arrival.Arrival.{Arrival}
use Rattle.epic_num.specs.declared.arrival.Arrival.TheVariants as arrival
use Rattle.epic_num.specs.declared.name.AsId.{AsId}
use Rattle.epic_num.specs.declared.passed.PassResult.{PassResult}
use Rattle.epic_num.specs.declared.passed.PassResult.TheVariants.{Turned, Arrived, Full}
use Rattle.epic_num.specs.declared.passed.Place.{Place}
use Rattle.epic_num.specs.declared.passed.Place.TheVariants.{Router, Host}
use Rattle.epic_num.specs.declared.turn.Turn.{Turn}
use Rattle.epic_num.specs.declared.turn.Turn.TheVariants.{Forward, Deliver, Refused}
use Rattle.epic_num.specs.declared.verdict.Verdict.{Verdict}
use Rattle.epic_num.specs.Levels.{is_tagged}
use Rattle.epic_layout.specs.Contents.{Contents}
use Rattle.epic_layout.specs.Layout.{parse}
use Rattle.epic_topo.specs.Network.{Network}
use Rattle.epic_fields.specs.HopChecks.{hop_name}
use Rattle.epic_ledger.specs.Facts.{Facts, facts_of}
use Rattle.epic_audit.specs.Clauses.{HopOk, DestOk}
use Rattle.epic_audit.specs.Holds.{Holds, AtHop, AtDest}
use Rattle.epic_audit.specs.Verdicts.{IsProved}
use Rattle.epic_model.specs.Traces.{Passage, shown}

-- ---- routers

-- the verdict on hop j of a packet, as it came in to the router of an AS that accepted the hop under a generation
pub record IsRightHopVerdict (t : Network) (f : Facts) (a : AsId) (generation : ℕ) (p : Contents) (j : ℕ) (v : Verdict) : Type 0 where
  pub exact : IsProved v ↔ HopOk f (hop_name a generation p j) p j
  pub holds : Holds t f p (AtHop a generation j) v

-- there is one for each hop that was handled, from the packet's current hop on
pub record AreJudged (t : Network) (f : Facts) (a : AsId) (p : Contents) (hops : ℕ) (generations : List ℕ) (verdicts : List Verdict) : Type 0 where
  pub count : length verdicts ≡ hops
  pub each : (i : ℕ) (v : Verdict) → slice_get verdicts i ≡ Some v
      → IsRightHopVerdict t f a (slice_index generations i) p (p.current + i) v

abbrev pub IsJudgedTurn : Network → Facts → AsId → Contents → List Verdict → Turn → Type 0
IsJudgedTurn t f a p verdicts (Forward out hops generations) = AreJudged t f a p hops generations verdicts
IsJudgedTurn t f a p verdicts (Deliver host hops generations) = AreJudged t f a p hops generations verdicts
IsJudgedTurn t f a p verdicts (Refused check hop) = verdicts ≡ []

-- ---- destinations

-- the one verdict on a packet that was taken. At levels 0 and 1 none is Proved.
pub record IsRightEndVerdict (t : Network) (f : Facts) (p : Contents) (verdicts : List Verdict) : Type 0 where
  pub verdict : Verdict
  pub one : verdicts ≡ verdict ∷ []
  pub exact : IsProved verdict ↔ (is_tagged p.first ≡ true) × DestOk f p
  pub holds : Holds t f p AtDest verdict

abbrev pub IsJudgedArrival : Network → Facts → Contents → List Verdict → Arrival → Type 0
IsJudgedArrival t f p verdicts arrival.Accepted = IsRightEndVerdict t f p verdicts
IsJudgedArrival t f p verdicts arrival.Unchecked = IsRightEndVerdict t f p verdicts
IsJudgedArrival t f p verdicts (arrival.Refused check) = verdicts ≡ []

-- ---- passages

-- routers turn, hosts take
abbrev pub IsJudgedAt : Network → Facts → Contents → List Verdict → Place → PassResult → Type 0
IsJudgedAt t f p verdicts (Router a iface) (Turned turn) = IsJudgedTurn t f a p verdicts turn
IsJudgedAt t f p verdicts (Router a iface) Full = verdicts ≡ []
IsJudgedAt t f p verdicts (Router a iface) (Arrived arrival) = ⊥
IsJudgedAt t f p verdicts (Host d) (Arrived arrival) = IsJudgedArrival t f p verdicts arrival
IsJudgedAt t f p verdicts (Host d) (Turned turn) = ⊥
IsJudgedAt t f p verdicts (Host d) Full = ⊥

-- over the ledger before it, on the packet as it came in
abbrev pub IsJudged : Network → Passage → Type 0
IsJudged t x = IsJudgedAt t (facts_of x.before) (parse x.came) x.happened.verdicts x.place x.happened.result

-- ---- steps

-- the answer tells these passages, and no other verdict
abbrev pub Tells : Answer → List Passage → Type 0
Tells (answer.Passed told) passages = (x : Passage) × ((passages ≡ x ∷ []) × (told ≡ shown x))
Tells (answer.Carried told) passages = told ≡ map shown passages
Tells answer.Moment passages = passages ≡ []
Tells (answer.Issued number) passages = passages ≡ []
Tells answer.Fetched passages = passages ≡ []
Tells answer.Known passages = passages ≡ []
Tells (answer.Paths paths) passages = passages ≡ []
Tells (answer.Sent emission ts) passages = passages ≡ []
Tells answer.Revealed passages = passages ≡ []
Tells (answer.Rolled generation) passages = passages ≡ []
Tells (answer.Refused refusal) passages = passages ≡ []

-- the verdicts of a step are right, and the answer tells them
pub record VerdictsHold (t : Network) (told : Answer) (passages : List Passage) : Type 0 where
  pub each : All (IsJudged t) passages
  pub tells : Tells told passages
