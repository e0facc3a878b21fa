-- The lines of a report: what each answer prints.
use Rattle.std.specs.Prelude.{◌≡◌, ℕ, ◌+◌, ◌<◌, IsTrue, List, [], ◌∷◌, ◌++◌, map, length, codes, decimal, Option, Some, None, unwrap_or, ⊤}
use Rattle.std.specs.List.{All, flat_map, join_with_byte}
use Rattle.std.specs.Option.{option_map_or}
use Rattle.hex.specs.Hex.{encode_lower}
use Rattle.epic_num.specs.declared.answer.Answer.{Answer}
use Rattle.epic_num.specs.declared.answer.Answer.TheVariants as answer
use Rattle.epic_num.specs.declared.arrival.Arrival.{Arrival}
use Rattle.epic_num.specs.declared.arrival.Arrival.TheVariants as arrival
use Rattle.epic_num.specs.declared.command.Command.{Command}
use Rattle.epic_num.specs.declared.command.Command.TheVariants as command
use Rattle.epic_num.specs.declared.hop.HopName.{HopName}
use Rattle.epic_num.specs.declared.passed.Passed.{Passed}
use Rattle.epic_num.specs.declared.passed.PassResult.{PassResult}
use Rattle.epic_num.specs.declared.passed.PassResult.TheVariants.{Turned, Arrived, Full}
use Rattle.epic_num.specs.declared.path_ref.PathRef.{PathRef}
use Rattle.epic_num.specs.declared.turn.Turn.{Turn}
use Rattle.epic_num.specs.declared.turn.Turn.TheVariants as turn
use Rattle.epic_num.specs.declared.verdict.Verdict.{Verdict}
use Rattle.epic_num.specs.Bodies.{body_bytes}
use Rattle.epic_num.specs.Chains.{Issue, name_of, no_name}
use Rattle.epic_num.specs.Levels.{is_first_byte}
use Rattle.epic_num.specs.Names.{as_text}
use Rattle.epic_layout.specs.Contents.{Contents}
use Rattle.epic_layout.specs.Layout.{fault, parse}
use Rattle.epic_topo.specs.Network.{Network, has}
use Rattle.epic_fields.specs.Tags.{sigma}
use Rattle.epic_ledger.specs.Facts.{issues_in}
use Rattle.epic_ledger.specs.History.{Emission, History, emission_at}
use Rattle.epic_text.specs.Line.{step_line, bytes_text}
use Rattle.epic_text.specs.Notes.{Noted, behind_hop, noted_of}
use Rattle.epic_text.specs.Refusals.{turn_words, arrival_words, refusal_words}
use Rattle.epic_text.specs.VerdictText.{verdict_words, IsTellable}

-- ---- issues and paths

-- an issue: its number, the AS, the body and the authenticator
unfoldable pub issue_words : Network → ℕ → HopName → List (List ℕ)
issue_words t number x =
    codes "issue" ∷ decimal number ∷ as_text x.asn.0 ∷ encode_lower (body_bytes x.body) ∷ encode_lower (sigma t x) ∷ []

-- numbers with a comma between two
abbrev pub numbers_text : List ℕ → List ℕ
numbers_text numbers = join_with_byte 44 (map decimal numbers)

-- a path: the number of its hops, and the last issue of each segment
unfoldable pub path_words : PathRef → List (List ℕ)
path_words path = codes "path" ∷ decimal path.hops ∷ numbers_text path.issues.items ∷ []

-- one line a path
abbrev pub path_lines : ℕ → List PathRef → List ℕ
path_lines step paths = flat_map (λ path. step_line step (path_words path)) paths

abbrev pub paths_text : ℕ → List PathRef → List ℕ
paths_text step [] = step_line step (codes "none" ∷ [])
paths_text step (path ∷ more) = path_lines step (path ∷ more)

-- ---- passes

-- what a router did; the bytes are those of the emission that it made
abbrev pub turned_words : ℕ → List ℕ → Turn → List (List ℕ)
turned_words emission bytes (turn.Forward out hops generations) =
    codes "forward" ∷ decimal out ∷ decimal emission ∷ bytes_text bytes ∷ []
turned_words emission bytes (turn.Deliver host hops generations) =
    codes "deliver" ∷ decimal host ∷ decimal emission ∷ bytes_text bytes ∷ []
turned_words emission bytes (turn.Refused check hop) = turn_words check hop

-- what a destination did
abbrev pub arrived_words : Arrival → List (List ℕ)
arrived_words arrival.Accepted = codes "accepted" ∷ []
arrived_words arrival.Unchecked = codes "unchecked" ∷ []
arrived_words (arrival.Refused check) = arrival_words check

-- the first line of a pass
abbrev pub pass_words : ℕ → List ℕ → PassResult → List (List ℕ)
pass_words emission bytes (Turned turn) = turned_words emission bytes turn
pass_words emission bytes (Arrived arrival) = arrived_words arrival
pass_words emission bytes Full = codes "refused" ∷ codes "full" ∷ []

-- the line of a hop that a router handled, by its index in the packet
abbrev pub hop_line : Network → ℕ → Contents → ℕ → Verdict → List ℕ
hop_line t step p hop verdict = step_line step (codes "hop" ∷ decimal hop ∷ verdict_words t p verdict)

-- one line a handled hop, from the i-th on, and its note behind it; the first is the packet's current hop as it came in
abbrev pub hop_lines : Network → ℕ → Contents → Noted → ℕ → List Verdict → List ℕ
hop_lines t step p notes i [] = []
hop_lines t step p notes i (verdict ∷ more) =
    hop_line t step p (p.current + i) verdict ++ (behind_hop notes i ++ hop_lines t step p notes (i + 1) more)

-- the line of a destination
abbrev pub dest_line : Network → ℕ → Contents → Verdict → List ℕ
dest_line t step p verdict = step_line step (codes "dest" ∷ verdict_words t p verdict)

abbrev pub dest_lines : Network → ℕ → Contents → List Verdict → List ℕ
dest_lines t step p verdicts = flat_map (dest_line t step p) verdicts

abbrev pub verdict_lines : Network → ℕ → Contents → Noted → PassResult → List Verdict → List ℕ
verdict_lines t step p notes (Turned turn) verdicts = hop_lines t step p notes 0 verdicts
verdict_lines t step p notes (Arrived arrival) verdicts = dest_lines t step p verdicts
verdict_lines t step p notes Full verdicts = []

-- the lines of a pass, of the bytes that came in and those of the emission that it made, with its notes
unfoldable pub passed_text : Network → ℕ → List ℕ → List ℕ → Noted → Passed → List ℕ
passed_text t step came emitted notes passed =
    step_line step (pass_words passed.emission emitted passed.result)
    ++ (verdict_lines t step (parse came) notes passed.result passed.verdicts.items ++ notes.last)

-- the lines of passes of which each gets what the one before emitted, from the k-th on
unfoldable pub carried_text : Network → (ℕ → List ℕ) → ℕ → List ℕ → List Noted → ℕ → List Passed → List ℕ
carried_text t emissions step came notes k [] = []
carried_text t emissions step came notes k (passed ∷ more) =
    passed_text t step came (emissions passed.emission) (noted_of notes k) passed
    ++ carried_text t emissions step (emissions passed.emission) notes (k + 1) more

-- ---- answers

-- The lines of an answer. The hops that were issued have their names by the issues' numbers, and the packets that were
-- emitted their bytes by the emissions' numbers; `came` are the bytes that came in, and `notes` those of the k-th pass.
unfoldable pub answer_text : Network → (ℕ → HopName) → (ℕ → List ℕ) → List ℕ → List Noted → ℕ → Answer → List ℕ
answer_text t names emissions came notes step answer.Moment = []
answer_text t names emissions came notes step (answer.Issued number) = step_line step (issue_words t number (names number))
answer_text t names emissions came notes step answer.Fetched = step_line step (codes "fetched" ∷ [])
answer_text t names emissions came notes step answer.Known = step_line step (codes "known" ∷ [])
answer_text t names emissions came notes step (answer.Paths paths) = paths_text step paths
answer_text t names emissions came notes step (answer.Sent emission ts) =
    step_line step (codes "sent" ∷ decimal emission ∷ decimal ts ∷ bytes_text (emissions emission) ∷ [])
answer_text t names emissions came notes step (answer.Passed passed) =
    passed_text t step came (emissions passed.emission) (noted_of notes 0) passed
answer_text t names emissions came notes step (answer.Carried passes) = carried_text t emissions step came notes 0 passes
answer_text t names emissions came notes step answer.Revealed = step_line step (codes "revealed" ∷ [])
answer_text t names emissions came notes step (answer.Rolled generation) =
    step_line step (codes "rolled" ∷ decimal generation ∷ [])
answer_text t names emissions came notes step (answer.Refused refusal) = step_line step (refusal_words refusal)

-- the bytes of an emission, none where it isn't there
unfoldable pub emission_bytes : List Emission → ℕ → List ℕ
emission_bytes emissions number = option_map_or (λ e. e.bytes) (emission_at emissions number) []

-- the name of the hop that was issued under a number
unfoldable pub issued_name : List Issue → ℕ → HopName
issued_name issues number = unwrap_or (name_of issues number) no_name

-- the bytes that a command brings to a router or a host
unfoldable pub bytes_in : (ℕ → List ℕ) → Command → List ℕ
bytes_in emissions (command.Turn asn iface bytes) = bytes
bytes_in emissions (command.Arrive host bytes) = bytes
bytes_in emissions (command.Pass emission) = emissions emission
bytes_in emissions (command.Carry emission) = emissions emission
bytes_in emissions (command.At moment) = []
bytes_in emissions (command.Originate asn out exp) = []
bytes_in emissions (command.Extend parent out exp) = []
bytes_in emissions (command.Fetch source owner epoch) = []
bytes_in emissions (command.Paths from to) = []
bytes_in emissions (command.Send version level src dst segments payload) = []
bytes_in emissions (command.Reveal holder) = []
bytes_in emissions (command.Roll asn) = []

-- ---- what can be told

-- of the pass, whose verdicts are told over the packet that came in
pub record IsToldPass (t : Network) (came : List ℕ) (passed : Passed) : Type 0 where
  pub packet : 0 < length passed.verdicts.items → fault is_first_byte came ≡ None
  pub verdicts : All (IsTellable t (parse came)) passed.verdicts.items

-- of passes, each over the packet that came to it: what the pass before it emitted
abbrev pub IsToldCarry : Network → (ℕ → List ℕ) → List ℕ → List Passed → Type 0
IsToldCarry t emissions came [] = ⊤
IsToldCarry t emissions came (passed ∷ more) =
    IsToldPass t came passed × IsToldCarry t emissions (emissions passed.emission) more

-- the hop is there, and its AS is in the topology
abbrev pub IsKnownHop : Network → Option HopName → Type 0
IsKnownHop t (Some name) = IsTrue (has t name.asn)
IsKnownHop t None = ⊥

-- the answer names an issue of the ledger, and the tags that its lines show can be computed
abbrev pub IsToldAnswer : Network → History → List ℕ → Answer → Type 0
IsToldAnswer t h came answer.Moment = ⊤
IsToldAnswer t h came (answer.Issued number) = IsKnownHop t (name_of (issues_in h.events) number)
IsToldAnswer t h came answer.Fetched = ⊤
IsToldAnswer t h came answer.Known = ⊤
IsToldAnswer t h came (answer.Paths paths) = ⊤
IsToldAnswer t h came (answer.Sent emission ts) = ⊤
IsToldAnswer t h came (answer.Passed passed) = IsToldPass t came passed
IsToldAnswer t h came (answer.Carried passes) = IsToldCarry t (emission_bytes h.emissions) came passes
IsToldAnswer t h came answer.Revealed = ⊤
IsToldAnswer t h came (answer.Rolled generation) = ⊤
IsToldAnswer t h came (answer.Refused refusal) = ⊤
