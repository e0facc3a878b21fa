-- What else a report says of the passes of a step, where more is asked for than verdicts: who can have made the fields of level 1 that
-- routers accepted, and what the policer of a router's AS said of a packet of level 2 or 3 that the router sent on.
use Rattle.std.specs.Prelude.{ℕ, ◌+◌, ◌||◌, Bool, true, false, if◌then◌else◌, List, [], ◌∷◌, ◌++◌, map, flat_map, length, take, codes, decimal, Option, Some, None, is_some}
use Rattle.std.specs.List.{list_any}
use Rattle.epic_num.specs.declared.answer.Answer.{Answer}
use Rattle.epic_num.specs.declared.answer.Answer.TheVariants as answer
use Rattle.epic_num.specs.declared.command.Command.{Command}
use Rattle.epic_num.specs.declared.hop.Level.{Level}
use Rattle.epic_num.specs.declared.hop.Level.TheVariants.{L0, L1, L2, L3}
use Rattle.epic_num.specs.declared.name.AsId.{AsId}
use Rattle.epic_num.specs.declared.passed.Passed.{Passed}
use Rattle.epic_num.specs.declared.passed.PassResult.{PassResult}
use Rattle.epic_num.specs.declared.passed.PassResult.TheVariants.{Turned, Arrived, Full}
use Rattle.epic_num.specs.declared.passed.Place.{Place}
use Rattle.epic_num.specs.declared.passed.Place.TheVariants.{Router, Host}
use Rattle.epic_num.specs.declared.turn.Turn.{Turn}
use Rattle.epic_num.specs.declared.turn.Turn.TheVariants.{Forward, Deliver, Refused}
use Rattle.epic_num.specs.Levels.{is_tagged, level_of}
use Rattle.epic_num.specs.Names.{as_text}
use Rattle.epic_layout.specs.Contents.{Contents}
use Rattle.epic_layout.specs.Layout.{parse}
use Rattle.epic_topo.specs.Network.{Network}
use Rattle.epic_fields.specs.HopChecks.{hop_name}
use Rattle.epic_ledger.specs.Facts.{Facts, facts_of}
use Rattle.epic_holders.specs.declared.maker.Maker.{Maker}
use Rattle.epic_holders.specs.declared.maker.Maker.TheVariants.{AsHop, Made, Opened, Collided, Forged}
use Rattle.epic_holders.specs.Makers.{maker_verdict}
use Rattle.epic_holders.specs.MakerText.{maker_words}
use Rattle.epic_model.specs.State.{State}
use Rattle.epic_policer.specs.Offers.{Policy}
use Rattle.epic_policer.specs.Policing.{Offer, said}
use Rattle.epic_policer.specs.declared.policed.Policed.{Policed}
use Rattle.epic_policer.specs.declared.policed.Policed.TheVariants.{Pass, Over, Unknown}
use Rattle.epic_text.specs.Line.{step_line}
use Rattle.epic_text.specs.Notes.{Noted}
use Rattle.epic_text.specs.Report.{bytes_in, emission_bytes}
use Rattle.epic_words.specs.Request.{Policing}
use Rattle.epic_world.specs.Run.{Done}
use Rattle.epic_app.specs.Showing.{Showing}

-- ---- passes

-- a pass, and the bytes that came in
pub record Coming : Type 0 where
  pub came : List ℕ
  pub passed : Passed

-- passes of which each gets what the one before emitted
abbrev pub coming : (ℕ → List ℕ) → List ℕ → List Passed → List Coming
coming emissions came [] = []
coming emissions came (passed ∷ more) =
    record { came = came; passed = passed } ∷ coming emissions (emissions passed.emission) more

abbrev pub passes_told : Answer → List Passed
passes_told (answer.Passed passed) = passed ∷ []
passes_told (answer.Carried passes) = passes
passes_told answer.Moment = []
passes_told (answer.Issued number) = []
passes_told answer.Fetched = []
passes_told answer.Known = []
passes_told (answer.Paths paths) = []
passes_told (answer.Sent emission ts) = []
passes_told answer.Revealed = []
passes_told (answer.Rolled generation) = []
passes_told (answer.Refused refusal) = []

-- those of an answer to a command, after which the state is this
unfoldable pub passes_after : Command → Answer → State → List Coming
passes_after command told after =
    let emissions = emission_bytes after.history.emissions in
    coming emissions (bytes_in emissions command) (passes_told told)

-- those of a step
abbrev pub passes_of : Done → List Coming
passes_of d = passes_after d.command d.answer d.after

-- something of a router's pass, from its AS, the packet as it came in, and the generations under which its hops were accepted, if they
-- were
abbrev pub by_turn : {A : Type 0} → (Contents → List ℕ → List A) → Contents → Turn → List A
by_turn f p (Forward out hops generations) = f p (take hops generations)
by_turn f p (Deliver host hops generations) = f p (take hops generations)
by_turn f p (Refused check hop) = []

abbrev pub by_result : {A : Type 0} → (Contents → List ℕ → List A) → Contents → PassResult → List A
by_result f p (Turned turn) = by_turn f p turn
by_result f p (Arrived arrival) = []
by_result f p Full = []

abbrev pub by_place : {A : Type 0} → (AsId → Contents → List ℕ → List A) → Contents → PassResult → Place → List A
by_place f p result (Router a iface) = by_result (f a) p result
by_place f p result (Host host) = []

abbrev pub by_router : {A : Type 0} → (AsId → Contents → List ℕ → List A) → Coming → List A
by_router f x = by_place f (parse x.came) x.passed.result x.passed.place

-- ---- makers of fields

-- the hops of a packet of level 1 that were accepted under these generations, from hop j on, each with who can have made its field
abbrev pub makers_along : {A : Type 0} → Network → Facts → (AsId → ℕ → Contents → ℕ → Maker → A) → AsId → Contents → ℕ → List ℕ → List A
makers_along t f each a p j [] = []
makers_along t f each a p j (g ∷ gs) =
    each a g p j (maker_verdict t f (hop_name a g p j) p j) ∷ makers_along t f each a p (j + 1) gs

-- of packets of level 1 alone
abbrev pub at_level_1 : {A : Type 0} → Level → List A → List A
at_level_1 L0 xs = []
at_level_1 L1 xs = xs
at_level_1 L2 xs = []
at_level_1 L3 xs = []

-- those of a pass, where makers are shown
abbrev pub makers_at : {A : Type 0} → Showing → Network → Facts → (AsId → ℕ → Contents → ℕ → Maker → A) → Coming → List A
makers_at show t f each x =
    by_router (λ a p gs. if show.makers then at_level_1 (level_of p.first) (makers_along t f each a p p.current gs) else []) x

-- the line of a hop
abbrev pub maker_line : Network → ℕ → AsId → ℕ → Contents → ℕ → Maker → List ℕ
maker_line t number a g p j m =
    step_line number (codes "maker" ∷ decimal j ∷ maker_words t (hop_name a g p j) p j m)

-- a maker that tells of a tag that was forged, or of two hops with one authenticator
abbrev pub alarms : Maker → Bool
alarms AsHop = false
alarms (Made emission) = false
alarms (Opened step) = false
alarms (Collided left right) = true
alarms Forged = true

-- some maker of these passes is one
unfoldable pub some_alarms : Showing → Network → Facts → List Coming → Bool
some_alarms show t f passes = list_any (λ x. list_any alarms (makers_at show t f (λ a g p j m. m) x)) passes

-- of a step
unfoldable pub shows_alarm : Showing → Network → Done → Bool
shows_alarm show t d = some_alarms show t (facts_of d.after.history) (passes_of d)

-- ---- what policers say

-- a packet of level 2 or 3, so long, is offered to the policer of an AS
abbrev pub packet_offers : ℕ → ℕ → AsId → Contents → List Offer
packet_offers moment bytes a p =
    if is_tagged p.first
    then record { at = a; packet = record { source = p.src.asn; bytes = bytes; moment = moment } } ∷ []
    else []

-- so is one that a router sends on or delivers, whole, to the policer of the router's AS
abbrev pub offered : ℕ → Coming → List Offer
offered moment x = by_router (λ a p gs. packet_offers moment (length x.came) a p) x

-- those of passes at a moment
abbrev pub all_offered : ℕ → List Coming → List Offer
all_offered moment passes = flat_map (offered moment) passes

-- those of a step
abbrev pub offers_in : Done → List Offer
offers_in d = all_offered d.after.moment (passes_of d)

-- those of steps in turn
unfoldable pub offers_of : List Done → List Offer
offers_of steps = flat_map offers_in steps

-- each AS of the topology is a source
abbrev pub policy_of : Network → Policing → Policy
policy_of t police = record { sources = map (λ s. s.asn) t.systems; budget = police.budget; span_us = police.span_us }

abbrev pub policed_words : Policed → List (List ℕ)
policed_words (Pass used) = codes "pass" ∷ decimal used ∷ []
policed_words (Over used) = codes "over" ∷ decimal used ∷ []
policed_words Unknown = codes "unknown" ∷ []

-- the line of an answer to a source
abbrev pub policed_line : ℕ → AsId → Policed → List ℕ
policed_line number source policed = step_line number (codes "police" ∷ as_text source.0 ∷ policed_words policed)

-- the line of an offer behind these
abbrev pub police_line : Policy → ℕ → List Offer → Offer → List ℕ
police_line policy number offers o = policed_line number o.packet.source (said policy offers o)

-- the line of an offer behind these, if packets are policed
abbrev pub said_of : Network → ℕ → Option Policing → List Offer → Offer → List ℕ
said_of t number None offers o = []
said_of t number (Some police) offers o = police_line (policy_of t police) number offers o

-- ---- notes

-- what is noted of a pass, where the policers were offered these packets before
abbrev pub noted_at : Showing → Network → Facts → ℕ → ℕ → List Offer → Coming → Noted
noted_at show t f number moment offers x = record {
  behind = makers_at show t f (maker_line t number) x;
  last = flat_map (said_of t number show.police offers) (offered moment x);
}

-- of passes in turn
unfoldable pub noted_along : Showing → Network → Facts → ℕ → ℕ → List Offer → List Coming → List Noted
noted_along show t f number moment offers [] = []
noted_along show t f number moment offers (x ∷ more) =
    noted_at show t f number moment offers x
    ∷ noted_along show t f number moment (offers ++ offered moment x) more

abbrev pub shows_notes : Showing → Bool
shows_notes show = show.makers || is_some show.police

-- of the passes of an answer under this number, if anything is asked for
unfoldable pub notes_after : Showing → Network → ℕ → List Offer → Command → Answer → State → List Noted
notes_after show t number offers command told after =
    if shows_notes show
    then noted_along show t (facts_of after.history) number after.moment offers (passes_after command told after)
    else []
