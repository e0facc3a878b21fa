-- What became of a packet can be told, and the passes of a carry over the ledger after them.
use Rattle.std.proofs.Common.{◌≡◌, ℕ, zero, suc, ◌+◌, ◌*◌, ◌<◌, ◌≤◌, Bool, true, false, List, [], ◌∷◌, ◌++◌, length, take, map, Option, None, Some, IsTrue, refl, ap, sym, subst, ◌∙◌, arith, length-take, length-append}
use Rattle.std.specs.Prelude.{◌==◌, nat_lt, if◌then◌else◌, IsSome, ⊤}
use Rattle.std.specs.List.{All, flat_map}
use Rattle.std.specs.Option.{option_map_or}
use Rattle.std.proofs.lemmas.Bool.{cond_both}
use Rattle.std.proofs.lemmas.List.Elements.{All-cons, All-nil}
use Rattle.epic_num.specs.declared.arrival.Arrival.{Arrival}
use Rattle.epic_num.specs.declared.arrival.Arrival.TheVariants as arrival
use Rattle.epic_num.specs.declared.name.AsId.{AsId}
use Rattle.epic_num.specs.declared.name.HostId.{HostId}
use Rattle.epic_num.specs.declared.passed.Passed.{Passed}
use Rattle.epic_num.specs.declared.passed.PassResult.TheVariants.{Full}
use Rattle.epic_num.specs.declared.passed.Place.{Place}
use Rattle.epic_num.specs.declared.passed.Place.TheVariants.{Router, Host}
use Rattle.epic_num.specs.declared.turn.Turn.{Turn}
use Rattle.epic_num.specs.declared.turn.Turn.TheVariants.{Forward, Deliver, Refused}
use Rattle.epic_num.specs.declared.verdict.Verdict.{Verdict}
use Rattle.epic_num.specs.Levels.{is_first_byte}
use Rattle.epic_num.specs.Windows.{Told}
use Rattle.epic_layout.specs.Contents.{hop_count}
use Rattle.epic_layout.specs.Layout.{fault, parse}
use Rattle.epic_layout.specs.Reading.{IsRead}
use Rattle.epic_layout.specs.Spelling.{spelling}
use Rattle.epic_topo.specs.Lawful.{IsTopology}
use Rattle.epic_topo.specs.Network.{Network, has}
use Rattle.epic_router.specs.Candidates.{candidates_of}
use Rattle.epic_router.specs.Leaving.{packet_after}
use Rattle.epic_router.specs.Remembering.{key_at}
use Rattle.epic_router.specs.RightTurns.{IsAccepted, IsRightTurn}
use Rattle.epic_router.proofs.Right.{turns_are_right, few_hops, some_hops}
use Rattle.epic_ends.specs.RightArrivals.{IsAtEnd, IsRightArrival}
use Rattle.epic_ends.proofs.Arrivals.{arrivals_are_right}
use Rattle.epic_window.specs.Entries.{told_of}
use Rattle.epic_ledger.specs.History.{History, Emission, emission_at, emitted}
use Rattle.epic_ledger.specs.Facts.{facts_of}
use Rattle.epic_ledger.proofs.Growing.{emission_at-append}
use Rattle.epic_audit.specs.Verdicts.{dest_verdict}
use Rattle.epic_audit.proofs.Growth.{lawful_packets}
use Rattle.epic_model.specs.Keeping.{IsDue, Inv}
use Rattle.epic_model.specs.Passing.{Happened, most_emitted, rolls, left, nothing, due_behind, turned_by, answer_at, turned_at, arrives, arrived_by, arrival_at, arrived_at, pass_at, passed_on, carried, last_history}
use Rattle.epic_model.specs.Sound.{IsSound}
use Rattle.epic_model.specs.Steps.{passages_of}
use Rattle.epic_model.specs.Traces.{Passage, shown}
use Rattle.epic_model.specs.Windows.{router_window, host_window}
use Rattle.epic_model.proofs.InvKept.{inv_passes, there_fits}
use Rattle.epic_model.proofs.Once.{after_turn, after_arrival}
use Rattle.epic_text.specs.Report.{IsToldPass, IsToldCarry, emission_bytes}
use Rattle.epic_text.specs.VerdictText.{IsTellable}
use Rattle.epic_app.specs.Noting.{coming}
use Rattle.epic_app.specs.Policed.{IsNotable, IsNotableTurn, IsNotableAt, IsNotablePass}
use Rattle.epic_rerun.proofs.ToldVerdicts.{hops_told, hops_counted, dest_told}

-- ---- passes

-- what became of bytes at a place can be told and noted, and has two verdicts at most
pub record Tellable (t : Network) (place : Place) (bytes : List ℕ) (d : Happened) : Type 0 where
  pub notable : IsNotableAt t bytes d.result place
  pub packet : 0 < length d.verdicts → fault is_first_byte bytes ≡ None
  pub verdicts : All (IsTellable t (parse bytes)) d.verdicts
  pub few : length d.verdicts ≤ 2

-- nothing was accepted
none_told : (t : Network) (place : Place) (bytes : List ℕ) (d : Happened) → IsNotableAt t bytes d.result place → d.verdicts ≡ [] → Tellable t place bytes d
none_told t place bytes d notable none = record {
  notable = notable;
  packet = λ some. absurd (let long = ap length none in omega (arith, some, long));
  verdicts = subst (All (IsTellable t (parse bytes))) (sym none)
      (All-nil (IsTellable t (parse bytes)));
  few = (let long = ap length none in omega (arith, long));
}

module _ (t : Network) (step now : ℕ) (h : History) (a : AsId) (iface : ℕ) (bytes : List ℕ)
    (here : IsTrue (has t a)) (read : IsRead bytes) (sound : IsSound t h step) where
  tells : Told
  tells = told_of t.profile (router_window h a) now (key_at (parse bytes) (parse bytes).current)

  accepted_notable : (turn : Turn) (hops : ℕ) (generations : List ℕ)
      → IsAccepted t a (candidates_of (rolls h.events a)) iface now tells bytes turn hops generations
      → IsNotable t a bytes hops generations
  accepted_notable turn hops generations acc =
      let p = parse bytes in
      record {
        known = here;
        faultless = acc.faultless;
        packet = read acc.faultless;
        some = omega (arith, acc.hops_are, some_hops p p.current);
        few = omega (arith, acc.hops_are, few_hops p p.current);
        within = acc.there;
        accepted = λ i below. record { field_right = (acc.each i below).field_is; link_right = (acc.each i below).link_is };
      }

  left_told : (turn : Turn) (due : Place) (hops : ℕ) (generations : List ℕ)
      → IsAccepted t a
      (candidates_of (rolls h.events a)) iface now tells bytes turn hops generations
      → IsNotableTurn t a bytes turn
      → Tellable t (Router a iface) bytes (left t step h a bytes turn due (take hops generations))
  unfolding left
  left_told turn due hops generations acc notable =
      let p = parse bytes in
      let gs = take hops generations in
      let long = length-take hops generations in
      let counted = hops_counted t (facts_of h) a p p.current gs in
      record {
        notable = notable;
        packet = λ _. acc.faultless;
        verdicts = hops_told t (facts_of h) a p p.current gs sound.kept here
            (omega (arith, long, acc.there));
        few = omega (arith, counted, long, acc.hops_are, few_hops p p.current);
      }

  turn_told : (turn : Turn)
      → IsRightTurn t a (candidates_of (rolls h.events a)) iface now tells bytes turn
      → Tellable t (Router a iface) bytes (turned_by t step h a bytes turn)
  unfolding turned_by
  turn_told (Forward out hops generations) right = left_told (Forward out hops generations)
      (due_behind t a out) hops generations right.0 (accepted_notable (Forward out hops generations) hops generations right.0)
  turn_told (Deliver host hops generations) right = left_told (Deliver host hops generations)
      (Host (record { asn = a; host = host })) hops generations right.0 (accepted_notable (Deliver host hops generations) hops generations right.0)
  turn_told (Refused check hop) right = none_told t (Router a iface) bytes _ tt refl

  turned_told : Tellable t (Router a iface) bytes (turned_at t step now h a iface bytes)
  unfolding turned_at answer_at tells
  turned_told =
      cond_both (nat_lt most_emitted (emitted h.emissions + length bytes)) (nothing h Full)
      (turned_by t step h a bytes (answer_at t now h a iface bytes)) (Tellable t (Router a iface) bytes)
      (λ _. none_told t (Router a iface) bytes _ tt refl)
      (λ _. turn_told (answer_at t now h a iface bytes)
      (turns_are_right t a (candidates_of (rolls h.events a)) iface now tells bytes read))

module _ (t : Network) (step now : ℕ) (h : History) (d : HostId) (bytes : List ℕ)
    (here : IsTrue (has t d.asn)) (read : IsRead bytes) (sound : IsSound t h step) where
  end_told : (answer : Arrival) (checked : Bool) → IsAtEnd d bytes
      → Tellable t (Host d) bytes (arrives t step h d (parse bytes) answer checked)
  unfolding arrives
  end_told answer checked end =
      let p = parse bytes in
      let there : IsTrue (has t p.dst.asn) = subst (λ (e : HostId). IsTrue (has t e.asn))
      (sym end.host_is) here in
      record {
        notable = tt;
        packet = λ _. end.faultless;
        verdicts = All-cons (IsTellable t p) (dest_verdict t (facts_of h) p) []
            (dest_told t (facts_of h) p (lawful_packets h sound.lawful) sound.kept
            (read end.faultless) there) (All-nil (IsTellable t p));
        few = omega arith;
      }

  arrival_told : (knows : Told) (answer : Arrival) → IsRightArrival t d now knows bytes answer
      → Tellable t (Host d) bytes (arrived_by t step h d bytes answer)
  unfolding arrived_by
  arrival_told knows arrival.Accepted right = end_told arrival.Accepted true right.0
  arrival_told knows arrival.Unchecked right = end_told arrival.Unchecked false right.0
  arrival_told knows (arrival.Refused check) right = none_told t (Host d) bytes _ tt refl

  arrived_told : Tellable t (Host d) bytes (arrived_at t step now h d bytes)
  unfolding arrived_at arrival_at
  arrived_told =
      let knows = told_of t.profile (host_window h d) now
      (key_at (parse bytes) (hop_count (parse bytes))) in
      arrival_told knows (arrival_at t now h d bytes) (arrivals_are_right t d now knows bytes)

pub passed_told : (t : Network) (step now : ℕ) (h : History) (place : Place) (bytes : List ℕ)
    → IsDue t place → IsRead bytes → IsSound t h step
    → Tellable t place bytes (pass_at t step now h place bytes)
unfolding pass_at
passed_told t step now h (Router a iface) bytes due read sound
    = turned_told t step now h a iface bytes due read sound
passed_told t step now h (Host d) bytes due read sound
    = arrived_told t step now h d bytes due read sound

pub shown_told : (t : Network) (x : Passage) → Tellable t x.place x.came x.happened
    → IsToldPass t x.came (shown x)
unfolding shown
shown_told t x told = record { packet = told.packet; verdicts = told.verdicts }

pub shown_notable : (t : Network) (x : Passage) → Tellable t x.place x.came x.happened
    → IsNotablePass t (record { came = x.came; passed = shown x })
unfolding shown
shown_notable t x told = told.notable

-- passes can be noted, each over what the one before it emitted
abbrev pub AreNotable : Network → (ℕ → List ℕ) → List ℕ → List Passed → Type 0
AreNotable t emissions came [] = ⊤
AreNotable t emissions came (passed ∷ more) =
    IsNotablePass t (record { came = came; passed = passed }) × AreNotable t emissions (emissions passed.emission) more

pub all_notable : (t : Network) (emissions : ℕ → List ℕ) (came : List ℕ) (passes : List Passed)
    → AreNotable t emissions came passes → All (IsNotablePass t) (coming emissions came passes)
all_notable t emissions came [] notable = All-nil (IsNotablePass t)
all_notable t emissions came (passed ∷ more) (first, rest) =
    All-cons (IsNotablePass t) (record { came = came; passed = passed }) (coming emissions (emissions passed.emission) more)
    first (all_notable t emissions (emissions passed.emission) more rest)

-- ---- emissions stay

abbrev pub Stays : List Emission → List Emission → Type 0
Stays es more = (n : ℕ) → IsSome (emission_at es n) → emission_at more n ≡ emission_at es n

stays_on : (es more most : List Emission) → Stays es more → Stays more most → Stays es most
stays_on es more most first second n some =
    second n (subst (λ (o : Option Emission). IsSome o) (sym (first n some)) some) ∙ first n some

pub passed_stays : (t : Network) (step now : ℕ) (h : History) (place : Place) (bytes : List ℕ)
    → IsRead bytes
    → Stays h.emissions (pass_at t step now h place bytes).history.emissions
unfolding pass_at left arrives
passed_stays t step now h (Router a iface) bytes read =
    after_turn t step now h a iface bytes (λ g. Stays h.emissions g.emissions) read (λ n some. refl)
    (λ turn due hops generations acc _. emission_at-append h.emissions
    (record { place = due; bytes = spelling (packet_after t a turn (parse bytes)) } ∷ []))
passed_stays t step now h (Host d) bytes read =
    after_arrival t step now h d bytes (λ g. Stays h.emissions g.emissions) (λ n some. refl)
    (λ answer checked _ _ n some. refl)

bytes_are : (es : List Emission) (number : ℕ) (x : Emission) → emission_at es number ≡ Some x
    → emission_bytes es number ≡ x.bytes
unfolding emission_bytes
bytes_are es number x there = ap (λ (o : Option Emission). option_map_or (λ e. e.bytes) o []) there

-- an emission that is there has its bytes later on
pub bytes_stay : (es more : List Emission) (number : ℕ) (x : Emission) → Stays es more
    → emission_at es number ≡ Some x → emission_bytes more number ≡ x.bytes
bytes_stay es more number x stays there =
    bytes_are more number x
    (stays number (subst (λ (o : Option Emission). IsSome o) (sym there) refl) ∙ there)

-- ---- carries

-- the verdicts of passes
abbrev pub verdicts_of : List Passed → List Verdict
verdicts_of passes = flat_map (λ p. p.verdicts.items) passes

-- The passes of a carry are told over the ledger after the last of them, each with two verdicts
-- at most.
pub record CarryTold (t : Network) (h : History) (number : ℕ) (ds : List Happened) : Type 0 where
  pub stays : Stays h.emissions (last_history h ds).emissions
  pub told : (let es = (last_history h ds).emissions in IsToldCarry t (emission_bytes es)
      (emission_bytes es number) (map shown (passages_of h number ds)))
  pub notable : (let es = (last_history h ds).emissions in AreNotable t (emission_bytes es)
      (emission_bytes es number) (map shown (passages_of h number ds)))
  pub few : length (verdicts_of (map shown (passages_of h number ds))) ≤ 2 * length ds

none_carried : (t : Network) (h : History) (number : ℕ) → CarryTold t h number []
unfolding passages_of
none_carried t h number = record { stays = λ n some. refl; told = tt; notable = tt; few = omega arith }

-- the passage of an emission, and what became of it
abbrev passage : History → Emission → Happened → Passage
passage h x d = record { before = h; place = x.place; came = x.bytes; happened = d }

passages_are : (h : History) (number : ℕ) (x : Emission) (d : Happened) (ds : List Happened)
    → emission_at h.emissions number ≡ Some x
    → passages_of h number (d ∷ ds) ≡ passage h x d ∷ passages_of d.history d.emission ds
unfolding passages_of
passages_are h number x d ds there =
    ap (λ o. option_map_or (λ e. passage h e d ∷ []) o [] ++ passages_of d.history d.emission ds)
    there

-- an emission that isn't there has none
no_passages : (h : History) (number : ℕ) (d : Happened) → emission_at h.emissions number ≡ None
    → passages_of h number (d ∷ []) ≡ []
unfolding passages_of
no_passages h number d none = ap (λ o. option_map_or (λ e. passage h e d ∷ []) o [] ++ []) none

missing_carried : (t : Network) (h : History) (number : ℕ) → emission_at h.emissions number ≡ None
    → CarryTold t h number (nothing h Full ∷ [])
missing_carried t h number none =
    let is = no_passages h number (nothing h Full) none in
    let bytes = emission_bytes h.emissions in
    record {
      stays = λ n some. refl;
      told = subst (λ ps. IsToldCarry t bytes (bytes number) (map shown ps)) (sym is) tt;
      notable = subst (λ ps. AreNotable t bytes (bytes number) (map shown ps)) (sym is) tt;
      few = subst (λ ps. length (verdicts_of (map shown ps)) ≤ 2) (sym is) (omega arith);
    }

one_carried : (t : Network) (h : History) (number : ℕ) (x : Emission) (d : Happened)
    (ds : List Happened)
    → emission_at h.emissions number ≡ Some x → Tellable t x.place x.bytes d
    → Stays h.emissions d.history.emissions
    → CarryTold t d.history d.emission ds → CarryTold t h number (d ∷ ds)
unfolding shown
one_carried t h number x d ds there told stays rest =
    let es = (last_history d.history ds).emissions in
    let all = stays_on h.emissions d.history.emissions es stays rest.stays in
    let is = passages_are h number x d ds there in
    let bytes = emission_bytes es in
    let first : IsToldPass t (bytes number) (shown (passage h x d))
    = subst (λ came. IsToldPass t came (shown (passage h x d)))
    (sym (bytes_stay h.emissions es number x all there)) (shown_told t (passage h x d) told) in
    let noted : IsNotablePass t (record { came = bytes number; passed = shown (passage h x d) })
    = subst (λ came. IsNotablePass t (record { came = came; passed = shown (passage h x d) }))
    (sym (bytes_stay h.emissions es number x all there)) (shown_notable t (passage h x d) told) in
    let more = verdicts_of (map shown (passages_of d.history d.emission ds)) in
    let both = length-append d.verdicts more in
    record {
      stays = all;
      told =
          subst (λ ps. IsToldCarry t bytes (bytes number) (map shown ps)) (sym is)
          (first, rest.told);
      notable =
          subst (λ ps. AreNotable t bytes (bytes number) (map shown ps)) (sym is)
          (noted, rest.notable);
      few =
          subst (λ ps. length (verdicts_of (map shown ps)) ≤ 2 * suc (length ds)) (sym is)
          (omega (arith, both, told.few, rest.few));
    }

pub all_carried_told : (t : Network) (step now most : ℕ) (h : History) (number : ℕ) → IsTopology t
    → Inv t h now step
    → CarryTold t h number (carried t step now most h number)
unfolding carried passed_on
all_carried_told t step now zero h number topology inv = none_carried t h number
all_carried_told t step now (suc most) h number topology inv =
    by (emission_at h.emissions number) refl
    (λ g after kept. all_carried_told t step now most g after topology kept)
  where
    by : (o : Option Emission) → emission_at h.emissions number ≡ o
        → ((g : History) (after : ℕ) → Inv t g now step
        → CarryTold t g after (carried t step now most g after))
        → (let d = option_map_or (λ e. pass_at t step now h e.place e.bytes) o (nothing h Full) in
        CarryTold t h number
        (d ∷ (if d.emission == 0 then [] else carried t step now most d.history d.emission)))
    by None e again = missing_carried t h number e
    by (Some x) e again =
        let fits = there_fits t h number x inv.sound.lawful.packets inv.places e in
        let d = pass_at t step now h x.place x.bytes in
        one_carried t h number x d _ e
        (passed_told t step now h x.place x.bytes fits.0 fits.1 inv.sound)
        (passed_stays t step now h x.place x.bytes fits.1)
        (cond_both (d.emission == 0) [] (carried t step now most d.history d.emission)
        (CarryTold t d.history d.emission)
        (λ _. none_carried t d.history d.emission)
        (λ _. again d.history d.emission
        (inv_passes t h now step x.place x.bytes topology fits.0 fits.1 inv)))

pub few_carried : (t : Network) (step now most : ℕ) (h : History) (number : ℕ)
    → length (carried t step now most h number) ≤ most
unfolding carried
few_carried t step now zero h number = omega arith
few_carried t step now (suc most) h number =
    let d = passed_on t step now h number in
    cond_both (d.emission == 0) [] (carried t step now most d.history d.emission)
    (λ ds. suc (length ds) ≤ suc most)
    (λ _. omega arith)
    (λ _. let rest = few_carried t step now most d.history d.emission in omega (arith, rest))
