-- How much a ledger grows by a carry, and what goes on to stand for it.
use Rattle.std.proofs.Common.{◌≡◌, ◌≢◌, ℕ, zero, suc, List, [], Option, None, Some, refl, ◌∙◌, arith}
use Rattle.std.specs.Prelude.{◌==◌}
use Rattle.std.specs.Option.{option_map_or}
use Rattle.std.proofs.lemmas.Bool.{cond_both, eq-eqb}
use Rattle.epic_num.specs.declared.passed.Place.{Place}
use Rattle.epic_num.specs.declared.passed.Place.TheVariants.{Router, Host}
use Rattle.epic_num.specs.declared.passed.PassResult.TheVariants.{Full}
use Rattle.epic_layout.specs.Reading.{IsRead}
use Rattle.epic_topo.specs.Lawful.{IsTopology}
use Rattle.epic_topo.specs.Network.{Network}
use Rattle.epic_ledger.specs.History.{History, Emission, emission_at}
use Rattle.epic_model.specs.Keeping.{Inv, IsDue}
use Rattle.epic_model.specs.Passing.{Happened, nothing, pass_at, passed_on, carried, last_history}
use Rattle.epic_model.proofs.InvKept.{inv_passes, there_fits}
use Rattle.epic_actors.specs.Sources.{SourcesStandOn, KeysStandOn}
use Rattle.epic_actors.proofs.SendersLast.{senders_stand_by_turns, senders_stand_by_arrivals}
use Rattle.epic_world.proofs.Carried.{no_emission}
use Rattle.epic_world.proofs.Grown.{Grows, grows_none, turned_grows, arrived_grows}

-- the later ledger has grown, and sources and keys go on to stand for it
pub record GoesOnTo (t : Network) (more : ℕ) (before after : History) : Type 0 where
  pub grows : Grows t more before after
  pub sources : SourcesStandOn before after
  pub keys : KeysStandOn before after

goes_none : (t : Network) (more : ℕ) (h : History) → GoesOnTo t more h h
goes_none t more h = record { grows = grows_none t more h; sources = λ table s. s; keys = λ keys s. s }

more_yet : (t : Network) (h g : History) → GoesOnTo t 0 h g → GoesOnTo t 1 h g
more_yet t h g o =
    let events = o.grows.events in
    record { grows = record { stored = o.grows.stored; events = omega (arith, events); emissions = o.grows.emissions; bytes = o.grows.bytes }; sources = o.sources; keys = o.keys }

then_on : (t : Network) (h g k : History) → GoesOnTo t 0 h g → GoesOnTo t 1 g k → GoesOnTo t 1 h k
then_on t h g k o p =
    let first = o.grows.events in
    let second = p.grows.events in
    record {
      grows = record {
        stored = p.grows.stored ∙ o.grows.stored;
        events = omega (arith, first, second);
        emissions = λ few. p.grows.emissions (o.grows.emissions few);
        bytes = λ few. p.grows.bytes (o.grows.bytes few);
      };
      sources = λ table s. p.sources table (o.sources table s);
      keys = λ keys s. p.keys keys (o.keys keys s);
    }

-- one place: where it makes an emission, no event is one too many
record OnePlace (t : Network) (now step : ℕ) (h : History) (d : Happened) : Type 0 where
  inv : Inv t d.history now step
  one : GoesOnTo t 1 h d.history
  none : d.emission ≢ 0 → GoesOnTo t 0 h d.history

place_goes : (t : Network) (step now : ℕ) (h : History) (place : Place) (bytes : List ℕ) → IsTopology t → IsDue t place → IsRead bytes
    → Inv t h now step → OnePlace t now step h (pass_at t step now h place bytes)
unfolding pass_at
place_goes t step now h (Router a iface) bytes topology due read inv =
    let senders = senders_stand_by_turns t step now h a iface bytes read inv.sound.lawful in
    let goes : GoesOnTo t 0 h _ = record { grows = turned_grows t step now h a iface bytes read; sources = senders.0; keys = senders.1 } in
    record { inv = inv_passes t h now step (Router a iface) bytes topology due read inv; one = more_yet t h _ goes; none = λ _. goes }
place_goes t step now h (Host d) bytes topology due read inv =
    let senders = senders_stand_by_arrivals t step now h d bytes in
    record {
      inv = inv_passes t h now step (Host d) bytes topology due read inv;
      one = record { grows = arrived_grows t step now h d bytes; sources = senders.0; keys = senders.1 };
      none = λ some. absurd (some (no_emission t step now h d bytes));
    }

passed_goes : (t : Network) (step now : ℕ) (h : History) (number : ℕ) → IsTopology t → Inv t h now step → OnePlace t now step h (passed_on t step now h number)
unfolding passed_on
passed_goes t step now h number topology inv = by (emission_at h.emissions number) refl
  where
    by : (o : Option Emission) → emission_at h.emissions number ≡ o → OnePlace t now step h (option_map_or (λ e. pass_at t step now h e.place e.bytes) o (nothing h Full))
    by None e = record { inv = inv; one = goes_none t 1 h; none = λ some. absurd (some refl) }
    by (Some x) e =
        let fits = there_fits t h number x inv.sound.lawful.packets inv.places e in
        place_goes t step now h x.place x.bytes topology fits.0 fits.1 inv

pub carried_goes : (t : Network) (step now most : ℕ) (h : History) (number : ℕ) → IsTopology t → Inv t h now step
    → GoesOnTo t 1 h (last_history h (carried t step now most h number))
unfolding carried
carried_goes t step now zero h number topology inv = goes_none t 1 h
carried_goes t step now (suc most) h number topology inv =
    let d = passed_on t step now h number in
    let p = passed_goes t step now h number topology inv in
    cond_both (d.emission == 0) [] (carried t step now most d.history d.emission) (λ ds. GoesOnTo t 1 h (last_history d.history ds))
    (λ _. p.one)
    (λ some. then_on t h d.history (last_history d.history (carried t step now most d.history d.emission))
    (p.none (λ z. (let y = eq-eqb d.emission 0 z in absurd (cc))))
    (carried_goes t step now most d.history d.emission topology p.inv))
