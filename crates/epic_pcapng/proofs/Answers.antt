-- A reader's answers and what is to come after them.
use Rattle.std.proofs.Common.{◌≡◌, ℕ, ◌+◌, ◌<◌, ◌≤◌, Bool, true, false, cond, List, [], length, Option, Some, None, Result, Ok, Err, refl, ap, sym, ◌∙◌, subst, arith}
use Rattle.epic_capture.specs.Records.{Captured, damaged}
use Rattle.epic_capture.specs.Streams.{first, next, Follows}
use Rattle.epic_pcapng.specs.declared.damage.NgError.{NgError}
use Rattle.epic_pcapng.specs.declared.packet.Found.{Found}
use Rattle.epic_pcapng.specs.Damage.{is_truncated}
use Rattle.epic_pcapng.specs.Grammar.{captured}
use Rattle.epic_pcapng.specs.Reading.{Reading, ngcapture}
use Rattle.epic_pcapng.specs.Steps.{answer_of, IsSound, Moves, Stops, Gives, StepsTo}
use Rattle.epic_pcapng.proofs.Results.{same_answer_error, none_not_error, none_not_answer, error_not_answer}

-- Some blocks were passed without a record.
pub record Advances (old now : Reading) : Type 0 where
  pub same : (rest : List ℕ) → ngcapture.to_come old rest ≡ ngcapture.to_come now rest
  pub fed : ngcapture.fed now ≡ ngcapture.fed old
  pub fewer : length now.held ≤ length old.held
  pub sound : IsSound now

pub advances_none : (s : Reading) → IsSound s → Advances s s
advances_none s sound = record { same = λ rest. refl; fed = refl; fewer = omega arith; sound = sound }

pub advances_more : (old now new : Reading) → Advances old now → Moves now new → IsSound new → Advances old new
advances_more old now new so_far moves sound = record {
  same = λ rest. so_far.same rest ∙ moves.same rest;
  fed = moves.fed ∙ so_far.fed;
  fewer = omega (arith, so_far.fewer, moves.fewer);
  sound = sound;
}

pub stop_next : (old now : Reading) (e : NgError) → Advances old now → Stops now e → next ngcapture old ≡ answer_of e
stop_next old now e so_far stops = ap (first (λ e. is_truncated e.kind)) (so_far.same []) ∙ stops.next

pub stop_follows : (old now : Reading) (e : NgError) → Advances old now → Stops now e → Follows ngcapture old (answer_of e) now
stop_follows old now e so_far stops = by (is_truncated e.kind) refl
  where
    by : (b : Bool) → is_truncated e.kind ≡ b → Follows ngcapture old (cond b (Ok None) (Err e)) now
    by true is = record {
      same = λ rest. so_far.same rest;
      stays = λ e2 rest h. absurd (none_not_error e2 h);
      fed = so_far.fed;
      again = λ h. stops.next ∙ ap (λ (b : Bool). cond b (Ok None) (Err e)) is;
      room = λ h. stops.room is;
      limit = λ h. stops.limit is;
      fewer = λ x h. absurd (none_not_answer x h);
    }
    by false is = record {
      same = λ rest. so_far.same rest ∙ stops.stays rest is;
      stays = λ e2 rest h. stops.stays rest is ∙ ap damaged (same_answer_error e e2 h);
      fed = so_far.fed;
      again = λ h. absurd (none_not_error e (sym h));
      room = λ h. absurd (none_not_error e (sym h));
      limit = λ h. absurd (none_not_error e (sym h));
      fewer = λ x h. absurd (error_not_answer e x h);
    }

pub give_next : (old now new : Reading) (x : Captured) → Advances old now → Gives now x new → next ngcapture old ≡ Ok (Some x)
give_next old now new x so_far gives = ap (first (λ e. is_truncated e.kind)) (so_far.same [] ∙ gives.same [])

pub give_follows : (old now new : Reading) (x : Captured) → Advances old now → Gives now x new → Follows ngcapture old (Ok (Some x)) new
give_follows old now new x so_far gives = record {
  same = λ rest. so_far.same rest ∙ gives.same rest;
  stays = λ e rest h. absurd (error_not_answer e x (sym h));
  fed = gives.fed ∙ so_far.fed;
  again = λ h. absurd (none_not_answer x (sym h));
  room = λ h. absurd (none_not_answer x (sym h));
  limit = λ h. absurd (none_not_answer x (sym h));
  fewer = λ y h. omega (arith, so_far.fewer, gives.fewer);
}

-- The step at which no more can be read.
pub stop_all : (old now new : Reading) (e : NgError) (r : Result (Option Found) NgError) (last : List ℕ) → r ≡ Err e → Advances old now → StepsTo now r last new
    → (next ngcapture old ≡ answer_of e) × Follows ngcapture old (answer_of e) new
stop_all old now new e r last is so_far steps =
    let stops : (new ≡ now) × Stops now e = subst (λ (r : Result (Option Found) NgError). StepsTo now r last new) is steps in
    (stop_next old now e so_far stops.1, subst (λ (n : Reading). Follows ngcapture old (answer_of e) n) (sym stops.0) (stop_follows old now e so_far stops.1))

-- What a packet's step gives.
pub record GivesAll (old new : Reading) (found : Found) (last : List ℕ) : Type 0 where
  pub next : next ngcapture old ≡ Ok (Some (captured found last))
  pub follows : Follows ngcapture old (Ok (Some (captured found last))) new
  pub there : found.start + found.len ≤ length last

pub give_all : (old now new : Reading) (found : Found) (r : Result (Option Found) NgError) (last : List ℕ) → r ≡ Ok (Some found) → Advances old now → StepsTo now r last new
    → GivesAll old new found last
give_all old now new found r last is so_far steps =
    let gives : Gives now (captured found last) new × (found.start + found.len ≤ length last) = subst (λ (r : Result (Option Found) NgError). StepsTo now r last new) is steps in
    record { next = give_next old now new (captured found last) so_far gives.0; follows = give_follows old now new (captured found last) so_far gives.0; there = gives.1 }

-- The step of a block without a record.
pub move_on : (old now new : Reading) (r : Result (Option Found) NgError) (last : List ℕ) → r ≡ Ok None → Advances old now → StepsTo now r last new → IsSound new
    → Advances old new
move_on old now new r last is so_far steps sound =
    let moves : Moves now new = subst (λ (r : Result (Option Found) NgError). StepsTo now r last new) is steps in
    advances_more old now new so_far moves sound

pub move_less : (now new : Reading) (r : Result (Option Found) NgError) (last : List ℕ) → r ≡ Ok None → StepsTo now r last new → length new.held < length now.held
move_less now new r last is steps =
    let moves : Moves now new = subst (λ (r : Result (Option Found) NgError). StepsTo now r last new) is steps in
    moves.fewer
