-- A reader's answers and what is to come after them.
use Rattle.std.proofs.Common.{◌≡◌, ℕ, ◌+◌, ◌-◌, ◌<◌, ◌≤◌, Bool, true, false, cond, List, [], ◌++◌, length, take, drop, Option, Some, None, Result, Ok, Err, ◌⊎◌, inl, inr, refl, ap, sym, ◌∙◌, subst, arith}
use Rattle.std.proofs.lemmas.List.{drop-append-le}
use Rattle.std.proofs.lemmas.Bool.{true≢false}
use Rattle.std.proofs.Common.{append-nil, length-drop}
use Rattle.epic_capture.specs.declared.damage.CaptureError.{CaptureError}
use Rattle.epic_capture.specs.declared.damage.CaptureKind.TheVariants.{Truncated}
use Rattle.epic_capture.specs.declared.format.Format.{Format}
use Rattle.epic_capture.specs.declared.found.Found.{Found}
use Rattle.epic_capture.specs.declared.progress.Progress.{Progress}
use Rattle.epic_capture.specs.Records.{damaged, with_record}
use Rattle.epic_capture.specs.Streams.{first, next, Follows}
use Rattle.epic_capture.specs.Capture.{damage, found_at, captured, head, most_records, records, records_from}
use Rattle.epic_capture.specs.Reading.{Reading, capture, begun, behind, is_truncated, passed}
use Rattle.epic_capture.specs.Steps.{answer_of, opening, opening_head, opened, opened_head, unread}
use Rattle.epic_capture.proofs.Results.{head_error, same_answer_error, none_not_error, none_not_answer, error_not_answer}
use Rattle.epic_capture.proofs.Longer.{head_longer, head_long, head_damage, found_early, found_fits, Fits}
use Rattle.epic_capture.proofs.ToCome.{record_held, damage_held, damage_next, end_held}

-- What an answer at damage says of what is to come.
pub record Stops (old new : Reading) (e : CaptureError) : Type 0 where
  pub same : (rest : List ℕ) → capture.to_come old rest ≡ capture.to_come new rest
  pub next : next capture old ≡ answer_of e
  pub fed : capture.fed new ≡ capture.fed old
  pub stays : (rest : List ℕ) → is_truncated e.kind ≡ false → capture.to_come new rest ≡ damaged e
  pub room : is_truncated e.kind ≡ true → length new.held < 16400
  pub limit : is_truncated e.kind ≡ true → capture.fed new ≤ 67108864

pub stops_follows : (old new : Reading) (e : CaptureError) → Stops old new e → Follows capture old (answer_of e) new
stops_follows old new e stops = by (is_truncated e.kind) refl
  where
    by : (b : Bool) → is_truncated e.kind ≡ b → Follows capture old (cond b (Ok None) (Err e)) new
    by true is = record {
      same = λ rest. stops.same rest;
      stays = λ e2 rest h. absurd (none_not_error e2 h);
      fed = stops.fed;
      again = λ h. ap (first (λ e. is_truncated e.kind)) (sym (stops.same [])) ∙ stops.next ∙ ap (λ (b : Bool). cond b (Ok None) (Err e)) is;
      room = λ h. stops.room is;
      limit = λ h. stops.limit is;
      fewer = λ x h. absurd (none_not_answer x h);
    }
    by false is = record {
      same = λ rest. stops.same rest ∙ stops.stays rest is;
      stays = λ e2 rest h. stops.stays rest is ∙ ap damaged (same_answer_error e e2 h);
      fed = stops.fed;
      again = λ h. absurd (none_not_error e (sym h));
      room = λ h. absurd (none_not_error e (sym h));
      limit = λ h. absurd (none_not_error e (sym h));
      fewer = λ x h. absurd (error_not_answer e x h);
    }

-- What is known once the file's header was read.
pub record Opens (old new : Reading) (p : Progress) : Type 0 where
  pub progress : new.progress ≡ Some p
  pub same : (rest : List ℕ) → capture.to_come old rest ≡ records_from p.left p.format p.offset (new.held ++ rest)
  pub fed : p.offset + length new.held ≡ capture.fed old
  pub fewer : length new.held ≤ length old.held
  pub limit : passed old.progress ≤ 67108864 → p.offset ≤ 67108864

-- the records behind the file's header
records_behind : (held : List ℕ) (format : Format) (rest : List ℕ) → head held ≡ Ok format → records (held ++ rest) ≡ records_from most_records format 24 (drop 24 held ++ rest)
unfolding records
records_behind held format rest is =
    let long = head_long held format is in
    rw (head_longer held rest long, is, drop-append-le 24 held rest long) refl

pub opens : (old : Reading) (p : Progress) → opening old ≡ Ok p → Opens old (opened old) p
opens old p h = by old.progress old.held h
  where
    head_opens : (held : List ℕ) (r : Result Format CaptureError) → head held ≡ r → opening_head r ≡ Ok p → Opens (record { progress = None; held = held }) (opened_head held r) p
    head_opens held (Err e) is h = absurd (cc)
    head_opens held (Ok format) is h =
        let long = head_long held format is in
        let less = length-drop 24 held in
        let p_is : begun format ≡ p = cc in
        let at : Opens (record { progress = None; held = held }) (record { progress = Some (begun format); held = drop 24 held }) (begun format) = record {
          progress = refl;
          same = λ rest. records_behind held format rest is;
          fed = omega (arith, less, long);
          fewer = omega (arith, less, long);
          limit = λ limit. omega arith;
        } in
        subst (Opens (record { progress = None; held = held }) (record { progress = Some (begun format); held = drop 24 held })) p_is at

    by : (progress : Option Progress) (held : List ℕ) → opening (record { progress = progress; held = held }) ≡ Ok p
        → Opens (record { progress = progress; held = held }) (opened (record { progress = progress; held = held })) p
    by None held h = head_opens held (head held) refl h
    by (Some q) held h =
        let same : q ≡ p = cc in
        let at : Opens (record { progress = Some q; held = held }) (record { progress = Some q; held = held }) q =
        record { progress = refl; same = λ rest. refl; fed = refl; fewer = omega arith; limit = λ limit. limit } in
        subst (Opens (record { progress = Some q; held = held }) (record { progress = Some q; held = held })) same at

-- damage in the file's header
pub open_stops : (old : Reading) (e : CaptureError) → opening old ≡ Err e → Stops old (opened old) e
unfolding records
open_stops old e h = by old.progress old.held h
  where
    same_opening : (e2 : CaptureError) → opening_head (Err e2) ≡ Err e → e2 ≡ e
    same_opening e2 h = cc

    by_damage : (held : List ℕ) → head held ≡ Err e → ((is_truncated e.kind ≡ true) × (length held < 24) × (e ≡ damage Truncated 0)) ⊎ ((is_truncated e.kind ≡ false) × (24 ≤ length held))
        → Stops (record { progress = None; held = held }) (record { progress = None; held = held }) e
    by_damage held is (inl short) = record {
      same = λ rest. refl;
      next = rw (append-nil, is) refl;
      fed = refl;
      stays = λ rest other. absurd (true≢false (sym short.0 ∙ other));
      room = λ early. omega (arith, short.1);
      limit = λ early. omega (arith, short.1);
    }
    by_damage held is (inr long) = record {
      same = λ rest. refl;
      next = rw (append-nil, is) refl;
      fed = refl;
      stays = λ rest other. rw (head_longer held rest long.1, is) refl;
      room = λ early. absurd (true≢false (sym early ∙ long.0));
      limit = λ early. absurd (true≢false (sym early ∙ long.0));
    }

    by_head : (held : List ℕ) (r : Result Format CaptureError) → head held ≡ r → opening_head r ≡ Err e → Stops (record { progress = None; held = held }) (opened_head held r) e
    by_head held (Ok format) is h = absurd (cc)
    by_head held (Err e2) is h =
        let same : head_error e2 ≡ head_error e = ap head_error (same_opening e2 h) in
        by_damage held (is ∙ same) (head_damage held e (is ∙ same))

    by : (progress : Option Progress) (held : List ℕ) → opening (record { progress = progress; held = held }) ≡ Err e
        → Stops (record { progress = progress; held = held }) (opened (record { progress = progress; held = held })) e
    by None held h = by_head held (head held) refl h
    by (Some q) held h = absurd (cc)

-- the same by the bytes that are held then
same_held : (old : Reading) (p : Progress) → Opens old (opened old) p → (held : List ℕ) → held ≡ (opened old).held
    → (rest : List ℕ) → capture.to_come old rest ≡ records_from p.left p.format p.offset (held ++ rest)
same_held old p open_ held held_is rest =
    open_.same rest ∙ ap (λ (xs : List ℕ). records_from p.left p.format p.offset (xs ++ rest)) (sym held_is)

-- damage of a record
pub found_stops : (old new : Reading) (p : Progress) (e : CaptureError) → new ≡ opened old → passed old.progress ≤ 67108864 → opening old ≡ Ok p
    → found_at p.format p.left p.offset new.held ≡ Err e → Stops old new e
found_stops old new p e new_is limit opening_is found_is =
    let open_ = opens old p opening_is in
    let held_is : new.held ≡ (opened old).held = ap (λ (s : Reading). s.held) new_is in
    let progress_is : new.progress ≡ Some p = ap (λ (s : Reading). s.progress) new_is ∙ open_.progress in
    by open_ new.progress new.held progress_is held_is found_is
  where
    by : Opens old (opened old) p → (progress : Option Progress) (held : List ℕ) → progress ≡ Some p → held ≡ (opened old).held → found_at p.format p.left p.offset held ≡ Err e
        → Stops old (record { progress = progress; held = held }) e
    by open_ progress held progress_is held_is found_is =
        let same : (rest : List ℕ) → capture.to_come old rest ≡ records_from p.left p.format p.offset (held ++ rest) = same_held old p open_ held held_is in
        let at : Stops old (record { progress = Some p; held = held }) e = record {
          same = same;
          next = ap (first (λ e. is_truncated e.kind)) (same []) ∙ damage_next p.left p.format p.offset held e found_is;
          fed = ap (λ (xs : List ℕ). p.offset + length xs) held_is ∙ open_.fed;
          stays = λ rest other. damage_held p.left p.format p.offset held e rest found_is other;
          room = λ early. (found_early p.format p.left p.offset held e found_is early).few;
          limit = λ early. (found_early p.format p.left p.offset held e found_is early).limit (open_.limit limit);
        } in
        subst (λ (o : Option Progress). Stops old (record { progress = o; held = held }) e) (sym progress_is) at

-- What is known once a record was found.
pub record Gives (old : Reading) (p : Progress) (held : List ℕ) (found : Found) : Type 0 where
  pub next : next capture old ≡ Ok (Some (captured found (take found.len held)))
  pub follows : Follows capture old (Ok (Some (captured found (take found.len held)))) (record { progress = Some (behind p found.len); held = drop found.len held })
  pub fits : Fits p.left p.offset (length held) found
  pub limit : p.offset ≤ 67108864

pub found_gives : (old new : Reading) (p : Progress) (found : Found) → new ≡ opened old → passed old.progress ≤ 67108864 → opening old ≡ Ok p
    → found_at p.format p.left p.offset new.held ≡ Ok found → Gives old p new.held found
found_gives old new p found new_is limit opening_is found_is =
    by (opens old p opening_is) new.held (ap (λ (s : Reading). s.held) new_is) found_is
  where
    by : Opens old (opened old) p → (held : List ℕ) → held ≡ (opened old).held → found_at p.format p.left p.offset held ≡ Ok found → Gives old p held found
    by open_ held held_is found_is =
        let fits = found_fits p.format p.left p.offset held found found_is in
        let less = length-drop found.len held in
        let len_is : length held ≡ length (opened old).held = ap length held_is in
        let same : (rest : List ℕ) → capture.to_come old rest
        ≡ with_record (captured found (take found.len held)) (records_from (p.left - 1) p.format (p.offset + found.len) (drop found.len held ++ rest))
        = λ rest. same_held old p open_ held held_is rest ∙ record_held p.left p.format p.offset held found rest found_is in
        record {
          next = ap (first (λ e. is_truncated e.kind)) (same []);
          follows = record {
            same = same;
            stays = λ e rest h. absurd (cc);
            fed = omega (arith, less, fits.there, len_is, open_.fed);
            again = λ h. absurd (cc);
            room = λ h. absurd (cc);
            limit = λ h. absurd (cc);
            fewer = λ x h. omega (arith, less, fits.there, fits.header, len_is, open_.fewer);
          };
          fits = fits;
          limit = open_.limit limit;
        }

-- The end of a file, by what is known there.
pub ends_behind : (s : Reading) (p : Progress) → s.progress ≡ Some p → next capture s ≡ Ok None
    → capture.to_come s [] ≡ record { items = []; damage = unread p.offset (length s.held) }
ends_behind s p is h = by s.progress is h
  where
    by : (o : Option Progress) → o ≡ Some p → next capture (record { progress = o; held = s.held }) ≡ Ok None
        → capture.to_come (record { progress = o; held = s.held }) [] ≡ record { items = []; damage = unread p.offset (length s.held) }
    by o is =
        let P : Option Progress → Type 0 = λ o. next capture (record { progress = o; held = s.held }) ≡ Ok None
        → capture.to_come (record { progress = o; held = s.held }) [] ≡ record { items = []; damage = unread p.offset (length s.held) } in
        subst P (sym is) (end_held p.left p.format p.offset s.held)

pub ends_in_head : (s : Reading) (format : Format) → s.progress ≡ None → head s.held ≡ Ok format → next capture s ≡ Ok None
    → capture.to_come s [] ≡ record { items = []; damage = unread 24 (length s.held - 24) }
ends_in_head s format none is = by s.progress none
  where
    at : next capture (record { progress = None; held = s.held }) ≡ Ok None
        → records (s.held ++ []) ≡ record { items = []; damage = unread 24 (length s.held - 24) }
    at h =
        let behind_ = records_behind s.held format [] is in
        let ends = end_held most_records format 24 (drop 24 s.held) (sym (ap (first (λ e. is_truncated e.kind)) behind_) ∙ h) in
        behind_ ∙ ends ∙ ap (λ (n : ℕ). record { items = []; damage = unread 24 n }) (length-drop 24 s.held)

    by : (o : Option Progress) → o ≡ None → next capture (record { progress = o; held = s.held }) ≡ Ok None
        → capture.to_come (record { progress = o; held = s.held }) [] ≡ record { items = []; damage = unread 24 (length s.held - 24) }
    by o none =
        let P : Option Progress → Type 0 = λ o. next capture (record { progress = o; held = s.held }) ≡ Ok None
        → capture.to_come (record { progress = o; held = s.held }) [] ≡ record { items = []; damage = unread 24 (length s.held - 24) } in
        subst P (sym none) at

pub ends_damaged : (s : Reading) (e : CaptureError) → s.progress ≡ None → head s.held ≡ Err e → capture.to_come s [] ≡ damaged e
unfolding records
ends_damaged s e none is =
    let P : Option Progress → Type 0 = λ o. capture.to_come (record { progress = o; held = s.held }) [] ≡ damaged e in
    subst P (sym none) (rw (append-nil, is) refl)
