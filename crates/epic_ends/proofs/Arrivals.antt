-- What a destination takes is right.
use Rattle.std.proofs.Common.{◌≡◌, ℕ, true, List, [], ◌++◌, Option, None, Some, Ok, Err, refl, ap, sym, subst, ◌∙◌}
use Rattle.std.specs.Prelude.{option_map, if◌then◌else◌}
use Rattle.std.proofs.lemmas.Bool.{not-false, eqb-true, cond-true, cond_both}
use Rattle.std.proofs.lemmas.Slice.Eq.{bytes_eq-Decides}
use Rattle.epic_num.specs.declared.arrival.Arrival.{Arrival}
use Rattle.epic_num.specs.declared.arrival.Arrival.TheVariants.{Accepted, Unchecked, Refused}
use Rattle.epic_num.specs.declared.arrival.DestCheck.{DestCheck}
use Rattle.epic_num.specs.declared.arrival.DestCheck.TheVariants.{Layout}
use Rattle.epic_num.specs.declared.layout_error.LayoutError.{LayoutError}
use Rattle.epic_num.specs.declared.name.HostId.{HostId}
use Rattle.epic_num.specs.Levels.{is_first_byte, is_tagged}
use Rattle.epic_num.specs.Tables.{first_row, unless as passed}
use Rattle.epic_num.specs.Windows.{Told, fresh_rows, window_rows}
use Rattle.epic_num.proofs.SameLaws.{same_host-Decides}
use Rattle.epic_num.proofs.TableLaws.{row_passed, all_passed, unless_ok}
use Rattle.epic_layout.specs.Contents.{Contents}
use Rattle.epic_layout.specs.Layout.{fault, parse}
use Rattle.epic_layout.specs.Updates.{own_updates}
use Rattle.epic_topo.specs.Network.{Network}
use Rattle.epic_fields.specs.PacketTags.{dest_field_of}
use Rattle.epic_window.specs.Offers.{Held}
use Rattle.epic_ends.specs.Arriving.{end_rows, dest_field_fits, tagged_rows, rows, unless, arrived, arrival_of}
use Rattle.epic_ends.specs.Destinations.{told_at}
use Rattle.epic_ends.specs.RightArrivals.{IsAtEnd, IsChecked, IsRightArrival, ArrivalsAreRight}

-- an error that is told is the one there was
unless_err : {X E : Type 0} (error : Option E) (x : X) (e : E) → passed error x ≡ Err e → error ≡ Some e
unless_err None x e h = absurd (cc)
unless_err (Some error) x e h = cc

if_refused : (P : Arrival → Type 0) (o : Option DestCheck) (answer : Arrival) → ((check : DestCheck) → P (Refused check)) → (o ≡ None → P answer) → P (unless o answer)
if_refused P None answer refused taken = taken refl
if_refused P (Some check) answer refused taken = refused check

no_fault : (o : Option LayoutError) → option_map (λ e. Layout e) o ≡ None → o ≡ None
no_fault None e = refl
no_fault (Some x) e = absurd (cc)

at_end : (d : HostId) (bytes : List ℕ) → fault is_first_byte bytes ≡ None → first_row (end_rows d (parse bytes)) ≡ None → IsAtEnd d bytes
unfolding end_rows
at_end d bytes faultless none =
    let p = parse bytes in
    let host = row_passed _ _ none in
    let ended = row_passed _ _ host.1 in
    record {
      faultless = faultless;
      host_is = (same_host-Decides p.dst d).0 (not-false _ host.0);
      ended = eqb-true _ _ (not-false _ ended.0);
    }

checked : (t : Network) (now : ℕ) (told : Told) (p : Contents) → is_tagged p.first ≡ true → first_row (tagged_rows t now told p) ≡ None → IsChecked t now told p
unfolding tagged_rows fresh_rows window_rows dest_field_fits
checked t now told p tagged none =
    let stale = row_passed _ _ none in
    let early = row_passed _ _ stale.1 in
    let field = row_passed _ _ early.1 in
    let here = row_passed _ _ field.1 in
    let room = row_passed _ _ here.1 in
    record {
      tagged = tagged;
      not_stale = stale.0;
      not_early = early.0;
      dest_field_right = (bytes_eq-Decides p.dest_field (dest_field_of t p (own_updates p))).0 (not-false _ field.0);
      unseen = here.0;
      room = room.0;
    }

pub arrivals_are_right : ArrivalsAreRight
unfolding arrival_of arrived rows
arrivals_are_right t d now told bytes =
    let p = parse bytes in
    let Right = IsRightArrival t d now told bytes in
    let more = if is_tagged p.first then tagged_rows t now told p else [] in
    if_refused Right (option_map (λ e. Layout e) (fault is_first_byte bytes)) (arrived t d now told p) (λ _. tt)
    (λ e. if_refused Right (first_row (end_rows d p ++ more)) (if is_tagged p.first then Accepted else Unchecked) (λ _. tt)
    (λ none. (let parts = all_passed (end_rows d p) more none in
    let end = at_end d bytes (no_fault _ e) parts.0 in
    cond_both (is_tagged p.first) Accepted Unchecked Right
    (λ tagged. (end, checked t now told p tagged (ap first_row (sym (cond-true (is_tagged p.first) (tagged_rows t now told p) [] tagged)) ∙ parts.1)))
    (λ untagged. (end, untagged)))))

-- ---- the packet of bytes without a fault, and bytes with one

-- what is answered to the packet is answered to the bytes
pub answered_to : (t : Network) (d : HostId) (window : Held) (now : ℕ) (bytes : List ℕ) (p : Contents) (given : Arrival)
    → Ok p ≡ passed (fault is_first_byte bytes) (parse bytes)
    → given ≡ arrived t d now (told_at window now p) p
    → given ≡ arrival_of t d now (told_at window now (parse bytes)) bytes
unfolding arrival_of
answered_to t d window now bytes p given is e =
    let parts = unless_ok (fault is_first_byte bytes) (parse bytes) p (sym is) in
    e
    ∙ (ap (λ (q : Contents). arrived t d now (told_at window now q) q) (sym parts.1)
    ∙ sym (ap (λ o. unless (option_map (λ e. Layout e) o) (arrived t d now (told_at window now (parse bytes)) (parse bytes))) parts.0))

-- the first fault is told
pub fault_told : (t : Network) (d : HostId) (now : ℕ) (told : Told) (bytes : List ℕ) (e : LayoutError)
    → Err e ≡ passed (fault is_first_byte bytes) (parse bytes)
    → Refused (Layout e) ≡ arrival_of t d now told bytes
unfolding arrival_of
fault_told t d now told bytes e is =
    sym (ap (λ o. unless (option_map (λ e. Layout e) o) (arrived t d now told (parse bytes))) (unless_err (fault is_first_byte bytes) (parse bytes) e (sym is)))

-- so it is right
pub right_answer : (t : Network) (d : HostId) (now : ℕ) (told : Told) (bytes : List ℕ) (given : Arrival)
    → given ≡ arrival_of t d now told bytes → IsRightArrival t d now told bytes given
right_answer t d now told bytes given e = subst (IsRightArrival t d now told bytes) (sym e) (arrivals_are_right t d now told bytes)
