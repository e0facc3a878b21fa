-- What events say of sent packets.
use Rattle.std.proofs.Common.{◌≡◌, ℕ, zero, suc, ◌≤◌, length, drop, arith, Bool, false, ◌||◌, List, [], ◌∷◌, take, Option, Some, None, refl, ap, sym, ◌∙◌}
use Rattle.std.specs.Prelude.{filter_map, slice_get}
use Rattle.std.specs.List.{list_any, cons_option}
use Rattle.std.specs.Borrow.{Bor}
use Rattle.std.specs.Option.{option_map_or, option_copied}
use Rattle.epic_num.specs.declared.hop.HopName.{HopName}
use Rattle.epic_num.specs.declared.key_name.Holder.{Holder}
use Rattle.epic_num.specs.Chains.{Issue}
use Rattle.epic_ledger.specs.History.{History, Emission}
use Rattle.epic_ledger.specs.Facts.{as_send, facts_of, issues_in}
use Rattle.epic_ledger.specs.Lawful.{Fits, IsLawful}
use Rattle.epic_ledger.specs.declared.event.Event.{Event}
use Rattle.epic_ledger.specs.declared.event.Event.TheVariants as event
use Rattle.epic_holders.specs.Found.{SendFits, is_sender_at}
use Rattle.epic_holders.specs.Holders.{is_sender}

fits_of : (es : List Emission) (issues : List Issue) (e : Event) → Fits es issues e → SendFits es e
fits_of es issues (event.Issue step number name parent) h = tt
fits_of es issues (event.Fetch step source owner epoch) h = tt
fits_of es issues (event.Send step emission segments) h = h.there
fits_of es issues (event.Pass step a hop generation emission) h = tt
fits_of es issues (event.Arrive step host src ts hops checked) h = tt
fits_of es issues (event.Reveal step holder) h = tt
fits_of es issues (event.Roll step a generation) h = tt

pub event_fits : (h : History) (n : ℕ) (r : Option (Bor Event)) (e : Bor Event) → IsLawful h → option_copied r ≡ slice_get h.events n → r ≡ Some e
    → SendFits h.emissions e.now
event_fits h n r e lawful at is =
    fits_of h.emissions (issues_in (take n h.events)) e.now (lawful.fit n e.now (sym at ∙ ap option_copied is))

any_answer : {X Y : Type 0} (h : X → Option Y) (q : Y → Bool) (xs : List X) → list_any (λ x. option_map_or q (h x) false) xs ≡ list_any q (filter_map h xs)
any_answer h q [] = refl
any_answer {X} {Y} h q (x ∷ xs) = by (h x) (any_answer h q xs)
  where
    by : (o : Option Y) → list_any (λ y. option_map_or q (h y) false) xs ≡ list_any q (filter_map h xs)
        → (option_map_or q o false || list_any (λ y. option_map_or q (h y) false) xs) ≡ list_any q (cons_option o (filter_map h xs))
    by None rest = rest
    by (Some y) rest = ap (λ (b : Bool). q y || b) rest

pub nothing_left : {X : Type 0} (xs : List X) (k : ℕ) → length xs ≤ k → drop k xs ≡ []
nothing_left [] zero h = refl
nothing_left [] (suc k) h = refl
nothing_left (x ∷ xs) zero h = absurd (omega arith)
nothing_left (x ∷ xs) (suc k) h = nothing_left xs k (omega arith)

-- where a walk is at the end and has found none, there is none
pub none_left : {X : Type 0} (p : X → Bool) (xs : List X) (k : ℕ) → length xs ≤ k → list_any p (drop k xs) ≡ list_any p xs → list_any p xs ≡ false
none_left p xs k over so_far = sym so_far ∙ ap (list_any p) (nothing_left xs k over)

-- some event says that the holder sent a packet over x exactly where some sent packet is the holder's over x
pub senders_are : (h : History) (x : HopName) (holder : Holder)
    → list_any (is_sender_at (facts_of h).issues x holder h.emissions) h.events ≡ list_any (is_sender (facts_of h).issues x holder) (facts_of h).sends
unfolding is_sender_at facts_of
senders_are h x holder = any_answer (as_send h.emissions) (is_sender (issues_in h.events) x holder) h.events
