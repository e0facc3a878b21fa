-- Destination fields that a packet's source made, sought along the events of a history.
use Rattle.std.proofs.Common.{◌≡◌, ℕ, zero, suc, ◌+◌, ◌≤◌, add-one, Bool, true, false, ◌||◌, List, [], ◌∷◌, length, drop, Option, Some, None, refl, sym, ap, ◌∙◌, arith}
use Rattle.std.specs.Prelude.{option_map, option_and_then, is_some, filter_map, slice_get}
use Rattle.std.specs.List.{list_any, cons_option}
use Rattle.std.specs.Option.{option_map_or}
use Rattle.std.proofs.lemmas.Option.{same_Some}
use Rattle.epic_num.specs.Chains.{Issue}
use Rattle.epic_num.specs.declared.name.HostId.{HostId}
use Rattle.epic_layout.specs.Contents.{Contents}
use Rattle.epic_topo.specs.Network.{Network}
use Rattle.epic_ledger.specs.History.{History}
use Rattle.epic_ledger.specs.Facts.{Sent, as_send, facts_of, sent_name}
use Rattle.epic_audit.specs.Made.{sent_update, sent_updates}
use Rattle.epic_index.specs.Events.{send_at}
use Rattle.epic_judging.specs.Given.{makes_dest, made_dest}
use Rattle.epic_judge.specs.Sendings.{makes_dest_by}
use Rattle.epic_judge.specs.Walks.{sends_from}

pub sourced : {X Y : Type 0} (v : X → Y) (o : Option X) → is_some (option_map v o) ≡ is_some o
sourced v None = refl
sourced v (Some x) = refl

-- ---- one event more

any_of : {X : Type 0} (q : X → Bool) (o : Option X) (xs : List X) → list_any q (cons_option o xs) ≡ (option_map_or q o false || list_any q xs)
any_of q None xs = refl
any_of q (Some x) xs = refl

any_from : {E X : Type 0} (g : E → Option X) (q : X → Bool) (es : List E) (n : ℕ)
    → list_any q (filter_map g (drop n es)) ≡ (option_map_or q (option_and_then g (slice_get es n)) false || list_any q (filter_map g (drop (suc n) es)))
any_from g q [] zero = refl
any_from g q [] (suc n) = refl
any_from g q (e ∷ es) zero = any_of q (g e) (filter_map g es)
any_from g q (e ∷ es) (suc n) = any_from g q es n

nothing_left : {E : Type 0} (es : List E) (n : ℕ) → length es ≤ n → drop n es ≡ []
nothing_left [] zero h = refl
nothing_left [] (suc n) h = refl
nothing_left (e ∷ es) zero h = absurd (omega arith)
nothing_left (e ∷ es) (suc n) h = nothing_left es n (omega arith)

any_left : {E X : Type 0} (g : E → Option X) (q : X → Bool) (es : List E) (n : ℕ) → length es ≤ n → list_any q (filter_map g (drop n es)) ≡ false
any_left g q es n h = rw (nothing_left es n h)

module _ (q : Sent → Bool) (h : History) (n : ℕ) (goal : Bool) (so_far : list_any q (sends_from h n) ≡ goal) where
  pub any_hit : true ≡ option_map_or q (send_at h n) false → true ≡ goal
  unfolding send_at
  any_hit is = ap (λ (b : Bool). b || list_any q (sends_from h (suc n))) is ∙ (sym (any_from (as_send h.emissions) q h.events n) ∙ so_far)

  pub any_next : false ≡ option_map_or q (send_at h n) false → list_any q (sends_from h (n + 1)) ≡ goal
  unfolding send_at
  any_next is = rw add-one (ap (λ (b : Bool). b || list_any q (sends_from h (suc n))) is ∙ (sym (any_from (as_send h.emissions) q h.events n) ∙ so_far))

  pub any_past : length h.events ≤ n → false ≡ goal
  any_past le = sym (any_left (as_send h.emissions) q h.events n le) ∙ so_far

pub made_first : (t : Network) (h : History) (dst src : HostId) (epoch : ℕ) (message : List ℕ)
    → list_any (makes_dest t (facts_of h).issues dst src epoch message) (sends_from h 0) ≡ made_dest t (facts_of h) dst src epoch message
unfolding made_dest facts_of
made_first t h dst src epoch message = refl

-- ---- an event

abbrev pub sending : Sent → ℕ × Contents
sending s = (s.emission, s.packet)

-- where it sent nothing
pub no_send : (q : Sent → Bool) (o : Option Sent) → None ≡ option_map sending o → false ≡ option_map_or q o false
no_send q None e = refl
no_send q (Some s) e = absurd (cc)

pub makes_by : (t : Network) (issues : List Issue) (dst src : HostId) (epoch : ℕ) (message : List ℕ) (o : Option Sent) (r : ℕ × Contents) (result : Bool) → Some r ≡ option_map sending o
    → result ≡ makes_dest_by t dst src epoch message r.1 (λ j. option_and_then (λ s. sent_name issues s j) o) → result ≡ option_map_or (makes_dest t issues dst src epoch message) o false
unfolding makes_dest sent_updates sent_update
makes_by t issues dst src epoch message None r result e is = absurd (cc)
makes_by t issues dst src epoch message (Some s) r result e is =
    is ∙ ap (λ (k : ℕ × Contents). makes_dest_by t dst src epoch message k.1 (λ j. sent_name issues s j)) (same_Some r (sending s) e)
