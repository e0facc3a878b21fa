-- Policers as time passes and packets are offered.
use Rattle.std.proofs.Common.{◌≡◌, ◌⊎◌, ℕ, ◌+◌, ◌<◌, ◌≤◌, inl, inr, List, [], ◌∷◌, ◌++◌, length, map, take, get_or, Option, Some, None, Result, Ok, Err, OnOk, refl, ap, ◌∙◌, append-nil, take_all, arith}
use Rattle.std.specs.Prelude.{option_map, slice_get, unwrap_or}
use Rattle.std.proofs.lemmas.List.{map-append, take_more}
use Rattle.std.proofs.lemmas.Option.{get_or_from_slice_get, slice_get_cases, slice_get_within}
use Rattle.std.proofs.lemmas.List.Concat.{flat_map-append}
use Rattle.epic_num.specs.declared.name.AsId.{AsId}
use Rattle.epic_topo.specs.Network.{Network, as_at}
use Rattle.epic_topo.specs.declared.network.System.{System}
use Rattle.epic_policer.specs.Offers.{Policy}
use Rattle.epic_policer.specs.Policing.{Offer, Policing as Policers, StandFor}
use Rattle.epic_words.specs.Request.{Policing}
use Rattle.epic_world.specs.Run.{Done}
use Rattle.epic_app.specs.Noting.{offers_in, offers_of, policy_of}
use Rattle.epic_app.specs.Policed.{ArePoliced}

-- a later moment is later than all offers too
pub police_later : (t : Network) (set : Option Policing) (p : Option Policers) (offers : List Offer) (m n : ℕ) → m ≤ n
    → ArePoliced t set p offers m → ArePoliced t set p offers n
police_later t None None offers m n later policed = tt
police_later t None (Some p) offers m n later policed = absurd policed
police_later t (Some set) None offers m n later policed = absurd policed
police_later t (Some set) (Some p) offers m n later (stand, latest) = (stand, omega (arith, latest, later))

-- the offers of one step more
pub offers_last : (before : List Done) (d : Done) → offers_of (before ++ d ∷ []) ≡ offers_of before ++ offers_in d
unfolding offers_of
offers_last before d =
    flat_map-append offers_in before (d ∷ []) ∙ ap (λ more. offers_of before ++ more) (append-nil (offers_in d))

-- where packets aren't policed nothing is asked
pub unpoliced : (t : Network) (p : Option Policers) (offers more : List Offer) (m n : ℕ)
    → ArePoliced t None p offers m → ArePoliced t None p more n
unpoliced t None offers more m n policed = tt
unpoliced t (Some p) offers more m n policed = absurd policed

-- the last offer wasn't later
pub latest_is : (t : Network) (set : Option Policing) (p : Policers) (offers : List Offer) (now : ℕ)
    → ArePoliced t set (Some p) offers now → p.latest ≤ now
latest_is t None p offers now policed = absurd policed
latest_is t (Some set) p offers now (stand, latest) = latest

-- one offer more
pub offered_more : (t : Network) (set : Option Policing) (old new : Policers) (offers : List Offer) (o : Offer) (now : ℕ)
    → ArePoliced t set (Some old) offers now
    → ((policy : Policy) (os : List Offer) → StandFor old policy os → StandFor new policy (os ++ o ∷ []))
    → new.latest ≤ now → ArePoliced t set (Some new) (offers ++ o ∷ []) now
offered_more t None old new offers o now policed stands later = absurd policed
offered_more t (Some set) old new offers o now (stand, latest) stands later = (stands (policy_of t set) offers stand, later)

pub when_ok : {X E P : Type 0} (r : Result X E) → P → OnOk r P
when_ok (Ok x) holds = holds
when_ok (Err e) holds = tt

-- ---- the ASes of a topology, one after the other

pub as_here : (t : Network) (i : ℕ) (a : AsId) → as_at t i ≡ Some a
    → map (λ s. s.asn) (take (i + 1) t.systems) ≡ map (λ s. s.asn) (take i t.systems) ++ a ∷ []
unfolding as_at
as_here t i a is = by (slice_get t.systems i) refl is
  where
    by : (o : Option System) → slice_get t.systems i ≡ o → option_map (λ s. s.asn) o ≡ Some a
        → map (λ s. s.asn) (take (i + 1) t.systems) ≡ map (λ s. s.asn) (take i t.systems) ++ a ∷ []
    by None e is = absurd (cc)
    by (Some s) e is =
        let within = slice_get_within t.systems i s e in
        ap (map (λ s. s.asn)) (take_more t.systems i s within ∙ ap (λ x. take i t.systems ++ x ∷ []) (get_or_from_slice_get t.systems i s s e))
        ∙ (map-append (λ s. s.asn) (take i t.systems) (s ∷ []) ∙ ap (λ o. map (λ s. s.asn) (take i t.systems) ++ unwrap_or o a ∷ []) is)

pub as_past : (t : Network) (i : ℕ) → as_at t i ≡ None → map (λ s. s.asn) (take i t.systems) ≡ map (λ s. s.asn) t.systems
unfolding as_at
as_past t i is = by (slice_get t.systems i) refl is
  where
    by : (o : Option System) → slice_get t.systems i ≡ o → option_map (λ s. s.asn) o ≡ None
        → map (λ s. s.asn) (take i t.systems) ≡ map (λ s. s.asn) t.systems
    by (Some s) e is = absurd (cc)
    by None e is = past (slice_get_cases t.systems i).1
      where
        past : ((x : System) × (i < length t.systems) × (slice_get t.systems i ≡ Some x) × (get_or t.systems i x ≡ x)) ⊎ ((length t.systems ≤ i) × (slice_get t.systems i ≡ None))
            → map (λ s. s.asn) (take i t.systems) ≡ map (λ s. s.asn) t.systems
        past (inl (x, within, there, same)) = absurd (cc)
        past (inr (beyond, none)) = ap (map (λ s. s.asn)) (take_all i t.systems beyond)

pub as_all : (t : Network) (i : ℕ) → length t.systems ≤ i → map (λ s. s.asn) (take i t.systems) ≡ map (λ s. s.asn) t.systems
as_all t i past = ap (map (λ s. s.asn)) (take_all i t.systems past)
