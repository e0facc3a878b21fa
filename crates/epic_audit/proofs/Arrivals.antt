-- What the answers about a packet at its destination tell.
use Rattle.std.proofs.Common.{◌≡◌, ℕ, ◌+◌, ◌<◌, Bool, true, false, ◌||◌, not, List, length, refl, ap, sym, ◌∙◌, subst, arith, inl, inr}
use Rattle.std.specs.Prelude.{Option, Some, None, find, is_some, option_map, option_and_then, unwrap_or, slice_get, if◌then◌else◌}
use Rattle.std.specs.List.{list_any, range_with_len}
use Rattle.std.specs.Option.{option_map_or}
use Rattle.std.proofs.lemmas.Bool.{or_cases, or_parts, not-true, not-false}
use Rattle.std.proofs.lemmas.List.FromFn.{length-range_with_len, get_or-range_with_len}
use Rattle.std.proofs.lemmas.Option.{same_Some, slice_get_within, get_or_from_slice_get}
use Rattle.epic_num.specs.declared.hop.HopName.{HopName}
use Rattle.epic_num.specs.declared.key_name.Holder.{Holder}
use Rattle.epic_num.specs.declared.key_name.Holder.TheVariants.{As, Host}
use Rattle.epic_num.specs.Same.{same_holder}
use Rattle.epic_num.proofs.SameLaws.{same_holder-Decides}
use Rattle.epic_layout.specs.Contents.{Contents, hop_count}
use Rattle.epic_topo.specs.Network.{Network}
use Rattle.epic_ledger.specs.Facts.{Facts, Sent, Pass, Reveal, pass_name, sent_name}
use Rattle.epic_ledger.specs.Queries.{reveal_of, is_pass_of}
use Rattle.epic_num.specs.Levels.{is_updated}
use Rattle.epic_audit.specs.Clauses.{sent_as, is_sent_as, IsPassedOn, IsCovered, ArePassed, DestOk}
use Rattle.epic_audit.specs.Kept.{AreApart}
use Rattle.epic_audit.specs.Reveals.{IsRevealed, is_revealed}
use Rattle.epic_audit.specs.declared.uncovered.Uncovered.{Uncovered}
use Rattle.epic_num.specs.Chains.{no_name}
use Rattle.epic_audit.specs.Verdicts.{sent_hop, is_uncovered, uncovered_in, uncovered, is_twin_pass, twin_pass}
use Rattle.epic_audit.proofs.Finds.{found, missing, found_only, any_there, none_there}
use Rattle.epic_audit.proofs.Walked.{range_at}
use Rattle.epic_audit.proofs.Decided.{SentAs, is_sent_as-Decides, is_pass_of-Decides, TwinPassed, is_twin_pass-Decides}

-- ---- reveals

pub was_revealed : (reveals : List Reveal) (h : Holder) → is_revealed reveals h ≡ true → IsRevealed reveals h
unfolding is_revealed reveal_of
was_revealed reveals h e = by (find (λ r. same_holder r.holder h) reveals) refl e
  where
    by : (o : Option Reveal) → find (λ r. same_holder r.holder h) reveals ≡ o → is_some o ≡ true → IsRevealed reveals h
    by None f s = absurd (cc)
    by (Some r) f s =
        let is = found (λ (r : Reveal). same_holder r.holder h) reveals r f in
        record { index = is.index; reveal = r; there = is.there; holder_is = (same_holder-Decides r.holder h).0 is.passes }

pub not_revealed : (reveals : List Reveal) (h : Holder) → is_revealed reveals h ≡ false → IsRevealed reveals h → ⊥
unfolding is_revealed reveal_of
not_revealed reveals h e is = by (find (λ r. same_holder r.holder h) reveals) refl e
  where
    by : (o : Option Reveal) → find (λ r. same_holder r.holder h) reveals ≡ o → is_some o ≡ false → ⊥
    by (Some r) f s = cc
    by None f s =
        let fails = missing (λ (r : Reveal). same_holder r.holder h) reveals f is.index is.reveal is.there in
        let passes = (same_holder-Decides is.reveal.holder h).1 is.holder_is in
        cc

-- ---- sent packets

pub record SentThere (f : Facts) (p : Contents) (s : Sent) : Type 0 where
  pub index : ℕ
  pub there : slice_get f.sends index ≡ Some s
  pub alike : SentAs p s

pub sent_there : (f : Facts) (p : Contents) (s : Sent) → sent_as f.sends p ≡ Some s → SentThere f p s
unfolding sent_as
sent_there f p s e =
    let is = found (is_sent_as p) f.sends s e in
    record { index = is.index; there = is.there; alike = (is_sent_as-Decides p s).0 is.passes }

-- what was sent as p is found, since nothing else was
pub sent_found : (f : Facts) (p : Contents) (n : ℕ) (s : Sent) → AreApart f.sends → slice_get f.sends n ≡ Some s → SentAs p s → sent_as f.sends p ≡ Some s
unfolding sent_as
sent_found f p n s apart there is =
    found_only (is_sent_as p) f.sends n s there ((is_sent_as-Decides p s).1 is)
    (λ m r at same.
    let u = (is_sent_as-Decides p r).0 same in
    apart m n r s at there (u.src_is ∙ sym is.src_is) (u.ts_is ∙ sym is.ts_is))

-- ---- hops that aren't covered

module _ (f : Facts) (x : HopName) (p : Contents) (i : ℕ) where
  pub was_passed : list_any (is_pass_of p.first x p.src p.ts i) f.passes ≡ true → IsPassedOn f.passes x p i
  was_passed e =
      let there = any_there (is_pass_of p.first x p.src p.ts i) f.passes e in
      let is = (is_pass_of-Decides x p i there.1).0 there.3 in
      record { index = there.0; pass = there.1; there = there.2; name_is = is.name_is; first_is = is.first_is; src_is = is.src_is; ts_is = is.ts_is; hop_is = is.hop_is }

  pub not_passed : list_any (is_pass_of p.first x p.src p.ts i) f.passes ≡ false → IsPassedOn f.passes x p i → ⊥
  not_passed e is =
      let fails = none_there (is_pass_of p.first x p.src p.ts i) f.passes e is.index is.pass is.there in
      let passes = (is_pass_of-Decides x p i is.pass).1 (record { first_is = is.first_is; name_is = is.name_is; src_is = is.src_is; ts_is = is.ts_is; hop_is = is.hop_is }) in
      cc

pub range_within : (n k i : ℕ) → slice_get (range_with_len 0 n) k ≡ Some i → i < n
range_within n k i e =
    let lt : k < length (range_with_len 0 n) = slice_get_within (range_with_len 0 n) k i e in
    let inside : k < n = omega (arith, length-range_with_len 0 n) in
    let is : 0 + k ≡ i = sym (get_or-range_with_len 0 n k 0 inside) ∙ get_or_from_slice_get (range_with_len 0 n) k i 0 e in
    omega arith

-- what an uncovered hop is
pub record IsUncovered (f : Facts) (p : Contents) (s : Sent) (u : Uncovered) : Type 0 where
  pub level : is_updated p.first ≡ true
  pub host_closed : IsRevealed f.reveals (Host p.src) → ⊥
  pub source_closed : IsRevealed f.reveals (As p.src.asn) → ⊥
  pub inside : u.hop < hop_count s.packet
  pub named : sent_name f.issues s u.hop ≡ Some u.name
  pub closed : IsRevealed f.reveals (As u.name.asn) → ⊥
  pub unpassed : IsPassedOn f.passes u.name p u.hop → ⊥

open_at : (f : Facts) (p : Contents) (s : Sent) (i : ℕ) → is_uncovered f p s i ≡ true
    → (x : HopName) × (sent_name f.issues s i ≡ Some x) × (IsRevealed f.reveals (As x.asn) → ⊥) × (IsPassedOn f.passes x p i → ⊥)
unfolding is_uncovered
open_at f p s i e = by (sent_name f.issues s i) refl e
  where
    by : (o : Option HopName) → sent_name f.issues s i ≡ o
        → option_map_or (λ x. not (is_revealed f.reveals (As x.asn) || list_any (is_pass_of p.first x p.src p.ts i) f.passes)) o false ≡ true
        → (x : HopName) × (sent_name f.issues s i ≡ Some x) × (IsRevealed f.reveals (As x.asn) → ⊥) × (IsPassedOn f.passes x p i → ⊥)
    by None k h = absurd (cc)
    by (Some x) k h =
        let both = or_parts (is_revealed f.reveals (As x.asn)) (list_any (is_pass_of p.first x p.src p.ts i) f.passes) (not-true _ h) in
        (x, k, not_revealed f.reveals (As x.asn) both.0, not_passed f x p i both.1)

covered_at : (f : Facts) (p : Contents) (s : Sent) (i : ℕ) → is_uncovered f p s i ≡ false → IsCovered f p s i
unfolding is_uncovered
covered_at f p s i e x named =
    let both : (is_revealed f.reveals (As x.asn) || list_any (is_pass_of p.first x p.src p.ts i) f.passes) ≡ true =
    not-false _
    (sym (ap (λ (o : Option HopName). option_map_or (λ y. not (is_revealed f.reveals (As y.asn) || list_any (is_pass_of p.first y p.src p.ts i) f.passes)) o false) named) ∙ e) in
    elim (or_cases (is_revealed f.reveals (As x.asn)) (list_any (is_pass_of p.first x p.src p.ts i) f.passes) both) [
      | inl free ↦ inl (was_revealed f.reveals (As x.asn) free)
      | inr passed ↦ inr (was_passed f x p i passed)
    ]

module _ (f : Facts) (p : Contents) (s : Sent) where
  same_hop : (i : ℕ) (v : Uncovered) → Some (sent_hop f s i) ≡ Some v → i ≡ v.hop
  same_hop i v k = ap (λ (w : Option Uncovered). option_map_or (λ z. z.hop) w i) k

  same_name_of : (i : ℕ) (v : Uncovered) → Some (sent_hop f s i) ≡ Some v → unwrap_or (sent_name f.issues s i) no_name ≡ v.name
  same_name_of i v k = ap (λ (w : Option Uncovered). option_map_or (λ z. z.name) w no_name) k

  uncovered_there : (u : Uncovered) → uncovered_in f p s ≡ Some u → IsUncovered f p s u
  unfolding uncovered_in
  uncovered_there u e =
      by (is_updated p.first) (is_revealed f.reveals (Host p.src)) (is_revealed f.reveals (As p.src.asn)) (find (is_uncovered f p s) (range_with_len 0 (hop_count s.packet)))
      refl refl refl refl e
    where
      by : (l h a : Bool) (o : Option ℕ) → is_updated p.first ≡ l → is_revealed f.reveals (Host p.src) ≡ h → is_revealed f.reveals (As p.src.asn) ≡ a
          → find (is_uncovered f p s) (range_with_len 0 (hop_count s.packet)) ≡ o
          → (if not l || (h || a) then None else option_map (sent_hop f s) o) ≡ Some u
          → IsUncovered f p s u
      by false h a o el eh ea eo k = absurd (cc)
      by true true a o el eh ea eo k = absurd (cc)
      by true false true o el eh ea eo k = absurd (cc)
      by true false false None el eh ea eo k = absurd (cc)
      by true false false (Some i) el eh ea eo k =
          let is = found (is_uncovered f p s) (range_with_len 0 (hop_count s.packet)) i eo in
          let free = open_at f p s i is.passes in
          let hop : i ≡ u.hop = same_hop i u k in
          let name : free.0 ≡ u.name = sym (ap (λ (n : Option HopName). unwrap_or n no_name) free.1) ∙ same_name_of i u k in
          record {
            level = el;
            host_closed = not_revealed f.reveals (Host p.src) eh;
            source_closed = not_revealed f.reveals (As p.src.asn) ea;
            inside = subst (λ n. n < hop_count s.packet) hop (range_within (hop_count s.packet) is.index i is.there);
            named = ap (sent_name f.issues s) (sym hop) ∙ (free.1 ∙ ap Some name);
            closed = subst (λ (x : HopName). IsRevealed f.reveals (As x.asn) → ⊥) name free.2;
            unpassed = subst (λ (x : HopName). IsPassedOn f.passes x p u.hop → ⊥) name (subst (λ n. IsPassedOn f.passes free.0 p n → ⊥) hop free.3);
          }

  none_uncovered : uncovered_in f p s ≡ None → is_updated p.first ≡ true → ArePassed f p s
  unfolding uncovered_in
  none_uncovered e level =
      by (is_updated p.first) (is_revealed f.reveals (Host p.src)) (is_revealed f.reveals (As p.src.asn)) (find (is_uncovered f p s) (range_with_len 0 (hop_count s.packet)))
      refl refl refl refl e
    where
      by : (l h a : Bool) (o : Option ℕ) → is_updated p.first ≡ l → is_revealed f.reveals (Host p.src) ≡ h → is_revealed f.reveals (As p.src.asn) ≡ a
          → find (is_uncovered f p s) (range_with_len 0 (hop_count s.packet)) ≡ o
          → (if not l || (h || a) then None else option_map (sent_hop f s) o) ≡ None
          → ArePassed f p s
      by false h a o el eh ea eo k = absurd (cc)
      by true true a o el eh ea eo k = inl (was_revealed f.reveals (Host p.src) eh)
      by true false true o el eh ea eo k = inr (inl (was_revealed f.reveals (As p.src.asn) ea))
      by true false false (Some i) el eh ea eo k = absurd (cc)
      by true false false None el eh ea eo k =
          inr (inr (λ i lt. covered_at f p s i (missing (is_uncovered f p s) (range_with_len 0 (hop_count s.packet)) eo i i (range_at (hop_count s.packet) i lt))))

-- the first uncovered hop of the packet that was sent as p
pub uncovered_hop : (f : Facts) (p : Contents) (s : Sent) (u : Uncovered) → sent_as f.sends p ≡ Some s → uncovered f p ≡ Some u → IsUncovered f p s u
unfolding uncovered
uncovered_hop f p s u sent e = uncovered_there f p s u (sym (ap (option_and_then (uncovered_in f p)) sent) ∙ e)

pub all_covered : (f : Facts) (p : Contents) (s : Sent) → sent_as f.sends p ≡ Some s → uncovered f p ≡ None → is_updated p.first ≡ true → ArePassed f p s
unfolding uncovered
all_covered f p s sent e level = none_uncovered f p s (sym (ap (option_and_then (uncovered_in f p)) sent) ∙ e) level

-- with an uncovered hop there is no provenance
pub not_ok_uncovered : (f : Facts) (p : Contents) (s : Sent) (u : Uncovered) → sent_as f.sends p ≡ Some s → IsUncovered f p s u → DestOk f p → ⊥
not_ok_uncovered f p s u sent is ok =
    let same : ok.send ≡ s = same_Some ok.send s (sym ok.sent ∙ sent) in
    elim (ok.passed is.level) [
      | inl free ↦ is.host_closed free
      | inr rest ↦ elim rest [
        | inl free ↦ is.source_closed free
        | inr each ↦
            elim (each u.hop (subst (λ (r : Sent). u.hop < hop_count r.packet) (sym same) is.inside) u.name (ap (λ (r : Sent). sent_name f.issues r u.hop) same ∙ is.named)) [
              | inl free ↦ is.closed free
              | inr passed ↦ is.unpassed passed
            ]
      ]
    ]

pub not_ok_unsent : (f : Facts) (p : Contents) → sent_as f.sends p ≡ None → DestOk f p → ⊥
not_ok_unsent f p e ok = let same = sym ok.sent ∙ e in cc

-- ---- twins of an uncovered hop

pub record TwinThere (t : Network) (f : Facts) (p : Contents) (u : Uncovered) (y : HopName) : Type 0 where
  pub index : ℕ
  pub pass : Pass
  pub there : slice_get f.passes index ≡ Some pass
  pub name_is : pass_name pass ≡ y
  pub twin : TwinPassed t p u pass

pub twin_there : (t : Network) (f : Facts) (p : Contents) (u : Uncovered) (y : HopName) → twin_pass t f p u ≡ Some y → TwinThere t f p u y
unfolding twin_pass
twin_there t f p u y e = by (find (is_twin_pass t p u) f.passes) refl e
  where
    by : (o : Option Pass) → find (is_twin_pass t p u) f.passes ≡ o → option_map pass_name o ≡ Some y → TwinThere t f p u y
    by None k h = absurd (cc)
    by (Some w) k h =
        let is = found (is_twin_pass t p u) f.passes w k in
        record { index = is.index; pass = w; there = is.there; name_is = cc; twin = (is_twin_pass-Decides t p u w).0 is.passes }

pub no_twin_there : (t : Network) (f : Facts) (p : Contents) (u : Uncovered) → twin_pass t f p u ≡ None
    → (n : ℕ) (w : Pass) → slice_get f.passes n ≡ Some w → TwinPassed t p u w → ⊥
unfolding twin_pass
no_twin_there t f p u e n w there is = by (find (is_twin_pass t p u) f.passes) refl e
  where
    by : (o : Option Pass) → find (is_twin_pass t p u) f.passes ≡ o → option_map pass_name o ≡ None → ⊥
    by (Some v) k h = cc
    by None k h =
        let fails = missing (is_twin_pass t p u) f.passes k n w there in
        let passes = (is_twin_pass-Decides t p u w).1 is in
        cc
