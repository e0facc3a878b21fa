-- The authenticators of the beacons that issues tell of, and of the hops of their segments.
use Rattle.std.proofs.Common.{◌≡◌, ℕ, zero, suc, ◌≤◌, ◌<◌, List, [], ◌∷◌, ◌++◌, refl, sym, subst, arith, inl, inr}
use Rattle.std.specs.Prelude.{Option, None, Some, All}
use Rattle.std.proofs.lemmas.List.Elements.{All-append, All-cons, All-nil}
use Rattle.epic_num.specs.Chains.{Issue}
use Rattle.epic_num.specs.declared.hop.HopName.{HopName}
use Rattle.epic_num.specs.declared.segment.SegKind.{SegKind}
use Rattle.epic_topo.specs.Network.{Network}
use Rattle.epic_fields.specs.Tags.{sigma}
use Rattle.epic_beacon.specs.declared.beacon.Beacon.{Beacon}
use Rattle.epic_beacon.specs.Issuing.{beacon_of}
use Rattle.epic_beacon.specs.Laws.{HasSigma, SegmentsHaveSigmas}
use Rattle.epic_beacon.specs.Segments.{hop_of, last_hops, segment_to}
use Rattle.epic_beacon.specs.Store.{beacon_at}
use Rattle.epic_beacon.specs.Told.{kind_after, beacons_after, beacons_in}
use Rattle.epic_beacon.proofs.Formed.{segment_made, hops_there, hops_gone, no_hops}
use Rattle.epic_beacon.proofs.Grown.{beacon_at-within, beacon_at-more}

abbrev HaveSigmas : Network → List Beacon → Type 0
HaveSigmas t beacons = (number : ℕ) (b : Beacon) → beacon_at beacons number ≡ Some b → b.sigma ≡ sigma t b.name

nothing : (n : ℕ) → 0 < n → n ≤ 0 → ⊥
nothing n some none = absurd (omega arith)

no_sigmas : (t : Network) → HaveSigmas t []
no_sigmas t number b there = let w = beacon_at-within [] number b there in absurd (nothing number w.0 w.1)

more_sigmas : (t : Network) (beacons : List Beacon) (b : Beacon) → HaveSigmas t beacons → b.sigma ≡ sigma t b.name → HaveSigmas t (beacons ++ b ∷ [])
more_sigmas t beacons b each new number c there =
    elim (beacon_at-more beacons b c number there) [
      | inl was ↦ each number c was
      | inr last ↦ subst (λ (d : Beacon). d.sigma ≡ sigma t d.name) last.1 new
    ]

own_sigma : (t : Network) (x : HopName) (parent : ℕ) (k : SegKind) → (beacon_of t x parent k).sigma ≡ sigma t (beacon_of t x parent k).name
unfolding beacon_of
own_sigma t x parent k = refl

after_sigmas : (t : Network) (beacons : List Beacon) (issues : List Issue) → HaveSigmas t beacons → HaveSigmas t (beacons_after t beacons issues)
unfolding beacons_after
after_sigmas t beacons [] each = each
after_sigmas t beacons (i ∷ issues) each =
    let b = beacon_of t i.name i.parent (kind_after t beacons i) in
    after_sigmas t (beacons ++ b ∷ []) issues (more_sigmas t beacons b each (own_sigma t i.name i.parent (kind_after t beacons i)))

hops_sigmas : (t : Network) (beacons : List Beacon) → HaveSigmas t beacons → (most number : ℕ) → All (HasSigma t) (last_hops beacons most number)
hops_sigmas t beacons each zero number = subst (All (HasSigma t)) (sym (no_hops beacons number)) (All-nil (HasSigma t))
hops_sigmas t beacons each (suc most) number = by (beacon_at beacons number) refl (λ n. hops_sigmas t beacons each most n)
  where
    by : (o : Option Beacon) → beacon_at beacons number ≡ o → ((n : ℕ) → All (HasSigma t) (last_hops beacons most n)) → All (HasSigma t) (last_hops beacons (suc most) number)
    by None e before = subst (All (HasSigma t)) (sym (hops_gone beacons most number e)) (All-nil (HasSigma t))
    by (Some b) e before =
        subst (All (HasSigma t)) (sym (hops_there beacons most number b e))
        (All-append (HasSigma t) (last_hops beacons most b.parent) (hop_of number b ∷ []) (before b.parent)
        (All-cons (HasSigma t) (hop_of number b) [] (each number b e) (All-nil (HasSigma t))))

hops_of_segment : (beacons : List Beacon) (number : ℕ) (b : Beacon) → (segment_to beacons number b).hops.items ≡ last_hops beacons b.name.body.pos number
unfolding segment_to
hops_of_segment beacons number b = refl

pub segments_have_sigmas : SegmentsHaveSigmas
unfolding beacons_in
segments_have_sigmas t issues number s h =
    let beacons = beacons_after t [] issues in
    let m = segment_made beacons number s h in
    subst (λ x. All (HasSigma t) x.hops.items) m.is
    (subst (All (HasSigma t)) (sym (hops_of_segment beacons number m.last))
    (hops_sigmas t beacons (after_sigmas t [] issues (no_sigmas t)) m.last.name.body.pos number))
