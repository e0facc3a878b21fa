-- The beacons that a row of issues tells of, and one more issue behind it.
use Rattle.std.proofs.Common.{◌≡◌, ℕ, zero, suc, ◌<◌, List, [], ◌∷◌, ◌++◌, refl, sym, ◌∙◌, ap, subst, append-nil, append_assoc, arith}
use Rattle.std.specs.Prelude.{Some, Ok}
use Rattle.std.specs.Option.{option_map_or}
use Rattle.std.proofs.lemmas.List.{map-append}
use Rattle.std.proofs.Math.Dec.{eqb-suc-zero}
use Rattle.epic_num.specs.Chains.{Issue}
use Rattle.epic_num.specs.declared.hop.HopName.{HopName}
use Rattle.epic_num.specs.declared.name.AsId.{AsId}
use Rattle.epic_num.specs.declared.segment.SegKind.TheVariants.{Core}
use Rattle.epic_topo.specs.Network.{Network}
use Rattle.epic_beacon.specs.declared.beacon.Beacon.{Beacon}
use Rattle.epic_beacon.specs.Issuing.{link_at, kind_by, first_name, next_name, beacon_of, originated, extended}
use Rattle.epic_beacon.specs.Laws.{TellsIssues}
use Rattle.epic_beacon.specs.Store.{Store, beacon_at, issue_of, issues_of}
use Rattle.epic_beacon.specs.Told.{kind_after, beacons_after, beacons_in}
use Rattle.epic_beacon.proofs.Grown.{beacon_at-within}
use Rattle.epic_beacon.proofs.Issued.{originated_ok, extended_ok}

-- ---- one more issue

after_one_more : (t : Network) (beacons : List Beacon) (issues : List Issue) (i : Issue)
    → beacons_after t beacons (issues ++ i ∷ [])
    ≡ beacons_after t beacons issues ++ beacon_of t i.name i.parent (kind_after t (beacons_after t beacons issues) i) ∷ []
unfolding beacons_after
after_one_more t beacons [] i = refl
after_one_more t beacons (j ∷ issues) i = after_one_more t (beacons ++ beacon_of t j.name j.parent (kind_after t beacons j) ∷ []) issues i

in_one_more : (t : Network) (issues : List Issue) (i : Issue)
    → beacons_in t (issues ++ i ∷ []) ≡ beacons_in t issues ++ beacon_of t i.name i.parent (kind_after t (beacons_in t issues) i) ∷ []
unfolding beacons_in
in_one_more t issues i = after_one_more t [] issues i

issues_after : (t : Network) (beacons : List Beacon) (issues : List Issue) → issues_of (beacons_after t beacons issues) ≡ issues_of beacons ++ issues
unfolding beacons_after kind_after beacon_of
issues_after t beacons [] = sym (append-nil (issues_of beacons))
issues_after t beacons (j ∷ issues) =
    let b = beacon_of t j.name j.parent (kind_after t beacons j) in
    issues_after t (beacons ++ b ∷ []) issues
    ∙ ap (λ is. is ++ issues) (map-append issue_of beacons (b ∷ []))
    ∙ append_assoc (issues_of beacons) (issue_of b ∷ []) issues

pub issues_in_beacons : TellsIssues
unfolding beacons_in
issues_in_beacons t issues = issues_after t [] issues

-- ---- what is issued

-- the beacon is what its issue tells of it
abbrev IsTold : Network → List Beacon → Beacon → Type 0
IsTold t beacons b = b ≡ beacon_of t b.name b.parent (kind_after t beacons (issue_of b))

told_first : (t : Network) (s : Store) (a : AsId) (out exp now : ℕ)
    → IsTold t s.beacons (beacon_of t (first_name s a out exp now) 0 (option_map_or kind_by (link_at t a out) Core))
unfolding beacon_of first_name kind_after
told_first t s a out exp now = refl

nothing : 0 < 0 → ⊥
nothing h = absurd (omega arith)

kind_next : (t : Network) (beacons : List Beacon) (x : HopName) (number : ℕ) (p : Beacon) → beacon_at beacons number ≡ Some p
    → kind_after t beacons (record { name = x; parent = number }) ≡ p.kind
unfolding kind_after
kind_next t beacons x zero p h = absurd (nothing (beacon_at-within beacons 0 p h).0)
kind_next t beacons x (suc n) p h = rw (eqb-suc-zero n, h)

told_next : (t : Network) (s : Store) (x : HopName) (number : ℕ) (p : Beacon) → beacon_at s.beacons number ≡ Some p
    → IsTold t s.beacons (beacon_of t x number p.kind)
unfolding beacon_of
told_next t s x number p h = ap (beacon_of t x number) (sym (kind_next t s.beacons x number p h))

more_told : (t : Network) (beacons : List Beacon) (b : Beacon) (issues : List Issue) → beacons ≡ beacons_in t issues → IsTold t beacons b
    → beacons ++ b ∷ [] ≡ beacons_in t (issues ++ issue_of b ∷ [])
more_told t beacons b issues e told =
    ap (λ (c : Beacon). beacons ++ c ∷ []) told
    ∙ (ap (λ bs. bs ++ beacon_of t b.name b.parent (kind_after t bs (issue_of b)) ∷ []) e ∙ sym (in_one_more t issues (issue_of b)))

pub originated_told : (t : Network) (s : Store) (a : AsId) (out exp now : ℕ) (b : Beacon) (issues : List Issue) → s.beacons ≡ beacons_in t issues
    → originated t s a out exp now ≡ Ok b → s.beacons ++ b ∷ [] ≡ beacons_in t (issues ++ issue_of b ∷ [])
originated_told t s a out exp now b issues e h =
    more_told t s.beacons b issues e (subst (IsTold t s.beacons) (originated_ok t s a out exp now b h).is (told_first t s a out exp now))

pub extended_told : (t : Network) (s : Store) (number out exp now : ℕ) (b : Beacon) (issues : List Issue) → s.beacons ≡ beacons_in t issues
    → extended t s number out exp now ≡ Ok b → s.beacons ++ b ∷ [] ≡ beacons_in t (issues ++ issue_of b ∷ [])
extended_told t s number out exp now b issues same h =
    let e = extended_ok t s number out exp now b h in
    more_told t s.beacons b issues same
    (subst (IsTold t s.beacons) e.is (told_next t s (next_name t s e.parent.name out exp) number e.parent e.there))
