-- What an issued beacon is to the others.
use Rattle.std.proofs.Common.{◌≡◌, ◌≢◌, ℕ, ◌≤◌, Bool, true, false, ◌&&◌, not, ◌==◌, List, [], ◌∷◌, length, refl, sym, ◌∙◌, ap, arith, subst, inl, inr}
use Rattle.std.specs.Prelude.{Option, Some, None, option_map, is_none, is_some, unwrap_or, IsSome, Ok, Err}
use Rattle.std.specs.Option.{option_map_or}
use Rattle.epic_num.specs.declared.beacon_error.BeaconError.{BeaconError}
use Rattle.epic_num.specs.declared.beacon_error.BeaconError.TheVariants.{NotCore, Unknown, Ended, TooLong, Loop, UnknownInterface, WrongKind, Expired, Duplicate, Full}
use Rattle.epic_num.specs.declared.hop.HopName.{HopName}
use Rattle.epic_num.specs.declared.name.AsId.{AsId}
use Rattle.epic_num.specs.declared.segment.SegKind.TheVariants.{Core}
use Rattle.epic_num.specs.Chains.{Issue, issue_at, last_names, chain}
use Rattle.epic_num.specs.Moments.{is_expired}
use Rattle.epic_num.specs.Tables.{first_row}
use Rattle.epic_num.proofs.TableLaws.{row_passed, unless_ok}
use Rattle.epic_topo.specs.Network.{Network, has, is_core, neighbour}
use Rattle.epic_fields.specs.Issues.{IssuesKept}
use Rattle.epic_beacon.specs.declared.beacon.Beacon.{Beacon}
use Rattle.epic_beacon.specs.Chained.{AreChained}
use Rattle.epic_beacon.specs.Issuing.{Row, link_at, kind_by, goes_on, first_name, next_name, beacon_of, stands_in, twin, place_rows, originate_rows, onward_rows, extend_rows, originated, extended_from, extended}
use Rattle.epic_beacon.specs.Store.{Store, beacon_at, issue_of, issues_of}
use Rattle.epic_beacon.proofs.Walked.{issue_at-issues_of}

-- ---- issues of beacons

pub issue_there : (beacons : List Beacon) (n : ℕ) (b : Beacon) → beacon_at beacons n ≡ Some b → issue_at (issues_of beacons) n ≡ Some (issue_of b)
issue_there beacons n b there = issue_at-issues_of beacons n ∙ ap (option_map issue_of) there

-- the chain of a beacon has as many hops as its position says
pub chain_there : (beacons : List Beacon) (n : ℕ) (b : Beacon) → beacon_at beacons n ≡ Some b
    → chain (issues_of beacons) n ≡ last_names (issues_of beacons) b.name.body.pos n
unfolding chain
chain_there beacons n b there =
    ap (λ (o : Option Issue). option_map_or (λ i. last_names (issues_of beacons) i.name.body.pos n) o []) (issue_there beacons n b there)

-- ---- of a parent

pub position_few : (beacons : List Beacon) (n : ℕ) (b : Beacon) → AreChained beacons → beacon_at beacons n ≡ Some b → b.name.body.pos ≤ 16
position_few beacons n b chained there =
    elim (chained.each n b there) [ inl first ↦ let h = first.position in omega arith | inr next ↦ next.few ]

pub parent_known : (t : Network) (beacons : List Beacon) (n : ℕ) (b : Beacon) → IssuesKept t (issues_of beacons) → beacon_at beacons n ≡ Some b
    → has t b.name.asn ≡ true
parent_known t beacons n b kept there = (kept n (issue_of b) (issue_there beacons n b there)).known

pub parent_linked : (t : Network) (beacons : List Beacon) (n : ℕ) (b : Beacon) → IssuesKept t (issues_of beacons) → beacon_at beacons n ≡ Some b
    → b.name.body.out ≢ 0 → IsSome (neighbour t b.name.asn b.name.body.out)
parent_linked t beacons n b kept there goes =
    elim (kept n (issue_of b) (issue_there beacons n b there)).egress [ inl ended ↦ absurd (goes ended) | inr linked ↦ linked ]

-- ---- what was tested

-- a beacon that goes on from a parent
pub record Extended (t : Network) (s : Store) (number out exp : ℕ) (b : Beacon) : Type 0 where
  pub parent : Beacon
  pub there : beacon_at s.beacons number ≡ Some parent
  pub goes : (parent.name.body.out == 0) ≡ false
  pub short : (parent.name.body.pos == 16) ≡ false
  pub apart : stands_in (next_name t s parent.name out exp).asn (chain (issues_of s.beacons) number) ≡ false
  pub linked : (not (out == 0) && is_none (link_at t (next_name t s parent.name out exp).asn out)) ≡ false
  pub room : (length s.beacons == 65536) ≡ false
  pub is : beacon_of t (next_name t s parent.name out exp) number parent.kind ≡ b

place_tested : (beacons : List Beacon) (x : HopName) (number : ℕ) → first_row (place_rows beacons x number) ≡ None → (length beacons == 65536) ≡ false
unfolding place_rows
place_tested beacons x number h =
    let full : Row = (length beacons == 65536, Full) in
    let known : Row = (is_some (twin beacons x number), Duplicate (unwrap_or (twin beacons x number) 0)) in
    (row_passed full (first_row {X = BeaconError} []) (row_passed known (first_row (full ∷ [])) h).1).0

onward_tested : (t : Network) (beacons : List Beacon) (number : ℕ) (p : Beacon) (x : HopName) (now : ℕ)
    → first_row (onward_rows t beacons number p.kind x now) ≡ None
    → ((not (x.body.out == 0) && is_none (link_at t x.asn x.body.out)) ≡ false) × ((length beacons == 65536) ≡ false)
unfolding onward_rows
onward_tested t beacons number p x now h =
    let place = place_rows beacons x number in
    let expired : Row = (is_expired x.body.ts_path x.body.exp now, Expired) in
    let wrong : Row = (not (x.body.out == 0) && not (goes_on p.kind (link_at t x.asn x.body.out)), WrongKind) in
    let unlinked : Row = (not (x.body.out == 0) && is_none (link_at t x.asn x.body.out), UnknownInterface) in
    let first = row_passed unlinked (first_row (wrong ∷ expired ∷ place)) h in
    let second = row_passed wrong (first_row (expired ∷ place)) first.1 in
    let third = row_passed expired (first_row place) second.1 in
    (first.0, place_tested beacons x number third.1)

from_tested : (t : Network) (s : Store) (number : ℕ) (p : Beacon) (out exp now : ℕ) (b : Beacon) (x : HopName) → x ≡ next_name t s p.name out exp
    → beacon_at s.beacons number ≡ Some p → first_row (extend_rows t s number p x now) ≡ None → beacon_of t x number p.kind ≡ b
    → x.body.out ≡ out → Extended t s number out exp b
unfolding extend_rows
from_tested t s number p out exp now b x e there h is same =
    let onward = onward_rows t s.beacons number p.kind x now in
    let loop : Row = (stands_in x.asn (chain (issues_of s.beacons) number), Loop x.asn) in
    let long : Row = (p.name.body.pos == 16, TooLong) in
    let ended : Row = (p.name.body.out == 0, Ended) in
    let first = row_passed ended (first_row (long ∷ loop ∷ onward)) h in
    let second = row_passed long (first_row (loop ∷ onward)) first.1 in
    let third = row_passed loop (first_row onward) second.1 in
    let fourth = onward_tested t s.beacons number p x now third.1 in
    record {
      parent = p;
      there = there;
      goes = first.0;
      short = second.0;
      apart = subst (λ y. stands_in y.asn (chain (issues_of s.beacons) number) ≡ false) e third.0;
      linked = subst (λ y. (not (out == 0) && is_none (link_at t y.asn out)) ≡ false) e (subst (λ o. (not (o == 0) && is_none (link_at t x.asn o)) ≡ false) same fourth.0);
      room = fourth.1;
      is = subst (λ y. beacon_of t y number p.kind ≡ b) e is;
    }

out_of_next : (t : Network) (s : Store) (x : HopName) (out exp : ℕ) → (next_name t s x out exp).body.out ≡ out
unfolding next_name
out_of_next t s x out exp = refl

from_parent : (t : Network) (s : Store) (number : ℕ) (p : Beacon) (out exp now : ℕ) (b : Beacon) → beacon_at s.beacons number ≡ Some p
    → extended_from t s number p out exp now ≡ Ok b → Extended t s number out exp b
unfolding extended_from
from_parent t s number p out exp now b there h =
    let x = next_name t s p.name out exp in
    let passed = unless_ok (first_row (extend_rows t s number p x now)) (beacon_of t x number p.kind) b h in
    from_tested t s number p out exp now b x refl there passed.0 passed.1 (out_of_next t s p.name out exp)

from_found : (t : Network) (s : Store) (number out exp now : ℕ) (b : Beacon) (o : Option Beacon) → beacon_at s.beacons number ≡ o
    → option_map_or (λ p. extended_from t s number p out exp now) o (Err Unknown) ≡ Ok b → Extended t s number out exp b
from_found t s number out exp now b None e h = absurd (cc)
from_found t s number out exp now b (Some p) e h = from_parent t s number p out exp now b e h

pub extended_ok : (t : Network) (s : Store) (number out exp now : ℕ) (b : Beacon) → extended t s number out exp now ≡ Ok b → Extended t s number out exp b
unfolding extended
extended_ok t s number out exp now b h = from_found t s number out exp now b (beacon_at s.beacons number) refl h

-- a beacon that begins a chain
pub record Originated (t : Network) (s : Store) (a : AsId) (out exp now : ℕ) (b : Beacon) : Type 0 where
  pub core : is_core t a ≡ true
  pub linked : is_none (link_at t a out) ≡ false
  pub room : (length s.beacons == 65536) ≡ false
  pub is : beacon_of t (first_name s a out exp now) 0 (option_map_or kind_by (link_at t a out) Core) ≡ b

isnt_not : (b : Bool) → not b ≡ false → b ≡ true
isnt_not true h = refl
isnt_not false h = absurd (cc)

first_tested : (t : Network) (s : Store) (x : HopName) → first_row (originate_rows t s x) ≡ None
    → (is_core t x.asn ≡ true) × (is_none (link_at t x.asn x.body.out) ≡ false) × ((length s.beacons == 65536) ≡ false)
unfolding originate_rows
first_tested t s x h =
    let place = place_rows s.beacons x 0 in
    let unlinked : Row = (is_none (link_at t x.asn x.body.out), UnknownInterface) in
    let outside : Row = (not (is_core t x.asn), NotCore) in
    let first = row_passed outside (first_row (unlinked ∷ place)) h in
    let second = row_passed unlinked (first_row place) first.1 in
    (isnt_not (is_core t x.asn) first.0, second.0, place_tested s.beacons x 0 second.1)

at_first : (t : Network) (s : Store) (a : AsId) (out exp now : ℕ)
    → let x = first_name s a out exp now in (is_core t x.asn ≡ is_core t a) × (is_none (link_at t x.asn x.body.out) ≡ is_none (link_at t a out))
unfolding first_name
at_first t s a out exp now = (refl, refl)

pub originated_ok : (t : Network) (s : Store) (a : AsId) (out exp now : ℕ) (b : Beacon) → originated t s a out exp now ≡ Ok b → Originated t s a out exp now b
unfolding originated
originated_ok t s a out exp now b h =
    let x = first_name s a out exp now in
    let passed = unless_ok (first_row (originate_rows t s x)) (beacon_of t x 0 (option_map_or kind_by (link_at t a out) Core)) b h in
    let tested = first_tested t s x passed.0 in
    let here = at_first t s a out exp now in
    record { core = sym here.0 ∙ tested.0; linked = sym here.1 ∙ tested.1; room = tested.2; is = passed.1 }
