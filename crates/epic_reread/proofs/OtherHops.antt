-- The hop that the ledger has in place of the packet's is one of the topology's.
use Rattle.std.proofs.Common.{◌≡◌, ◌≢◌, ℕ, ◌+◌, ◌-◌, ◌<◌, ◌≤◌, Bool, true, false, cond, refl, sym, ap, subst, ◌∙◌, arith, IsTrue, Option, Some, None, nat_lt, inl, inr}
use Rattle.std.specs.Prelude.{option_and_then, unwrap_or}
use Rattle.std.specs.List.{list_any}
use Rattle.std.proofs.lemmas.Bool.{cond_both, cond-true, cond-false, eqb-false, ltb-true, ltb-false}
use Rattle.std.proofs.lemmas.Option.{same_Some}
use Rattle.epic_num.specs.declared.hop.HopName.{HopName}
use Rattle.epic_num.specs.declared.name.AsId.{AsId}
use Rattle.epic_num.specs.declared.verdict.Collision.{Collision}
use Rattle.epic_num.specs.declared.verdict.Part.{Part}
use Rattle.epic_num.specs.declared.verdict.Part.TheVariants.{Link, Sigma}
use Rattle.epic_num.specs.declared.verdict.Verdict.TheVariants.{Proved, Unclaimed, Opened, Forged, Collided}
use Rattle.epic_num.specs.Chains.{Issue, name_of, no_name}
use Rattle.epic_layout.specs.declared.head.HopPlace.{HopPlace}
use Rattle.epic_layout.specs.Contents.{Contents, IsPacket, hop_count}
use Rattle.epic_layout.specs.Route.{body, hops_of, is_first, place, position}
use Rattle.epic_layout.proofs.HopPlaces.{hop_before, places_are_one, previous}
use Rattle.epic_layout.proofs.OneSpelling.{paths_are_one}
use Rattle.epic_topo.specs.Network.{Network, has}
use Rattle.epic_fields.specs.HopChecks.{hop_name}
use Rattle.epic_ledger.specs.Facts.{Facts, Pass, pass_name}
use Rattle.epic_ledger.specs.Queries.{chain_pass, issue_of}
use Rattle.epic_audit.specs.Clauses.{higher, lower}
use Rattle.epic_audit.specs.Holds.{ArrivalCollided, AtDest, AtHop, HopCollided}
use Rattle.epic_audit.specs.Kept.{ArePackets, Kept}
use Rattle.epic_audit.specs.Verdicts.{broken, broken_between, broken_chain, is_child, parent_name}
use Rattle.epic_audit.proofs.Chained.{pass_name_is, passed_there}
use Rattle.epic_audit.proofs.Queries.{issued, name_there, named_there}
use Rattle.epic_reread.specs.Fitting.{OtherHopsAreThere}

-- ---- positions of two neighbours

within : (p : Contents) (j : ℕ) → IsPacket p → j < hop_count p → (1 ≤ position (place p.route.segments j))
unfolding position
within p j is inside =
    let here : HopPlace = place p.route.segments j in
    let at = (places_are_one p.route.segments).placed j (omega (arith, inside, is.route.counted)) in
    cond_both here.head.against (here.head.count - here.index) (here.index + 1) (λ n. 1 ≤ n) (λ e. omega (arith, at.inside)) (λ e. omega arith)

differ : (here : HopPlace) → 0 < here.index → here.index < here.head.count → position (previous here) ≢ position here
unfolding position
differ here some inside = by here.head.against refl
  where
    by : (b : Bool) → here.head.against ≡ b → cond here.head.against (here.head.count - (here.index - 1)) (here.index - 1 + 1) ≢ cond here.head.against (here.head.count - here.index) (here.index + 1)
    by true e same =
        let m = cond-true here.head.against (here.head.count - (here.index - 1)) (here.index - 1 + 1) e in
        let n = cond-true here.head.against (here.head.count - here.index) (here.index + 1) e in
        absurd (omega (arith, same, m, n, some, inside))
    by false e same =
        let m = cond-false here.head.against (here.head.count - (here.index - 1)) (here.index - 1 + 1) e in
        let n = cond-false here.head.against (here.head.count - here.index) (here.index + 1) e in
        absurd (omega (arith, same, m, n, some, inside))

neighbours : (p : Contents) (j : ℕ) → IsPacket p → j < hop_count p → is_first (place p.route.segments j) ≡ false
    → (0 < j) × (position (place p.route.segments (j - 1)) ≢ position (place p.route.segments j))
unfolding is_first
neighbours p j is inside e =
    let low : j < hops_of p.route.segments = omega (arith, inside, is.route.counted) in
    let before = hop_before p.route.segments j low e in
    let at = (places_are_one p.route.segments).placed j low in
    let here : HopPlace = place p.route.segments j in
    let some : 0 < here.index = omega (arith, eqb-false here.index 0 e) in
    (before.0, λ same. differ here some at.inside (ap position (sym before.1) ∙ same))

-- the higher of two neighbours has a position past the first
past_first : (w x : HopName) → 1 ≤ w.body.pos → 1 ≤ x.body.pos → w.body.pos ≢ x.body.pos → 2 ≤ (higher w x).body.pos
unfolding higher
past_first w x some other apart = by (nat_lt w.body.pos x.body.pos) refl
  where
    by : (b : Bool) → nat_lt w.body.pos x.body.pos ≡ b → 2 ≤ (cond b x w).body.pos
    by true e = omega (arith, some, ltb-true w.body.pos x.body.pos e)
    by false e = omega (arith, other, ltb-false w.body.pos x.body.pos e, apart)

-- ---- the parent of an issue

module _ (t : Network) (f : Facts) (kept : Kept t f) where
  parent_there : (y : HopName) (number : ℕ) → issue_of f.issues y ≡ Some number → 2 ≤ y.body.pos → IsTrue (has t (parent_name f.issues number).asn)
  unfolding parent_name
  parent_there y number e past =
      let named = name_there f.issues number y (issued f.issues y number e) in
      let i = named.0 in
      elim (kept.issues number i named.1).placed [
        | inl root ↦ absurd (omega (arith, past, root.position, ap (λ (x : HopName). x.body.pos) named.2))
        | inr child ↦ subst (λ (x : HopName). IsTrue (has t x.asn)) (sym
            (ap (λ (o : Option Issue). unwrap_or (option_and_then (λ k. name_of f.issues k.parent) o) no_name) named.1
            ∙ ap (λ (o : Option HopName). unwrap_or o no_name) (named_there f.issues i.parent child.parent child.is_parent)))
            (kept.issues i.parent child.parent child.is_parent).known
      ]

  broken_there : (z : HopName) (o : Option ℕ) (linked : Bool) (c : HopName × HopName) → ((number : ℕ) → o ≡ Some number → IsTrue (has t (parent_name f.issues number).asn))
      → broken f.issues z o linked ≡ Some c → IsTrue (has t c.1.asn)
  broken_there z None linked c known e = absurd (cc)
  broken_there z (Some number) true c known e = absurd (cc)
  broken_there z (Some number) false c known e =
      subst (λ (d : HopName × HopName). IsTrue (has t d.1.asn)) (same_Some (z, parent_name f.issues number) c e) (known number refl)

  module _ (packets : ArePackets f) (a : AsId) (g : ℕ) (p : Contents) (j : ℕ) (is : IsPacket p) (inside : j < hop_count p) where
    chain_there : (c : HopName × HopName) → broken_chain f (hop_name a g p j) p j ≡ Some c → IsTrue (has t c.1.asn)
    unfolding broken_chain broken_between hop_name body
    chain_there c e = by (is_first (place p.route.segments j)) (chain_pass f.passes p.route (j - 1)) refl refl e
      where
        x : HopName
        x = hop_name a g p j

        past : (w : Pass) → is_first (place p.route.segments j) ≡ false → chain_pass f.passes p.route (j - 1) ≡ Some w → 2 ≤ (higher (pass_name w) x).body.pos
        past w first passed =
            let there = passed_there f p.route (j - 1) w passed in
            let same : w.packet.route ≡ p.route = (paths_are_one w.packet.route p.route (packets.passed there.0 w there.1).route is.route there.3).routes in
            let apart = neighbours p j is inside first in
            subst (λ (y : HopName). 2 ≤ (higher y x).body.pos) (sym (pass_name_is w p (j - 1) same there.2))
            (past_first (hop_name w.asn w.generation p (j - 1)) x (within p (j - 1) is (omega (arith, inside, apart.0))) (within p j is inside) apart.1)

        by : (b : Bool) (o : Option Pass) → is_first (place p.route.segments j) ≡ b → chain_pass f.passes p.route (j - 1) ≡ o
            → cond b None (option_and_then (λ w. broken_between f.issues (higher (pass_name w) x) (lower (pass_name w) x)) o) ≡ Some c → IsTrue (has t c.1.asn)
        by true o first passed s = absurd (cc)
        by false None first passed s = absurd (cc)
        by false (Some w) first passed s =
            broken_there (lower (pass_name w) x) (issue_of f.issues (higher (pass_name w) x)) (list_any (is_child f.issues (higher (pass_name w) x) (lower (pass_name w) x)) f.issues) c
            (λ number known. parent_there (higher (pass_name w) x) number known (past w first passed)) s

    collision_there : (c : Collision) (part : Part) → IsTrue (has t c.left.asn) → HopCollided t f (hop_name a g p j) p j c part → IsTrue (has t c.right.asn)
    collision_there c Sigma left (inl h) = subst (λ (b : AsId). IsTrue (has t b)) h.collided.asn_is left
    collision_there c Sigma left (inr h) = subst (λ (b : AsId). IsTrue (has t b)) h.collided.asn_is left
    collision_there c Link left h = chain_there (c.left, c.right) h.pair_is

arrival_there : (t : Network) (f : Facts) (p : Contents) (c : Collision) (part : Part) → IsTrue (has t c.left.asn) → ArrivalCollided t f p c part → IsTrue (has t c.right.asn)
arrival_there t f p c Sigma left h = subst (λ (b : AsId). IsTrue (has t b)) h.collided.asn_is left
arrival_there t f p c Link left h = absurd h

pub other_hops_there : OtherHopsAreThere
other_hops_there t f p (AtHop a g j) (Proved issue send) kept packets is of told h = tt
other_hops_there t f p (AtHop a g j) Unclaimed kept packets is of told h = tt
other_hops_there t f p (AtHop a g j) (Opened step) kept packets is of told h = tt
other_hops_there t f p (AtHop a g j) (Forged r) kept packets is of told h = tt
other_hops_there t f p (AtHop a g j) (Collided c) kept packets is of told h = collision_there t f kept packets a g p j is of.1 c c.part told h
other_hops_there t f p AtDest (Proved issue send) kept packets is of told h = tt
other_hops_there t f p AtDest Unclaimed kept packets is of told h = tt
other_hops_there t f p AtDest (Opened step) kept packets is of told h = tt
other_hops_there t f p AtDest (Forged r) kept packets is of told h = tt
other_hops_there t f p AtDest (Collided c) kept packets is of told h = arrival_there t f p c c.part told h
