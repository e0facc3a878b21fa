-- Two hops that follow one another in a segment, and what it means that the chain breaks at them.
use Rattle.std.proofs.Common.{◌≡◌, ℕ, suc, ◌+◌, ◌-◌, ◌<◌, ◌≤◌, Bool, true, false, ◌==◌, List, refl, ap, sym, ◌∙◌, subst, arith, inl, inr}
use Rattle.std.specs.Prelude.{Option, Some, None, nat_lt, option_and_then, unwrap_or, slice_get, if◌then◌else◌, bytes_eq}
use Rattle.std.specs.Bool.{MatchBool}
use Rattle.std.specs.List.{list_any}
use Rattle.std.specs.Option.{option_map_or}
use Rattle.std.proofs.lemmas.Bool.{and_parts, lt-ltb, le-ltb, eqb-true, cond_both}
use Rattle.std.proofs.lemmas.Option.{same_Some}
use Rattle.std.proofs.lemmas.Slice.Eq.{bytes_eq-Decides}
use Rattle.epic_num.specs.declared.hop.HopName.{HopName}
use Rattle.epic_num.specs.declared.name.AsId.{AsId}
use Rattle.epic_num.specs.Chains.{Issue, issue_at, name_of}
use Rattle.epic_num.proofs.ChainLaws.{issue_at-suc}
use Rattle.epic_layout.specs.Contents.{Contents}
use Rattle.epic_layout.specs.Laws.{Follows}
use Rattle.epic_layout.specs.Route.{Route, hops_of, place, position, successor, is_first, hop, body}
use Rattle.epic_layout.specs.Spelling.{path_bytes}
use Rattle.epic_layout.proofs.HopPlaces.{places_are_one, neighbours_follow}
use Rattle.epic_layout.proofs.OneSpelling.{paths_are_one}
use Rattle.epic_topo.specs.Network.{Network}
use Rattle.epic_fields.specs.Issues.{IssuesKept}
use Rattle.epic_fields.specs.Tags.{link}
use Rattle.epic_fields.specs.HopChecks.{hop_name, carries_link, has_link}
use Rattle.epic_ledger.specs.Facts.{Facts, Pass, pass_name}
use Rattle.epic_ledger.specs.Queries.{issue_of, is_on_path, same_path, chain_pass}
use Rattle.epic_audit.specs.Clauses.{IsIssued, GoesOnFrom, higher, lower, IsChained}
use Rattle.epic_audit.specs.Collided.{HaveOneLink}
use Rattle.epic_audit.specs.Kept.{Kept, ArePackets, IsKeptPass}
use Rattle.epic_audit.specs.Laws.{IsAccepted}
use Rattle.epic_num.specs.Chains.{no_name}
use Rattle.epic_audit.specs.Verdicts.{is_child, parent_name, broken, broken_between, broken_chain}
use Rattle.epic_audit.proofs.Finds.{found, any_there, none_there}
use Rattle.epic_audit.proofs.Queries.{at_place, name_there, named_there, issued, unissued}
use Rattle.epic_audit.proofs.Decided.{is_child-Decides}

-- ---- neighbours

-- y is the next hop after z in construction order, and carries its link tag
pub record IsNext (t : Network) (y z : HopName) : Type 0 where
  pub some : 1 ≤ z.body.pos
  pub position_is : y.body.pos ≡ z.body.pos + 1
  pub link_is : y.body.link ≡ link t z

above : (t : Network) (w x : HopName) → IsNext t w x → IsNext t (higher w x) (lower w x)
unfolding higher lower
above t w x n =
    let over : nat_lt w.body.pos x.body.pos ≡ false = le-ltb _ _ (let e = n.position_is in omega arith) in
    rw over n

below : (t : Network) (w x : HopName) → IsNext t x w → IsNext t (higher w x) (lower w x)
unfolding higher lower
below t w x n =
    let under : nat_lt w.body.pos x.body.pos ≡ true = lt-ltb _ _ (let e = n.position_is in omega arith) in
    rw under n

-- a hop's position is its place's, and its link tag stands in the packet
body_position : (r : Route) (j : ℕ) → (body r j).pos ≡ position (place r.segments j)
unfolding body
body_position r j = refl

body_link : (r : Route) (j : ℕ) → (body r j).link ≡ (hop r j).link
unfolding body
body_link r j = refl

-- positions count from 1
some_position : (r : Route) (j : ℕ) → j < hops_of r.segments → 1 ≤ position (place r.segments j)
unfolding position
some_position r j lt =
    let inside = ((places_are_one r.segments).placed j lt).inside in
    cond_both (place r.segments j).head.against _ _ (λ n. 1 ≤ n) (λ e. omega arith) (λ e. omega arith)

-- where hop i follows hop j, it carries the link tag of hop j, where that is right
pub linked_to : (t : Network) (z : HopName) (p : Contents) (i j : ℕ) → has_link t z p j ≡ true → successor (place p.route.segments j) j ≡ Some i
    → (body p.route i).link ≡ link t z
unfolding has_link carries_link body
linked_to t z p i j right next =
    (bytes_eq-Decides (hop p.route i).link (link t z)).0
    (sym (ap (λ (o : Option ℕ). option_map_or (λ s. bytes_eq (hop p.route s).link (link t z)) o true) next) ∙ right)

-- hop i of a packet follows hop j, and the link tag of hop j is right
followed : (t : Network) (a b : AsId) (g h : ℕ) (p q : Contents) (i j : ℕ) → j < hops_of p.route.segments → Follows p.route.segments j i
    → q.route ≡ p.route → has_link t (hop_name a g q j) q j ≡ true
    → IsNext t (hop_name b h p i) (hop_name a g q j)
unfolding hop_name
followed t a b g h p q i j lt follows same right = record {
  some = subst (λ (r : Route). 1 ≤ (body r j).pos) (sym same) (subst (λ n. 1 ≤ n) (sym (body_position p.route j)) (some_position p.route j lt));
  position_is =
      body_position p.route i ∙ (follows.positions ∙ ap (λ n. n + 1) (sym (body_position p.route j) ∙ ap (λ (r : Route). (body r j).pos) (sym same)));
  link_is =
      ap (λ (r : Route). (body r i).link) (sym same)
      ∙ linked_to t (hop_name a g q j) q i j right (ap (λ (r : Route). successor (place r.segments j) j) same ∙ follows.next);
}

on_path : (r : Route) (k : ℕ) (w : Pass) → is_on_path r k w ≡ true → (w.hop ≡ k) × (path_bytes w.packet.route ≡ path_bytes r)
unfolding is_on_path same_path
on_path r k w e =
    let both = and_parts (w.hop == k) (bytes_eq (path_bytes w.packet.route) (path_bytes r)) e in
    (eqb-true w.hop k both.0, (bytes_eq-Decides (path_bytes w.packet.route) (path_bytes r)).0 both.1)

-- an accepted hop has the name that the hop of a packet with these path bytes has
pub pass_name_is : (w : Pass) (p : Contents) (k : ℕ) → w.packet.route ≡ p.route → w.hop ≡ k → pass_name w ≡ hop_name w.asn w.generation p k
unfolding pass_name hop_name
pass_name_is w p k same at i = record { asn = w.asn; generation = w.generation; body = body (same i) (at i) }

-- the first hop that was passed on the path, at an index
pub passed_there : (f : Facts) (r : Route) (k : ℕ) (w : Pass) → chain_pass f.passes r k ≡ Some w
    → (n : ℕ) × (slice_get f.passes n ≡ Some w) × (w.hop ≡ k) × (path_bytes w.packet.route ≡ path_bytes r)
unfolding chain_pass
passed_there f r k w e =
    let is = found (is_on_path r k) f.passes w e in
    let on = on_path r k w is.passes in
    (is.index, is.there, on.0, on.1)

module _ (t : Network) (f : Facts) (a : AsId) (g : ℕ) (p : Contents) (j : ℕ) (packets : ArePackets f) (kept : Kept t f) (accepted : IsAccepted t a g p j) where
  within : j < hops_of p.route.segments
  within = let e = accepted.packet.route.counted in let lt = accepted.within in omega arith

  -- the hop that was passed before, and this one, follow one another
  neighbours : (w : Pass) → is_first (place p.route.segments j) ≡ false → chain_pass f.passes p.route (j - 1) ≡ Some w
      → IsNext t (higher (pass_name w) (hop_name a g p j)) (lower (pass_name w) (hop_name a g p j))
  neighbours w first passed =
      let there = passed_there f p.route (j - 1) w passed in
      let same : w.packet.route ≡ p.route = (paths_are_one w.packet.route p.route (packets.passed there.0 w there.1).route accepted.packet.route there.3).routes in
      let right : has_link t (hop_name w.asn w.generation w.packet (j - 1)) w.packet (j - 1) ≡ true =
      subst (λ k. has_link t (hop_name w.asn w.generation w.packet k) w.packet k ≡ true) there.2 (own_link w (kept.passes there.0 w there.1)) in
      let lt = within in
      let follow = neighbours_follow p.route.segments j within first in
      let name : pass_name w ≡ hop_name w.asn w.generation p (j - 1) = pass_name_is w p (j - 1) same there.2 in
      let own : pass_name w ≡ hop_name w.asn w.generation w.packet (j - 1) = pass_name_is w w.packet (j - 1) refl there.2 in
      elim (place p.route.segments j).head.against as (λ b. MatchBool b (Follows p.route.segments j (j - 1)) (Follows p.route.segments (j - 1) j)
      → IsNext t (higher (pass_name w) (hop_name a g p j)) (lower (pass_name w) (hop_name a g p j))) [
        | true ↦ λ follows.
            above t (pass_name w) (hop_name a g p j)
            (subst (λ y. IsNext t y (hop_name a g p j)) (sym name) (followed t a w.asn g w.generation p p (j - 1) j within follows refl accepted.link_right))
        | false ↦ λ follows.
            below t (pass_name w) (hop_name a g p j)
            (subst (λ z. IsNext t (hop_name a g p j) z) (sym own) (followed t w.asn a w.generation g p w.packet j (j - 1) (omega arith) follows same right))
      ] follow.1
    where
      own_link : (v : Pass) → IsKeptPass t v → has_link t (hop_name v.asn v.generation v.packet v.hop) v.packet v.hop ≡ true
      own_link v is = subst (λ y. has_link t y v.packet v.hop ≡ true) (pass_name_is v v.packet v.hop refl refl) is.linked

-- ---- where the chain breaks

-- y was issued, and none of its issues goes on from z
pub record Breaks (issues : List Issue) (y z : HopName) (c : HopName × HopName) : Type 0 where
  pub number : ℕ
  pub issued : issue_of issues y ≡ Some number
  pub lone : list_any (is_child issues y z) issues ≡ false
  pub left_is : c.0 ≡ z
  pub right_is : c.1 ≡ parent_name issues number

breaks : (issues : List Issue) (y z : HopName) (c : HopName × HopName) → broken_between issues y z ≡ Some c → Breaks issues y z c
unfolding broken_between
breaks issues y z c e = by (issue_of issues y) (list_any (is_child issues y z) issues) refl refl e
  where
    by : (o : Option ℕ) (b : Bool) → issue_of issues y ≡ o → list_any (is_child issues y z) issues ≡ b → broken issues z o b ≡ Some c → Breaks issues y z c
    by None b h l s = absurd (cc)
    by (Some n) true h l s = absurd (cc)
    by (Some n) false h l s =
        let same : (z, parent_name issues n) ≡ c = same_Some (z, parent_name issues n) c s in
        record { number = n; issued = h; lone = l; left_is = ap (λ (d : HopName × HopName). d.0) (sym same); right_is = ap (λ (d : HopName × HopName). d.1) (sym same) }

-- no issue of y goes on from z
lone_name : (issues : List Issue) (y z : HopName) (number : ℕ) (i : Issue) → list_any (is_child issues y z) issues ≡ false
    → issue_at issues number ≡ Some i → i.name ≡ y → name_of issues i.parent ≡ Some z → ⊥
lone_name issues y z number i lone there named parent =
    let at = at_place issues number i there in
    let fails = none_there (is_child issues y z) issues lone at.0 i at.1 in
    let passes = (is_child-Decides issues y z i).1 (named, parent) in
    cc

not_gone_on : (issues : List Issue) (y z : HopName) (c : HopName × HopName) → Breaks issues y z c → GoesOnFrom issues y z → ⊥
not_gone_on issues y z c b is = lone_name issues y z is.number is.issue b.lone is.there is.named is.parent_named

parent_name_is : (issues : List Issue) (number : ℕ) (i : Issue) (x : HopName) → issue_at issues number ≡ Some i → name_of issues i.parent ≡ Some x
    → parent_name issues number ≡ x
unfolding parent_name
parent_name_is issues number i x there named =
    ap (λ (o : Option Issue). unwrap_or (option_and_then (λ k. name_of issues k.parent) o) no_name) there ∙ ap (λ (o : Option HopName). unwrap_or o no_name) named

-- the link tag that y carries is both that of z and that of its parent
collided : (t : Network) (issues : List Issue) (y z : HopName) (c : HopName × HopName) → IssuesKept t issues → IsNext t y z → Breaks issues y z c
    → HaveOneLink t c.0 c.1
collided t issues y z c kept next b =
    let there = name_there issues b.number y (issued issues y b.number b.issued) in
    let i = there.0 in
    elim (kept b.number i there.1).placed [
      | inl root ↦
          (let first : i.name.body.pos ≡ 1 = root.position in
          let same : i.name.body.pos ≡ y.body.pos = ap (λ (x : HopName). x.body.pos) there.2 in
          let e = next.position_is in
          let some = next.some in
          absurd (omega arith))
      | inr child ↦
          (let parent : name_of issues i.parent ≡ Some child.parent.name = named_there issues i.parent child.parent child.is_parent in
          let right : c.1 ≡ child.parent.name = b.right_is ∙ parent_name_is issues b.number i child.parent.name there.1 parent in
          record {
            differ = λ e. lone_name issues y z b.number i b.lone there.1 there.2 (parent ∙ ap Some (sym right ∙ (sym e ∙ b.left_is)));
            link_is =
                ap (link t) b.left_is
                ∙ (sym next.link_is ∙ (ap (λ (x : HopName). x.body.link) (sym there.2) ∙ (child.linked ∙ ap (link t) (sym right))));
          })
    ]

-- the hop that was passed before and at which the chain of a hop breaks
pub record Broken (f : Facts) (x : HopName) (p : Contents) (j : ℕ) (c : HopName × HopName) : Type 0 where
  pub pass : Pass
  pub not_first : is_first (place p.route.segments j) ≡ false
  pub passed : chain_pass f.passes p.route (j - 1) ≡ Some pass
  pub breaks : Breaks f.issues (higher (pass_name pass) x) (lower (pass_name pass) x) c

broken_at : (f : Facts) (x : HopName) (p : Contents) (j : ℕ) (c : HopName × HopName) → broken_chain f x p j ≡ Some c → Broken f x p j c
unfolding broken_chain
broken_at f x p j c e = by (is_first (place p.route.segments j)) (chain_pass f.passes p.route (j - 1)) refl refl e
  where
    by : (b : Bool) (o : Option Pass) → is_first (place p.route.segments j) ≡ b → chain_pass f.passes p.route (j - 1) ≡ o
        → (if b then None else option_and_then (λ w. broken_between f.issues (higher (pass_name w) x) (lower (pass_name w) x)) o) ≡ Some c
        → Broken f x p j c
    by true o h k s = absurd (cc)
    by false None h k s = absurd (cc)
    by false (Some w) h k s = record { pass = w; not_first = h; passed = k; breaks = breaks f.issues (higher (pass_name w) x) (lower (pass_name w) x) c s }

-- a hop at which the chain breaks isn't chained
pub not_chained : (f : Facts) (x : HopName) (p : Contents) (j : ℕ) (c : HopName × HopName) → broken_chain f x p j ≡ Some c → IsChained f x p j → ⊥
not_chained f x p j c e is =
    let b = broken_at f x p j c e in
    let y = higher (pass_name b.pass) x in
    not_gone_on f.issues y (lower (pass_name b.pass) x) c b.breaks
    (is b.pass b.not_first b.passed (record { number = b.breaks.number; named = issued f.issues y b.breaks.number b.breaks.issued }))

-- where it doesn't break, the hop is
gone_on : (issues : List Issue) (y z : HopName) → broken_between issues y z ≡ None → IsIssued issues y → GoesOnFrom issues y z
unfolding broken_between
gone_on issues y z e is = by (issue_of issues y) (list_any (is_child issues y z) issues) refl refl e
  where
    by : (o : Option ℕ) (b : Bool) → issue_of issues y ≡ o → list_any (is_child issues y z) issues ≡ b → broken issues z o b ≡ None → GoesOnFrom issues y z
    by None b h l s = absurd (unissued issues y h is)
    by (Some n) false h l s = absurd (cc)
    by (Some n) true h l s =
        let there = any_there (is_child issues y z) issues l in
        let child = (is_child-Decides issues y z there.1).0 there.3 in
        record { number = suc there.0; issue = there.1; there = issue_at-suc issues there.0 ∙ there.2; named = child.0; parent_named = child.1 }

pub chained : (f : Facts) (x : HopName) (p : Contents) (j : ℕ) → broken_chain f x p j ≡ None → IsChained f x p j
unfolding broken_chain
chained f x p j e w first passed is =
    gone_on f.issues (higher (pass_name w) x) (lower (pass_name w) x)
    (sym (ap (λ (b : Bool). if b then None else option_and_then (λ v. broken_between f.issues (higher (pass_name v) x) (lower (pass_name v) x)) (chain_pass f.passes p.route (j - 1))) first
    ∙ ap (option_and_then (λ v. broken_between f.issues (higher (pass_name v) x) (lower (pass_name v) x))) passed) ∙ e)
    is

-- the two names at which the chain of an accepted hop breaks have one link tag
pub collided_in_chain : (t : Network) (f : Facts) (a : AsId) (g : ℕ) (p : Contents) (j : ℕ) (c : HopName × HopName) → ArePackets f → Kept t f
    → IsAccepted t a g p j → broken_chain f (hop_name a g p j) p j ≡ Some c → HaveOneLink t c.0 c.1
collided_in_chain t f a g p j c packets kept accepted e =
    let b = broken_at f (hop_name a g p j) p j c e in
    let w = b.pass in
    collided t f.issues (higher (pass_name w) (hop_name a g p j)) (lower (pass_name w) (hop_name a g p j)) c kept.issues
    (neighbours t f a g p j packets kept accepted w b.not_first b.passed)
    b.breaks
