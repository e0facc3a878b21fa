-- In a lawful topology each link leads back from its other end, and each AS has one place.
use Rattle.std.proofs.Common.{◌≡◌, ℕ, ◌<◌, ◌≤◌, Bool, true, false, not, ◌&&◌, ◌==◌, length, get_or, Option, Some, None, IfSome, is_some, option_map, slice_get, refl, ap, sym, subst, ◌∙◌, inl, inr, arith}
use Rattle.std.proofs.lemmas.Bool.{and_parts, and_from, or_cases, or_left, or_right, cond_both, cond-true, cond-false, cases_order, eqb-true, eq-eqb, false≢true, false_from_ne_true, true_from_ne_false}
use Rattle.std.proofs.lemmas.Option.{slice_get-get_or, slice_get_within, get_or_from_slice_get}
use Rattle.epic_num.specs.Names.{IsReadable, isd_part}
use Rattle.epic_num.specs.declared.name.AsId.{AsId}
use Rattle.epic_topo.specs.Lawful.{HasReadableNames, IsSystem, HasOnePlaceEach, IsLink, IsLinked, IsTopology, LinksLeadBack}
use Rattle.epic_num.specs.Same.{same_as}
use Rattle.epic_topo.specs.Network.{Network, same_isd, system_of, link_at, has, is_core, as_at, neighbour, turned, follows_core_rule, keeps_core_rule, is_end, ends_at, other_end}
use Rattle.epic_topo.specs.declared.link_kind.LinkKind.{LinkKind}
use Rattle.epic_topo.specs.declared.link_kind.LinkKind.TheVariants.{Core, Parent, Child}
use Rattle.epic_topo.specs.declared.network.End.{End}
use Rattle.epic_topo.specs.declared.network.Link.{Link}
use Rattle.epic_topo.specs.declared.network.System.{System}
use Rattle.epic_topo.proofs.Finds.{find_only, found, missing}
use Rattle.epic_topo.proofs.Grown.{as_equal, as_same, none_from, own_end}

-- ---- links

turned_twice : (k : LinkKind) → turned (turned k) ≡ k
turned_twice Core = refl
turned_twice Parent = refl
turned_twice Child = refl

and_turned : (x y : Bool) → (x && y) ≡ true → (y && x) ≡ true
and_turned x y h = let parts = and_parts x y h in and_from y x parts.1 parts.0

isd_turned : (a b : AsId) → same_isd a b ≡ true → same_isd b a ≡ true
isd_turned a b h = eq-eqb (isd_part b.0) (isd_part a.0) (sym (eqb-true (isd_part a.0) (isd_part b.0) h))

-- the rule, seen from the other end
rule_turned : (n : Network) (a b : AsId) (k : LinkKind) → follows_core_rule n a b k ≡ true → follows_core_rule n b a (turned k) ≡ true
rule_turned n a b Core h = and_turned (is_core n a) (is_core n b) h
rule_turned n a b Parent h =
    let parts = and_parts (not (is_core n b)) (same_isd a b) h in and_from _ _ parts.0 (isd_turned a b parts.1)
rule_turned n a b Child h =
    let parts = and_parts (not (is_core n a)) (same_isd a b) h in and_from _ _ parts.0 (isd_turned a b parts.1)

-- a link of the topology is the one at each of its ends
link_there : (n : Network) (l : Link) (i : ℕ) (e : End) → IsTopology n → i < length n.links → get_or n.links i l ≡ l
    → ends_at e.asn e.iface l ≡ true → link_at n e.asn e.iface ≡ Some l
link_there n l i e t within item here =
    let here_too : ends_at e.asn e.iface (get_or n.links i l) ≡ true = ap (ends_at e.asn e.iface) item ∙ here in
    find_only (ends_at e.asn e.iface) n.links l i within item here (λ k lt ends.
    elim (cases_order k i) [
      | inl same ↦ ap (λ j. get_or n.links j l) same ∙ item
      | inr (inl before) ↦ absurd (false≢true (sym (t.other_ends k i l before within e.asn e.iface ends) ∙ here_too))
      | inr (inr later) ↦ absurd (false≢true (sym (t.other_ends i k l later lt e.asn e.iface here_too) ∙ ends))
    ])

from_a : (n : Network) (l : Link) (i : ℕ) → IsTopology n → i < length n.links → get_or n.links i l ≡ l → IsLink n l
    → IsLinked n l.a.asn l.a.iface (l.b.asn, l.b.iface, l.kind)
unfolding neighbour keeps_core_rule
from_a n l i t within item is =
    let other : is_end l.b.asn l.b.iface l.a ≡ false =
    false_from_ne_true _ (λ same. is.joins_two (as_equal l.a.asn l.b.asn (and_parts _ _ same).0)) in
    let far : other_end l.b.asn l.b.iface l ≡ (l.a.asn, l.a.iface, turned l.kind) = cond-false _ _ _ other in
    let there : ends_at l.b.asn l.b.iface l ≡ true = or_right (is_end l.b.asn l.b.iface l.a) _ (own_end l.b) in
    record {
      back = ap (option_map (other_end l.b.asn l.b.iface)) (link_there n l i l.b t within item there) ∙ ap Some far;
      near_end = is.a;
      far_end = is.b;
      joins_two = is.joins_two;
      rule = is.rule;
    }

from_b : (n : Network) (l : Link) (i : ℕ) → IsTopology n → i < length n.links → get_or n.links i l ≡ l → IsLink n l
    → IsLinked n l.b.asn l.b.iface (l.a.asn, l.a.iface, turned l.kind)
unfolding neighbour keeps_core_rule
from_b n l i t within item is =
    let far : other_end l.a.asn l.a.iface l ≡ (l.b.asn, l.b.iface, turned (turned l.kind)) =
    cond-true _ _ _ (own_end l.a) ∙ ap (λ k. (l.b.asn, l.b.iface, k)) (sym (turned_twice l.kind)) in
    let there : ends_at l.a.asn l.a.iface l ≡ true = or_left (is_end l.a.asn l.a.iface l.a) _ (own_end l.a) in
    record {
      back = ap (option_map (other_end l.a.asn l.a.iface)) (link_there n l i l.a t within item there) ∙ ap Some far;
      near_end = is.b;
      far_end = is.a;
      joins_two = λ e. is.joins_two (sym e);
      rule = rule_turned n l.a.asn l.b.asn l.kind is.rule;
    }

-- what holds at an end holds at the interface at which it stands
moved : (n : Network) (asn : AsId) (iface : ℕ) (e : End) (far : AsId × ℕ × LinkKind) → is_end asn iface e ≡ true
    → IsLinked n e.asn e.iface far → IsLinked n asn iface far
moved n asn iface e far at h =
    let parts = and_parts (same_as e.asn asn) (e.iface == iface) at in
    let same : e.asn ≡ asn = as_equal e.asn asn parts.0 in
    let there : e.iface ≡ iface = eqb-true e.iface iface parts.1 in
    subst (λ a. IsLinked n a iface far) same (subst (λ f. IsLinked n e.asn f far) there h)

linked_by : (n : Network) (asn : AsId) (iface : ℕ) (o : Option Link) → IsTopology n → link_at n asn iface ≡ o
    → IfSome (option_map (other_end asn iface) o) (IsLinked n asn iface)
linked_by n asn iface None t e = tt
linked_by n asn iface (Some l) t e =
    let f = found (ends_at asn iface) n.links l e in
    let is : IsLink n l = subst (IsLink n) f.item (t.each_link f.index l f.within) in
    cond_both (is_end asn iface l.a) (l.b.asn, l.b.iface, l.kind) (l.a.asn, l.a.iface, turned l.kind) (IsLinked n asn iface)
    (λ at. moved n asn iface l.a _ at (from_a n l f.index t f.within f.item is))
    (λ not_a. elim (or_cases (is_end asn iface l.a) (is_end asn iface l.b) f.passes) [
      | inl at ↦ absurd (false≢true (sym not_a ∙ at))
      | inr at ↦ moved n asn iface l.b _ at (from_b n l f.index t f.within f.item is)
    ])

pub linked_at : (n : Network) (asn : AsId) (iface : ℕ) (l : Link) → IsTopology n → link_at n asn iface ≡ Some l
    → IsLinked n asn iface (other_end asn iface l)
linked_at n asn iface l t e = linked_by n asn iface (Some l) t e

pub links_lead_back : (n : Network) → IsTopology n → LinksLeadBack n
unfolding neighbour
links_lead_back n t asn iface = linked_by n asn iface (link_at n asn iface) t refl

-- ---- places of ASes

mapped_some : {X Y : Type 0} (f : X → Y) (o : Option X) (y : Y) → option_map f o ≡ Some y → (x : X) × (o ≡ Some x) × (f x ≡ y)
mapped_some f None y h = absurd (cc)
mapped_some f (Some x) y h = (x, refl, cc)

some_of : {X : Type 0} (o : Option X) → is_some o ≡ true → (x : X) × (o ≡ Some x)
some_of None h = absurd (cc)
some_of (Some x) h = (x, refl)

-- an AS that has a place has an entry
entry_there : (n : Network) (i : ℕ) (s : System) → slice_get n.systems i ≡ Some s → has n s.asn ≡ true
unfolding has
entry_there n i s e =
    true_from_ne_false _ (λ none. false≢true (
    sym (missing (λ x. same_as x.asn s.asn) n.systems (none_from (system_of n s.asn) none) i s (slice_get_within n.systems i s e))
    ∙ (ap (λ (x : System). same_as x.asn s.asn) (get_or_from_slice_get n.systems i s s e) ∙ as_same s.asn s.asn refl)))

pub one_place_each : (n : Network) → IsTopology n → HasOnePlaceEach n
unfolding as_at has
one_place_each n t = record { place = place; known = known; once = once }
  where
    place : (asn : AsId) → is_some (system_of n asn) ≡ true → (i : ℕ) × (option_map (λ (s : System). s.asn) (slice_get n.systems i) ≡ Some asn)
    place asn h =
        let s = some_of (system_of n asn) h in
        let f = found (λ x. same_as x.asn asn) n.systems s.0 s.1 in (
          f.index,
          ap (option_map (λ (x : System). x.asn)) (slice_get-get_or n.systems f.index s.0 f.within ∙ ap Some f.item)
              ∙ ap Some (as_equal s.0.asn asn f.passes),
        )

    known : (i : ℕ) (asn : AsId) → option_map (λ (s : System). s.asn) (slice_get n.systems i) ≡ Some asn → (i < 4096) × (is_some (system_of n asn) ≡ true)
    known i asn h =
        let s = mapped_some (λ (x : System). x.asn) (slice_get n.systems i) asn h in
        let within : i < length n.systems = slice_get_within n.systems i s.0 s.1 in
        let few : length n.systems ≤ 4096 = t.few_systems in
        (omega arith, subst (λ a. is_some (system_of n a) ≡ true) s.2 (entry_there n i s.0 s.1))

    apart : (i j : ℕ) (s r : System) → slice_get n.systems i ≡ Some s → slice_get n.systems j ≡ Some r → s.asn ≡ r.asn → i < j → ⊥
    apart i j s r e f same before =
        t.other_systems i j s before (slice_get_within n.systems j r f)
        (ap (λ (x : System). x.asn) (get_or_from_slice_get n.systems i s s e)
        ∙ (same ∙ ap (λ (x : System). x.asn) (sym (get_or_from_slice_get n.systems j r s f))))

    once : (i j : ℕ) (asn : AsId) → option_map (λ (s : System). s.asn) (slice_get n.systems i) ≡ Some asn
        → option_map (λ (s : System). s.asn) (slice_get n.systems j) ≡ Some asn → i ≡ j
    once i j asn h k =
        let s = mapped_some (λ (x : System). x.asn) (slice_get n.systems i) asn h in
        let r = mapped_some (λ (x : System). x.asn) (slice_get n.systems j) asn k in
        elim (cases_order i j) [
          | inl same ↦ same
          | inr (inl before) ↦ absurd (apart i j s.0 r.0 s.1 r.1 (s.2 ∙ sym r.2) before)
          | inr (inr later) ↦ absurd (apart j i r.0 s.0 r.1 s.1 (r.2 ∙ sym s.2) later)
        ]

pub names_readable : (n : Network) → IsTopology n → HasReadableNames n
unfolding has
names_readable n t asn h =
    let s = some_of (system_of n asn) h in
    let f = found (λ x. same_as x.asn asn) n.systems s.0 s.1 in
    let is : IsSystem s.0 = subst IsSystem f.item (t.each_system f.index s.0 f.within) in
    subst (λ (a : AsId). IsReadable a.0) (as_equal s.0.asn asn f.passes) is.named
