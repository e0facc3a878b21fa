-- A lawful topology stays lawful with one more AS, and with one more link that fits.
use Rattle.std.proofs.Common.{◌≡◌, ◌≢◌, ℕ, zero, suc, ◌<◌, true, false, ◌==◌, [], ◌∷◌, length, get_or, Option, Some, None, is_some, option_map, refl, ap, sym, subst, ◌∙◌, inl, inr, arith}
use Rattle.std.specs.Prelude.{All}
use Rattle.std.proofs.lemmas.Bool.{and_parts, or_cases, and_from, eqb-true, eq-eqb, false≢true, false_from_ne_true, true≢false}
use Rattle.std.proofs.lemmas.List.{length_push}
use Rattle.std.proofs.lemmas.List.Elements.{All-append}
use Rattle.std.proofs.lemmas.List.Quantifiers.{all_pairs_push}
use Rattle.epic_num.specs.declared.name.AsId.{AsId}
use Rattle.epic_topo.specs.Lawful.{IsEnd, IsLink, IsSystem, IsNewLink, IsNewSystem, IsTopology, HasOtherEnds}
use Rattle.epic_num.specs.Same.{same_as}
use Rattle.epic_topo.specs.Network.{Network, system_of, link_at, has, is_core, neighbour, keeps_core_rule, is_taken, is_end, ends_at, other_end, with_system, with_link}
use Rattle.epic_topo.specs.declared.network.End.{End}
use Rattle.epic_topo.specs.declared.network.Link.{Link}
use Rattle.epic_topo.specs.declared.network.System.{System}
use Rattle.epic_topo.proofs.Finds.{missing}

-- ---- small facts

pub as_equal : (a b : AsId) → same_as a b ≡ true → a ≡ b
unfolding same_as
as_equal a b e = let same : a.0 ≡ b.0 = eqb-true a.0 b.0 e in λ i. record { 0 = same i }

pub as_same : (a b : AsId) → a ≡ b → same_as a b ≡ true
unfolding same_as
as_same a b e = eq-eqb a.0 b.0 (ap (λ (x : AsId). x.0) e)

-- an end stands at its own interface
pub own_end : (e : End) → is_end e.asn e.iface e ≡ true
unfolding same_as
own_end e = and_from _ _ (eq-eqb e.asn.0 e.asn.0 refl) (eq-eqb e.iface e.iface refl)

-- where nothing was found, nothing is there
pub none_from : {X : Type 0} (o : Option X) → is_some o ≡ false → o ≡ None
none_from None h = refl
none_from (Some x) h = absurd (cc)

mapped_none : {X Y : Type 0} (f : X → Y) (o : Option X) → is_some (option_map f o) ≡ false → o ≡ None
mapped_none f None h = refl
mapped_none f (Some x) h = absurd (cc)

one_of : {X : Type 0} (P : X → Type 0) (x : X) → P x → All P (x ∷ [])
one_of P x h zero d lt = h
one_of P x h (suc k) d lt = absurd (omega arith)

-- ---- one more AS

-- no entry has the number of an AS that isn't there
pub absent : (n : Network) (asn : AsId) → has n asn ≡ false → system_of n asn ≡ None
unfolding has
absent n asn h = none_from (system_of n asn) h

pub grown_system : (n : Network) (s : System) → IsTopology n → n.links ≡ []
    → length n.systems < 4096 → IsNewSystem n s → IsTopology (with_system n s)
grown_system n s t none few is =
    record {
      settings = t.settings;
      few_systems = omega (arith, length_push n.systems s);
      few_links = t.few_links;
      each_system = All-append IsSystem n.systems (s ∷ []) t.each_system (one_of IsSystem s is.lawful);
      other_systems = all_pairs_push (λ (x y : System). x.asn ≢ y.asn) n.systems s t.other_systems
          (λ k d lt e. false≢true (sym (missing (λ x. same_as x.asn s.asn) n.systems (absent n s.asn is.new) k d lt) ∙ as_same _ _ e));
      each_link = subst (All (IsLink (with_system n s))) (sym none) (λ k d lt. absurd (omega arith));
      other_ends = t.other_ends;
    }

-- ---- one more link

-- no link ends at an interface that isn't taken
pub free : (n : Network) (e : End) → is_taken n e ≡ false → link_at n e.asn e.iface ≡ None
unfolding neighbour
free n e h = mapped_none (other_end e.asn e.iface) (link_at n e.asn e.iface) h

end_stays : (n : Network) (l : Link) (e : End) → IsEnd n e → IsEnd (with_link n l) e
unfolding has
end_stays n l e h = record { known = h.known; some_iface = h.some_iface; iface = h.iface }

rule_stays : (n : Network) (l m : Link) → keeps_core_rule n m ≡ true → keeps_core_rule (with_link n l) m ≡ true
unfolding keeps_core_rule is_core
rule_stays n l m h = h

link_stays : (n : Network) (l m : Link) → IsLink n m → IsLink (with_link n l) m
link_stays n l m h =
    record { a = end_stays n l m.a h.a; b = end_stays n l m.b h.b; joins_two = h.joins_two; rule = rule_stays n l m h.rule }

-- an interface at which an end stands
same_end : (asn : AsId) (iface : ℕ) (e : End) (l : Link) → is_end asn iface e ≡ true → ends_at asn iface l ≡ ends_at e.asn e.iface l
same_end asn iface e l h =
    let parts = and_parts (same_as e.asn asn) (e.iface == iface) h in
    let same : e.asn ≡ asn = as_equal e.asn asn parts.0 in
    let at : e.iface ≡ iface = eqb-true e.iface iface parts.1 in
    λ i. ends_at (sym same i) (sym at i) l

apart : (n : Network) (l : Link) → IsNewLink n l → (k : ℕ) (d : Link) → k < length n.links → HasOtherEnds (get_or n.links k d) l
apart n l new k d lt asn iface h =
    false_from_ne_true (ends_at asn iface l) (λ both. elim (or_cases (is_end asn iface l.a) (is_end asn iface l.b) both) [
      | inl at ↦ true≢false (sym h ∙ (same_end asn iface l.a (get_or n.links k d) at
          ∙ missing (ends_at l.a.asn l.a.iface) n.links (free n l.a new.free_a) k d lt))
      | inr at ↦ true≢false (sym h ∙ (same_end asn iface l.b (get_or n.links k d) at
          ∙ missing (ends_at l.b.asn l.b.iface) n.links (free n l.b new.free_b) k d lt))
    ])

pub grown_link : (n : Network) (l : Link) → IsTopology n → length n.links < 16384 → IsNewLink n l → IsTopology (with_link n l)
grown_link n l t few new =
    record {
      settings = t.settings;
      few_systems = t.few_systems;
      few_links = omega (arith, length_push n.links l);
      each_system = t.each_system;
      other_systems = t.other_systems;
      each_link = All-append (IsLink (with_link n l)) n.links (l ∷ [])
          (λ k d lt. link_stays n l (get_or n.links k d) (t.each_link k d lt))
          (one_of (IsLink (with_link n l)) l (link_stays n l l new.link));
      other_ends = all_pairs_push HasOtherEnds n.links l t.other_ends (apart n l new);
    }
