-- The maps of a topology still lead to its ASes and links after one more AS or link.
use Rattle.std.proofs.Common.{◌≡◌, ℕ, ◌<◌, Bool, true, false, cond, ◌||◌, ◌&&◌, ◌==◌, [], ◌∷◌, ◌++◌, length, Some, None, Result, Ok, Err, is_ok, is_err, OnOk, BTreeMap, nat_cmp, is_eq, refl, ap, sym, subst, ◌∙◌, inl, inr, arith}
use Rattle.std.specs.BTreeMap.{get}
use Rattle.std.specs.Cmp.{tied_then}
use Rattle.std.proofs.lemmas.Bool.{and_parts, or_cases, eqb-true}
use Rattle.std.proofs.lemmas.Bool.Decides.{nat_tests}
use Rattle.epic_num.specs.declared.name.AsId.{AsId}
use Rattle.epic_topo.specs.Index.{IsIndexed, IsPlace, end_cmp}
use Rattle.epic_topo.specs.Lawful.{IsNewLink, IsNewSystem}
use Rattle.epic_num.specs.Same.{same_as}
use Rattle.epic_topo.specs.Network.{Network, system_of, link_at, is_taken, is_end, ends_at, with_system, with_link}
use Rattle.epic_topo.specs.declared.network.End.{End}
use Rattle.epic_topo.specs.declared.network.Link.{Link}
use Rattle.epic_topo.specs.declared.network.System.{System}
use Rattle.epic_topo.proofs.Finds.{place_pushed}
use Rattle.epic_topo.proofs.Grown.{absent, as_equal, free, grown_link, grown_system}

-- ---- answers of calls that take memory

pub ok_part : {T E : Type 0} (r : Result T E) (P : Type 0) → is_err r ≡ false → OnOk r P → P
ok_part (Ok x) P e h = h
ok_part (Err x) P e h = absurd (cc)

pub ok_value : {T E X : Type 0} (r : Result T E) (new x y : X) → is_err r ≡ false → new ≡ cond (is_ok r) x y → new ≡ x
ok_value (Ok z) new x y e h = h
ok_value (Err z) new x y e h = absurd (cc)

-- ---- one more AS

same_number : (a b : ℕ) → (a == b) ≡ is_eq (nat_cmp a b)
same_number a b = grind (arith, nat_tests)

pub indexed_system : (systems more : BTreeMap ℕ ℕ) (links : BTreeMap (ℕ × ℕ) ℕ) (n : Network) (s : System)
    → IsIndexed systems links n → n.links ≡ [] → length n.systems < 4096 → IsNewSystem n s
    → ((q : ℕ) → get nat_cmp more q ≡ cond (is_eq (nat_cmp s.asn.0 q)) (Some (length n.systems)) (get nat_cmp systems q))
    → IsIndexed more links (with_system n s)
unfolding same_as
indexed_system systems more links n s h none few is put =
    record {
      each_system = λ asn. subst (IsPlace (λ x. same_as x.asn asn) (n.systems ++ s ∷ [])) (sym (put asn.0))
          (place_pushed (λ x. same_as x.asn asn) n.systems s (get nat_cmp systems asn.0) (is_eq (nat_cmp s.asn.0 asn.0))
          (same_number s.asn.0 asn.0)
          (λ e. let same : s.asn ≡ asn = as_equal s.asn asn (same_number s.asn.0 asn.0 ∙ e) in
          subst (λ a. system_of n a ≡ None) same (absent n s.asn is.new))
          (h.each_system asn));
      each_end = h.each_end;
      lawful = grown_system n s h.lawful none few is;
    }

-- ---- one more link

same_place : (e : End) (asn : AsId) (iface : ℕ) → is_end asn iface e ≡ is_eq (end_cmp (e.asn.0, e.iface) (asn.0, iface))
unfolding same_as
same_place e asn iface =
    ap (λ b. b && (e.iface == iface)) (same_number e.asn.0 asn.0)
    ∙ (ap (λ b. is_eq (nat_cmp e.asn.0 asn.0) && b) (same_number e.iface iface)
    ∙ tied_then (nat_cmp e.asn.0 asn.0) (nat_cmp e.iface iface))

either : {X : Type 0} (s t : Bool) (x y : X) → cond (s || t) x y ≡ cond t x (cond s x y)
either true true x y = refl
either true false x y = refl
either false true x y = refl
either false false x y = refl

not_there : (n : Network) (e : End) (asn : AsId) (iface : ℕ) → is_taken n e ≡ false → is_end asn iface e ≡ true
    → link_at n asn iface ≡ None
not_there n e asn iface new at =
    let parts = and_parts (same_as e.asn asn) (e.iface == iface) at in
    let same : e.asn ≡ asn = as_equal e.asn asn parts.0 in
    let there : e.iface ≡ iface = eqb-true e.iface iface parts.1 in
    subst (λ a. link_at n a iface ≡ None) same (subst (λ f. link_at n e.asn f ≡ None) there (free n e new))

pub indexed_link : (systems : BTreeMap ℕ ℕ) (links more most : BTreeMap (ℕ × ℕ) ℕ) (n : Network) (l : Link)
    → IsIndexed systems links n → length n.links < 16384 → IsNewLink n l
    → ((q : ℕ × ℕ) → get end_cmp more q ≡ cond (is_eq (end_cmp (l.a.asn.0, l.a.iface) q)) (Some (length n.links)) (get end_cmp links q))
    → ((q : ℕ × ℕ) → get end_cmp most q ≡ cond (is_eq (end_cmp (l.b.asn.0, l.b.iface) q)) (Some (length n.links)) (get end_cmp more q))
    → IsIndexed systems most (with_link n l)
indexed_link systems links more most n l h few new put then =
    record {
      each_system = h.each_system;
      each_end = λ asn iface.
          let s = is_eq (end_cmp (l.a.asn.0, l.a.iface) (asn.0, iface)) in
          let t = is_eq (end_cmp (l.b.asn.0, l.b.iface) (asn.0, iface)) in
          let place = Some (length n.links) in
          let old = get end_cmp links (asn.0, iface) in
          let at_a = same_place l.a asn iface in
          let at_b = same_place l.b asn iface in
          let is : cond (s || t) place old ≡ get end_cmp most (asn.0, iface) =
          either s t place old ∙ (ap (cond t place) (sym (put (asn.0, iface))) ∙ sym (then (asn.0, iface))) in
          subst (IsPlace (ends_at asn iface) (n.links ++ l ∷ [])) is
          (place_pushed (ends_at asn iface) n.links l old (s || t)
          (ap (λ b. b || is_end asn iface l.b) at_a ∙ ap (λ b. s || b) at_b)
          (λ e. elim (or_cases s t e) [
            | inl a ↦ not_there n l.a asn iface new.free_a (at_a ∙ a)
            | inr b ↦ not_there n l.b asn iface new.free_b (at_b ∙ b)
          ])
          (h.each_end asn iface));
      lawful = grown_link n l h.lawful few new;
    }
