-- Segments that were accepted are whole chains.
use Rattle.std.proofs.Common.{◌≡◌, ℕ, zero, suc, ◌+◌, ◌≤◌, true, false, List, [], ◌∷◌, ◌++◌, length, map, get_or, refl, ap, sym, ◌∙◌, subst, arith, add-one, inl, inr}
use Rattle.std.specs.Prelude.{reverse, Option, Some, None, option_map, slice_get, if◌then◌else◌, ◌==◌}
use Rattle.std.specs.List.{AllZip}
use Rattle.std.specs.Option.{option_map_or}
use Rattle.std.proofs.lemmas.Bool.{cond-true, cond-false, eq-eqb}
use Rattle.std.proofs.lemmas.List.{length-map, length_push, length-reverse, take_all}
use Rattle.std.proofs.lemmas.List.FromFn.{length-range_with_len}
use Rattle.std.proofs.lemmas.Option.{slice_get-map, slice_get_within, get_or_from_slice_get}
use Rattle.std.proofs.lemmas.Slice.Zip.{AllZip-long}
use Rattle.epic_num.specs.declared.hop.HopName.{HopName}
use Rattle.epic_num.specs.Chains.{Issue, issue_at, last_names, chain, is_ended}
use Rattle.epic_layout.specs.declared.head.HopPlace.{HopPlace}
use Rattle.epic_layout.specs.Contents.{IsRoute}
use Rattle.epic_layout.specs.Laws.{hops_before}
use Rattle.epic_layout.specs.Route.{Route, no_segment, place, successor, is_first, is_last, ingress, egress, body}
use Rattle.epic_layout.proofs.OneSpelling.{paths_are_one}
use Rattle.epic_topo.specs.Network.{Network}
use Rattle.epic_fields.specs.Tags.{link}
use Rattle.epic_ledger.specs.Facts.{Facts, Pass, pass_name}
use Rattle.epic_audit.specs.Chain.{travelled, built, IsPassAt, ArePassesOf, IsWhole, ChainsAreWhole, IssuedChainsAreWhole}
use Rattle.epic_audit.specs.Clauses.{IsIssued}
use Rattle.epic_audit.specs.Kept.{IsKeptPass, Kept, ArePackets}
use Rattle.epic_audit.proofs.Built.{IsBuilt, built_at, followed_by, ends_first, ends_last}
use Rattle.epic_audit.proofs.Chained.{linked_to}
use Rattle.epic_audit.proofs.Descent.{AreLinked, descend}
use Rattle.epic_audit.proofs.Queries.{name_there}

-- what stands beside an element of the second list
zipped : {A B : Type 0} (Q : A → B → Type 0) (xs : List A) (ys : List B) → AllZip Q xs ys → (m : ℕ) (y : B) → slice_get ys m ≡ Some y
    → (x : A) × (slice_get xs m ≡ Some x) × Q x y
zipped Q [] [] h m y e = absurd (cc)
zipped Q [] (z ∷ ys) h m y e = absurd h
zipped Q (x ∷ xs) [] h m y e = absurd h
zipped Q (x ∷ xs) (z ∷ ys) h zero y e = let same : z ≡ y = cc in (x, refl, subst (Q x) same h.0)
zipped Q (x ∷ xs) (z ∷ ys) h (suc m) y e = zipped Q xs ys h.1 m y e

named : (ws : List Pass) (m : ℕ) (x : HopName) → slice_get (map pass_name ws) m ≡ Some x → (w : Pass) × (slice_get ws m ≡ Some w) × (pass_name w ≡ x)
named ws m x e = by (slice_get ws m) refl (sym (slice_get-map pass_name ws m) ∙ e)
  where
    by : (o : Option Pass) → slice_get ws m ≡ o → option_map pass_name o ≡ Some x → (w : Pass) × (slice_get ws m ≡ Some w) × (pass_name w ≡ x)
    by None g s = absurd (cc)
    by (Some w) g s = (w, g, cc)

-- a list with an element has a last one
last_of : (ws : List Pass) → 1 ≤ length ws → (m : ℕ) × (w : Pass) × (slice_get ws m ≡ Some w) × (m + 1 ≡ length ws)
last_of [] h = absurd (omega arith)
last_of (w ∷ []) h = (0, w, refl, refl)
last_of (w ∷ v ∷ ws) h = let l = last_of (v ∷ ws) (omega arith) in (suc l.0, l.1, l.2, (let e = l.3 in omega arith))

at_end : (ws : List Pass) (w : Pass) → slice_get (ws ++ w ∷ []) (length ws) ≡ Some w
at_end [] w = refl
at_end (v ∷ ws) w = at_end ws w

-- ---- one hop

-- against construction order a hop goes out where the packet comes in, else where it leaves
out_of_ingress : (r : Route) (j : ℕ) → (place r.segments j).head.against ≡ true → ingress r j ≡ 0 → (body r j).out ≡ 0
unfolding ingress body
out_of_ingress r j a e = sym (cond-true _ _ _ a) ∙ e

out_of_egress : (r : Route) (j : ℕ) → (place r.segments j).head.against ≡ false → egress r j ≡ 0 → (body r j).out ≡ 0
unfolding egress body
out_of_egress r j a e = sym (cond-false _ _ _ a) ∙ e

is_closed : (issues : List Issue) (n : ℕ) (i : Issue) → issue_at issues n ≡ Some i → i.name.body.out ≡ 0 → is_ended issues n ≡ true
unfolding is_ended
is_closed issues n i there e = ap (λ (o : Option Issue). option_map_or (λ k. k.name.body.out == 0) o false) there ∙ eq-eqb i.name.body.out 0 e

chain_to : (issues : List Issue) (n : ℕ) (i : Issue) (m : ℕ) → issue_at issues n ≡ Some i → i.name.body.pos ≡ m + 1
    → chain issues n ≡ last_names issues (suc m) n
unfolding chain
chain_to issues n i m there e =
    ap (λ (o : Option Issue). option_map_or (λ k. last_names issues k.name.body.pos n) o []) there
    ∙ ap (λ most. last_names issues most n) (e ∙ add-one m)

-- an accepted hop of a segment, at position m + 1
record IsHop (t : Network) (f : Facts) (route : Route) (i m : ℕ) (w : Pass) : Type 0 where
  index : ℕ
  built : IsBuilt route.segments i m index
  hop_is : w.hop ≡ index
  route_is : w.packet.route ≡ route
  kept : IsKeptPass t w

module _ (t : Network) (f : Facts) (packets : ArePackets f) (keeps : Kept t f) (route : Route) (i : ℕ) (ws : List Pass) (is_route : IsRoute route) (of : ArePassesOf f.passes route i ws) where
  at : (m : ℕ) (w : Pass) → slice_get ws m ≡ Some w → IsHop t f route i m w
  at m w e =
      let z = zipped (IsPassAt f.passes route) (built route.segments i) ws of.each m w e in
      let a = z.2 in
      record {
        index = z.0;
        built = built_at route.segments i m z.0 of.segment_there z.1;
        hop_is = a.hop_is;
        route_is = (paths_are_one w.packet.route route (packets.passed a.index w a.there).route is_route a.path_is).routes;
        kept = keeps.passes a.index w a.there;
      }

  body_is : (m : ℕ) (w : Pass) (h : IsHop t f route i m w) → (pass_name w).body ≡ body route h.index
  unfolding pass_name
  body_is m w h = ap (λ (r : Route). body r w.hop) h.route_is ∙ ap (body route) h.hop_is

  stands : (m : ℕ) (w : Pass) → slice_get ws m ≡ Some w → (pass_name w).body.pos ≡ m + 1
  unfolding body
  stands m w e = let h = at m w e in ap (λ b. b.pos) (body_is m w h) ∙ h.built.position_is

  carries : (m : ℕ) (w v : Pass) → slice_get ws m ≡ Some w → slice_get ws (m + 1) ≡ Some v → (pass_name v).body.link ≡ link t (pass_name w)
  carries m w v e f' =
      let x = at m w e in
      let y = at (m + 1) v f' in
      let next : successor (place w.packet.route.segments w.hop) w.hop ≡ Some y.index =
      ap (λ (r : Route). successor (place r.segments w.hop) w.hop) x.route_is
      ∙ (ap (λ k. successor (place route.segments k) k) x.hop_is ∙ followed_by route.segments i m x.index y.index x.built y.built)
      in
      ap (λ b. b.link) (body_is (m + 1) v y)
      ∙ (ap (λ (r : Route). (body r y.index).link) (sym x.route_is) ∙ linked_to t (pass_name w) w.packet y.index w.hop x.kept.linked next)

  names : AreLinked t (map pass_name ws)
  names = record {
    positions = λ m x e.
        (let w = named ws m x e in ap (λ (n : HopName). n.body.pos) (sym w.2) ∙ stands m w.0 w.1);
    links = λ m x y e f'.
        (let w = named ws m x e in
        let v = named ws (m + 1) y f' in
        ap (λ (n : HopName). n.body.link) (sym v.2) ∙ (carries m w.0 v.0 w.1 v.1 ∙ ap (link t) w.2));
  }

  -- as many hops as the segment has
  counted : length ws ≡ (get_or route.segments i no_segment).count
  unfolding built travelled
  counted =
      let s = get_or route.segments i no_segment in
      let hops : List ℕ = travelled route.segments i in
      AllZip-long (IsPassAt f.passes route) (built route.segments i) ws of.each
      ∙ (elim s.against as (λ b. length (if b then reverse hops else hops) ≡ length hops) [ true ↦ length-reverse hops | false ↦ refl ]
      ∙ length-range_with_len (hops_before route.segments i) s.count)

  -- the last has no interface behind it
  closed : (m : ℕ) (w : Pass) → slice_get ws m ≡ Some w → m + 1 ≡ length ws → (pass_name w).body.out ≡ 0
  closed m w e last =
      let h = at m w e in
      let s = get_or route.segments i no_segment in
      let all : m + 1 ≡ s.count = last ∙ counted in
      let head : (place route.segments h.index).head.against ≡ s.against = ap (λ (p : HopPlace). p.head.against) h.built.place_is in
      ap (λ b. b.out) (body_is m w h)
      ∙ (elim s.against as (λ b. s.against ≡ b → (body route h.index).out ≡ 0) [
        | true ↦ λ a.
            out_of_ingress route h.index (head ∙ a)
            (moved (λ r j. is_first (place r.segments j) ≡ true → ingress r j ≡ 0) h h.kept.no_ingress (ends_first route.segments i m h.index h.built all a))
        | false ↦ λ a.
            out_of_egress route h.index (head ∙ a)
            (moved (λ r j. is_last (place r.segments j) ≡ true → egress r j ≡ 0) h h.kept.no_egress (ends_last route.segments i m h.index h.built all a))
      ] refl)
    where
      moved : (P : Route → ℕ → Type 0) (h : IsHop t f route i m w) → P w.packet.route w.hop → P route h.index
      moved P h x = subst (P route) h.hop_is (subst (λ (r : Route). P r w.hop) h.route_is x)

  length_names : length (map pass_name ws) ≡ length ws
  length_names = simp length-map

  whole : (m : ℕ) (last : Pass) → slice_get ws m ≡ Some last → m + 1 ≡ length ws → IsIssued f.issues (pass_name last) → IsWhole t f.issues (map pass_name ws)
  whole m last e all issued =
      let there = name_there f.issues issued.number (pass_name last) issued.named in
      let x = there.0 in
      let at_name : slice_get (map pass_name ws) m ≡ Some x.name = slice_get-map pass_name ws m ∙ (ap (option_map pass_name) e ∙ ap Some (sym there.2)) in
      elim (descend t f.issues (map pass_name ws) keeps.issues names m issued.number x there.1 at_name) [
        | inl down ↦
            inl (record {
              number = issued.number;
              ended = is_closed f.issues issued.number x there.1 (ap (λ (n : HopName). n.body.out) there.2 ∙ closed m last e all);
              chain_is =
                  chain_to f.issues issued.number x m there.1 (ap (λ (n : HopName). n.body.pos) there.2 ∙ stands m last e)
                  ∙ (down ∙ take_all (suc m) (map pass_name ws) (let long = length_names in omega arith));
            })
        | inr broken ↦ inr broken
      ]

pub chains_are_whole : ChainsAreWhole
chains_are_whole t f packets keeps route i ws last is_route of issued =
    whole t f packets keeps route i (ws ++ last ∷ []) is_route of (length ws) last (at_end ws last) (sym (length_push ws last)) issued

pub issued_chains_are_whole : IssuedChainsAreWhole
issued_chains_are_whole t f packets keeps route i ws is_route of issued =
    let many = counted t f packets keeps route i ws is_route of in
    let some = (is_route.segments i no_segment of.segment_there).least in
    let l = last_of ws (omega arith) in
    whole t f packets keeps route i ws is_route of l.0 l.1 l.2 l.3
    (subst (λ (w : Pass). IsIssued f.issues (pass_name w)) (get_or_from_slice_get ws l.0 l.1 l.1 l.2) (issued l.0 l.1 (slice_get_within ws l.0 l.1 l.2)))
