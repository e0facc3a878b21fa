-- The tags of a packet on its way are right under its hops' names.
use Rattle.std.proofs.Common.{◌≡◌, ◌≢◌, ℕ, zero, suc, ◌+◌, ◌-◌, ◌<◌, ◌≤◌, ◌⊎◌, inl, inr, Bool, true, false, List, [], ◌∷◌, length, Option, None, Some, refl, ap, sym, subst, ◌∙◌, ⊎_elim, arith}
use Rattle.std.specs.Prelude.{◌==◌, ◌&&◌, ◌||◌, bytes_eq, find, if◌then◌else◌}
use Rattle.std.specs.List.{list_any}
use Rattle.std.specs.Option.{option_map_or}
use Rattle.std.proofs.lemmas.Bool.{and_from, and_parts, or_left, or_right, cond-true, cond-false, cases_Bool, eqb-true, eqb-false}
use Rattle.std.proofs.lemmas.Option.{same_Some}
use Rattle.std.proofs.lemmas.Slice.Eq.{bytes_eq-Decides}
use Rattle.epic_num.specs.declared.hop.HopName.{HopName}
use Rattle.epic_num.specs.declared.name.AsId.{AsId}
use Rattle.epic_layout.specs.Contents.{Contents, hop_count, field}
use Rattle.epic_layout.specs.Route.{place, successor, hop, body}
use Rattle.epic_topo.specs.Network.{Network}
use Rattle.epic_fields.specs.Tags.{link}
use Rattle.epic_fields.specs.HopChecks.{hop_name, carries_field, carries_link, has_field, has_link}
use Rattle.epic_layout.specs.Spelling.{dest_message}
use Rattle.epic_fields.specs.Formulas.{dest_tag}
use Rattle.epic_fields.specs.PacketTags.{field_of, dest_name, dest_field_of}
use Rattle.epic_router.specs.Candidates.{field_fits, tags_fit, some_field_fits, accepting, candidates_of}
use Rattle.epic_router.proofs.Stamps.{field_stamp}
use Rattle.epic_num.specs.Levels.{is_updated}
use Rattle.epic_ends.specs.SentPackets.{PacketsStayRight}
use Rattle.epic_ends.specs.Ways.{IsRoad, IsMade, updates_of, on_way}
use Rattle.epic_ends.proofs.Ways.{on_field, on_stamp, at_end, length-updates, count_updated}

-- ---- the generations that are tried

-- this is the one that is found first among the candidates
pub two_found : (test : ℕ → Bool) (present g : ℕ) → test g ≡ true → (g ≡ present) ⊎ ((g + 1 ≡ present) × (test present ≡ false))
    → find test (candidates_of present) ≡ Some g
unfolding candidates_of
two_found test present g fits at =
    ⊎_elim
    (λ e. ⊎_elim
    (λ z. (let zero_is : 0 ≡ g = sym (eqb-true present 0 z) ∙ sym e in
    ap (find test) (cond-true (present == 0) (0 ∷ []) (present ∷ (present - 1) ∷ []) z)
    ∙ (cond-true (test 0) (Some 0) None (ap test zero_is ∙ fits) ∙ ap Some zero_is)))
    (λ nz. ap (find test) (cond-false (present == 0) (0 ∷ []) (present ∷ (present - 1) ∷ []) nz)
    ∙ (cond-true (test present) (Some present) _ (ap test (sym e) ∙ fits) ∙ ap Some (sym e)))
    (cases_Bool (present == 0)))
    (λ before. (let prior : present - 1 ≡ g = omega (arith, before.0) in
    ⊎_elim
    (λ z. absurd (omega (arith, before.0, eqb-true present 0 z)))
    (λ nz. ap (find test) (cond-false (present == 0) (0 ∷ []) (present ∷ (present - 1) ∷ []) nz)
    ∙ (cond-false (test present) (Some present) _ before.1
    ∙ (cond-true (test (present - 1)) (Some (present - 1)) None (ap test prior ∙ fits) ∙ ap Some prior)))
    (cases_Bool (present == 0))))
    at

found_any : (test wider : ℕ → Bool) (xs : List ℕ) (g : ℕ) → find test xs ≡ Some g → wider g ≡ true → list_any wider xs ≡ true
found_any test wider [] g e h = absurd (cc)
found_any test wider (x ∷ xs) g e h =
    ⊎_elim
    (λ yes. or_left _ _ (ap wider (same_Some x g (sym (cond-true (test x) (Some x) (find test xs) yes) ∙ e)) ∙ h))
    (λ no. or_right (wider x) _ (found_any test wider xs g (sym (cond-false (test x) (Some x) (find test xs) no) ∙ e) h))
    (cases_Bool (test x))

-- ---- tags

same_bytes : (xs ys : List ℕ) → xs ≡ ys → bytes_eq xs ys ≡ true
same_bytes xs ys e = (bytes_eq-Decides xs ys).1 e

-- hop k of a packet on its way at hop j or before is tested as it was sent
pub tags_on : (t : Network) (us : List (List ℕ)) (p : Contents) (a : AsId) (j k g : ℕ) → (is_updated p.first ≡ true → j ≤ length us) → j ≤ k
    → tags_fit t a (on_way us p j) k g ≡ tags_fit t a p k g
unfolding tags_fit field_fits has_field has_link carries_field carries_link hop_name on_way
tags_on t us p a j k g long h =
    let x : HopName = record { asn = a; generation = g; body = body p.route k } in
    let linked = option_map_or (λ s. bytes_eq (hop p.route s).link (link t x)) (successor (place p.route.segments k) k) true in
    ap (λ v. bytes_eq v (field_of t x (on_way us p j) k) && linked) (on_field us p j k long h)
    ∙ ap (λ v. bytes_eq (field p k) v && linked) (field_stamp t x p (on_way us p j) k (on_stamp us p j))

name_is : (a : AsId) (p : Contents) (k : ℕ) (x : HopName) → x.asn ≡ a → x.body ≡ body p.route k → hop_name a x.generation p k ≡ x
unfolding hop_name
name_is a p k x asn same i = record { asn = sym asn i; generation = x.generation; body = sym same i }

pub name_on : (t : Network) (p : Contents) (x : ℕ → HopName) (k : ℕ) → IsRoad t p x → k < hop_count p → hop_name (x k).asn (x k).generation p k ≡ x k
name_on t p x k road within = name_is (x k).asn p k (x k) refl (road.bodies k within)

-- under the hop's own generation they are right
pub tags_right : (t : Network) (p : Contents) (x : ℕ → HopName) (k : ℕ) → IsRoad t p x → IsMade t p x → k < hop_count p
    → tags_fit t (x k).asn p k (x k).generation ≡ true
unfolding tags_fit field_fits has_field has_link carries_field carries_link
tags_right t p x k road made within =
    let named = name_on t p x k road within in
    subst (λ y. (bytes_eq (field p k) (field_of t y p k) && option_map_or (λ s. bytes_eq (hop p.route s).link (link t y)) (successor (place p.route.segments k) k) true) ≡ true) (sym named)
    (and_from _ _ (same_bytes (field p k) (field_of t (x k) p k) (made.fields k within))
    (linked (successor (place p.route.segments k) k) refl))
  where
    linked : (o : Option ℕ) → successor (place p.route.segments k) k ≡ o → option_map_or (λ s. bytes_eq (hop p.route s).link (link t (x k))) o true ≡ true
    linked None e = refl
    linked (Some s) e = same_bytes (hop p.route s).link (link t (x k)) (road.linked k s within e)

-- the hop's forwarding key is in force where this is its AS's present generation
abbrev pub InForce : Network → ℕ → Contents → HopName → ℕ → Type 0
InForce t present p x k = (x.generation ≡ present) ⊎ ((x.generation + 1 ≡ present) × (tags_fit t x.asn p k present ≡ false))

-- then the hop is accepted under its own generation
pub accepted_on : (t : Network) (us : List (List ℕ)) (p : Contents) (x : ℕ → HopName) (present j k : ℕ) → IsRoad t p x → IsMade t p x
    → (is_updated p.first ≡ true → j ≤ length us) → j ≤ k → k < hop_count p → InForce t present p (x k) k
    → accepting t (x k).asn (candidates_of present) (on_way us p j) k ≡ Some (x k).generation
unfolding accepting
accepted_on t us p x present j k road made long h within force =
    let a = (x k).asn in
    let on : (g : ℕ) → tags_fit t a (on_way us p j) k g ≡ tags_fit t a p k g = λ g. tags_on t us p a j k g long h in
    two_found (tags_fit t a (on_way us p j) k) present (x k).generation (on (x k).generation ∙ tags_right t p x k road made within)
    (⊎_elim (λ e. inl e) (λ e. inr (e.0, on present ∙ e.1)) force)

-- and its field is right under one of them
pub field_on : (t : Network) (us : List (List ℕ)) (p : Contents) (x : ℕ → HopName) (present j k : ℕ) → IsRoad t p x → IsMade t p x
    → (is_updated p.first ≡ true → j ≤ length us) → j ≤ k → k < hop_count p → InForce t present p (x k) k
    → some_field_fits t (x k).asn (candidates_of present) (on_way us p j) k ≡ true
unfolding some_field_fits accepting tags_fit
field_on t us p x present j k road made long h within force =
    let q = on_way us p j in
    let a = (x k).asn in
    let right = tags_on t us p a j k (x k).generation long h ∙ tags_right t p x k road made within in
    found_any (tags_fit t a q k) (field_fits t a q k) (candidates_of present) (x k).generation
    (accepted_on t us p x present j k road made long h within force) (and_parts _ _ right).0

-- ---- all along the way

dest_field_on : (us : List (List ℕ)) (p : Contents) (j : ℕ) → (on_way us p j).dest_field ≡ p.dest_field
unfolding on_way
dest_field_on us p j = refl

pub dest_on : (t : Network) (us vs : List (List ℕ)) (p : Contents) (j : ℕ) → dest_field_of t (on_way us p j) vs ≡ dest_field_of t p vs
unfolding dest_field_of dest_name dest_tag dest_message on_way
dest_on t us vs p j = refl

named_on : (a : AsId) (g : ℕ) (us : List (List ℕ)) (p : Contents) (j k : ℕ) → hop_name a g (on_way us p j) k ≡ hop_name a g p k
unfolding hop_name on_way
named_on a g us p j k = refl

pub packets_stay_right : PacketsStayRight
unfolding tags_fit field_fits
packets_stay_right t p x packet road made = record {
  fields = λ j h. (both j h).0;
  links = λ j h. (both j h).1;
  dest_field = λ tagged.
      dest_field_on us p n
      ∙ (made.dest_field tagged
      ∙ (sym (dest_on t us us p n) ∙ ap (dest_field_of t (on_way us p n)) (sym (at_end us p (length-updates t p x) packet.counted))));
}
  where
    us : List (List ℕ)
    us = updates_of t p x

    n : ℕ
    n = hop_count p

    both : (j : ℕ) → j < hop_count p → (has_field t (x j) (on_way (updates_of t p x) p j) j ≡ true) × (has_link t (x j) (on_way (updates_of t p x) p j) j ≡ true)
    both j h =
        let q = on_way (updates_of t p x) p j in
        let right = tags_on t (updates_of t p x) p (x j).asn j j (x j).generation
        (λ e. (let all = length-updates t p x ∙ count_updated p.first (hop_count p) e in omega (arith, h, all))) (omega arith) ∙ tags_right t p x j road made h in
        let named = named_on (x j).asn (x j).generation (updates_of t p x) p j j ∙ name_on t p x j road h in
        let parts = and_parts (has_field t (hop_name (x j).asn (x j).generation q j) q j) (has_link t (hop_name (x j).asn (x j).generation q j) q j) right in
        (ap (λ y. has_field t y q j) (sym named) ∙ parts.0, ap (λ y. has_link t y q j) (sym named) ∙ parts.1)
