-- The links over a segment, by its kind and its ends.
use Rattle.std.proofs.Common.{◌≡◌, ℕ, suc, ◌+◌, ◌-◌, ◌<◌, Bool, true, false, cond, List, [], ◌∷◌, ◌++◌, length, map, get_or, take, Option, Some, None, refl, sym, ap, ◌∙◌, append-nil, arith}
use Rattle.std.specs.Prelude.{not, option_and_then, slice_get, filter, filter_map}
use Rattle.std.specs.List.{list_any, cons_option}
use Rattle.std.proofs.lemmas.Bool.{and_parts, leb-true}
use Rattle.std.proofs.lemmas.List.{get_or-map, length-map, take_more}
use Rattle.std.proofs.lemmas.List.Elements.{filter-append, filter_map-append}
use Rattle.std.proofs.lemmas.List.Folds.{list_any_at}
use Rattle.std.proofs.lemmas.Option.{slice_get-get_or}
use Rattle.epic_num.specs.declared.name.AsId.{AsId}
use Rattle.epic_num.specs.declared.segment.Leg.{Leg}
use Rattle.epic_num.specs.declared.segment.SegHop.{SegHop}
use Rattle.epic_num.specs.declared.segment.Segment.{Segment}
use Rattle.epic_num.specs.declared.segment.SegKind.{SegKind}
use Rattle.epic_num.specs.declared.segment.SegKind.TheVariants.{Core, Child}
use Rattle.epic_num.specs.Same.{same_as}
use Rattle.epic_num.specs.Segments.{first_as, last_as, first_hop, last_hop, are_different, is_well_formed}
use Rattle.epic_num.specs.Paths.{LegKind, kind_of, end_of}
use Rattle.epic_num.proofs.SameLaws.{same_as-Decides}
use Rattle.epic_path.specs.declared.links.Link.{Link}
use Rattle.epic_path.specs.Joins.{leg_from}
use Rattle.epic_path.specs.Search.{is_up, is_core, is_down, link_to, link_from, core_links, last_links}

-- ---- a well-formed segment ends at another AS than it starts from

ends_apart : (hops : List SegHop) → 1 < length hops → are_different (map (λ h. h.asn) hops) ≡ true → same_as (first_as hops) (last_as hops) ≡ false
unfolding first_as last_as first_hop last_hop are_different
ends_apart [] long apart = absurd (omega arith)
ends_apart (a ∷ []) long apart = absurd (omega arith)
ends_apart (a ∷ b ∷ hops) long apart =
    let last = length hops in
    let short : last < length (b ∷ hops) = omega arith in
    let reads : slice_get (a ∷ b ∷ hops) (length (a ∷ b ∷ hops) - 1) ≡ Some (get_or (b ∷ hops) last a) =
    ap (slice_get (a ∷ b ∷ hops)) (let n : length (a ∷ b ∷ hops) - 1 ≡ suc last = omega arith in n) ∙ slice_get-get_or (a ∷ b ∷ hops) (suc last) a (omega arith) in
    let others = and_parts (not (list_any (λ c. same_as a.asn c) (map (λ h. h.asn) (b ∷ hops)))) _ apart in
    let P : Bool → Type 0 = λ r. same_as a.asn (get_or (b ∷ hops) last a).asn ≡ r → r ≡ false in
    rw reads ((elim (same_as a.asn (get_or (b ∷ hops) last a).asn) as P [
      | true ↦ λ same.
          let found = list_any_at (λ c. same_as a.asn c) (map (λ h. h.asn) (b ∷ hops)) last a.asn (rw length-map (omega arith)) (rw (get_or-map (λ h. h.asn) (b ∷ hops) last a a.asn short) same) in
          absurd (cc (others.0))
      | false ↦ λ other. refl
    ]) refl)

pub well_formed_ends : (s : Segment) → is_well_formed s ≡ true → same_as (first_as s.hops.items) (last_as s.hops.items) ≡ false
unfolding is_well_formed
well_formed_ends s formed =
    let p = and_parts _ _ formed in
    let q = and_parts _ _ p.0 in
    let r = and_parts _ _ q.0 in
    let t = and_parts _ _ r.0 in
    ends_apart s.hops.items (leb-true 2 (length s.hops.items) t.0) q.1

-- ---- by cases on the ends

chosen : {A B : Type 0} (f : A → Option B) (x y : A) (a b : Bool) → option_and_then f (cond a (Some x) (cond b (Some y) None)) ≡ cond a (f x) (cond b (f y) None)
chosen f x y true b = refl
chosen f x y false true = refl
chosen f x y false false = refl

link_by_ends : (is_kind : LegKind → Bool) (kind : SegKind) (at : AsId) (s : Segment) → s.kind ≡ kind → link_from is_kind at s
    ≡ cond (same_as (first_as s.hops.items) at)
    (cond (is_kind (kind_of kind false)) (Some (link_to (last_as s.hops.items) s)) None)
    (cond (same_as (last_as s.hops.items) at) (cond (is_kind (kind_of kind true)) (Some (link_to (first_as s.hops.items) s)) None) None)
unfolding link_from leg_from end_of
link_by_ends is_kind kind at s e =
    rw (← e) (chosen (λ (leg : Leg). cond (is_kind (kind_of leg.segment.kind leg.against)) (Some (link_to (end_of leg) leg.segment)) None)
    (record { segment = s; against = false }) (record { segment = s; against = true }) (same_as (first_as s.hops.items) at) (same_as (last_as s.hops.items) at))

-- who stands at the first AS does not stand at the last
at_one_end : (a b at : AsId) → same_as a b ≡ false → same_as a at ≡ true → same_as b at ≡ false
at_one_end a b at apart here =
    let P : Bool → Type 0 = λ r. same_as b at ≡ r → r ≡ false in
    (elim (same_as b at) as P [
      | true ↦ λ there. absurd (let both = (same_as-Decides a b).1 ((same_as-Decides a at).0 here ∙ sym ((same_as-Decides b at).0 there)) in cc)
      | false ↦ λ other. refl
    ]) refl

only_last : {A : Type 0} (x : Option A) (a b : Bool) → (a ≡ true → b ≡ false) → cond a None (cond b x None) ≡ cond b x None
only_last x true b h = rw (h refl) refl
only_last x false b h = refl

both_ends : {A : Type 0} (x y : A) (a b : Bool) → (a ≡ true → b ≡ false) → cons_option (cond a (Some x) (cond b (Some y) None)) [] ≡ cond a (x ∷ []) [] ++ cond b (y ∷ []) []
both_ends x y true b h = rw (h refl) refl
both_ends x y false true h = refl
both_ends x y false false h = refl

only_first : {A : Type 0} (keep : A → Bool) (x : A) (a b k : Bool) → keep x ≡ k → filter keep (cons_option (cond a (Some x) (cond b None None)) []) ≡ cond k (cond a (x ∷ []) []) []
only_first keep x true b true e = rw e refl
only_first keep x true b false e = rw e refl
only_first keep x false true true e = refl
only_first keep x false true false e = refl
only_first keep x false false true e = refl
only_first keep x false false false e = refl

nowhere : {A : Type 0} (a b : Bool) → ◌≡◌ {A = Option A} (cond a None (cond b None None)) None
nowhere true b = refl
nowhere false true = refl
nowhere false false = refl

pub up_link_is : (at : AsId) (s : Segment) → s.kind ≡ Child → is_well_formed s ≡ true → link_from is_up at s ≡ cond (same_as (last_as s.hops.items) at) (Some (link_to (first_as s.hops.items) s)) None
unfolding is_up kind_of
up_link_is at s e formed = link_by_ends is_up Child at s e ∙ only_last _ _ _ (at_one_end _ _ at (well_formed_ends s formed))

pub no_up_link : (at : AsId) (s : Segment) → s.kind ≡ Core → link_from is_up at s ≡ None
unfolding is_up kind_of
no_up_link at s e = link_by_ends is_up Core at s e ∙ nowhere _ _

pub core_links_of : (at : AsId) (s : Segment) → s.kind ≡ Core → is_well_formed s ≡ true → core_links (s ∷ []) at
    ≡ cond (same_as (first_as s.hops.items) at) (link_to (last_as s.hops.items) s ∷ []) [] ++ cond (same_as (last_as s.hops.items) at) (link_to (first_as s.hops.items) s ∷ []) []
unfolding core_links is_core kind_of
core_links_of at s e formed =
    ap (λ o. cons_option o []) (link_by_ends is_core Core at s e) ∙ both_ends _ _ _ _ (at_one_end _ _ at (well_formed_ends s formed))

pub no_core_links : (at : AsId) (s : Segment) → s.kind ≡ Child → core_links (s ∷ []) at ≡ []
unfolding core_links is_core kind_of
no_core_links at s e = ap (λ o. cons_option o []) (link_by_ends is_core Child at s e ∙ nowhere _ _)

pub last_links_of : (to at : AsId) (s : Segment) (ends : Bool) → s.kind ≡ Child → same_as (last_as s.hops.items) to ≡ ends → last_links to (s ∷ []) at
    ≡ cond ends (cond (same_as (first_as s.hops.items) at) (link_to (last_as s.hops.items) s ∷ []) []) []
unfolding last_links is_down kind_of link_to
last_links_of to at s ends e to-is =
    ap (λ o. filter (λ l. same_as l.end to) (cons_option o [])) (link_by_ends is_down Child at s e) ∙ only_first (λ l. same_as l.end to) _ _ _ ends to-is

pub no_last_links : (to at : AsId) (s : Segment) → s.kind ≡ Core → last_links to (s ∷ []) at ≡ []
unfolding last_links is_down kind_of
no_last_links to at s e = ap (λ o. filter (λ l. same_as l.end to) (cons_option o [])) (link_by_ends is_down Core at s e ∙ nowhere _ _)

-- ---- one segment more

pub core_links_more : (at : AsId) (segments : List Segment) (i : ℕ) (s : Segment) → i < length segments → s ≡ get_or segments i s → core_links (take (i + 1) segments) at ≡ core_links (take i segments) at ++ core_links (s ∷ []) at
unfolding core_links
core_links_more at segments i s h is =
    ap (filter_map (link_from is_core at)) (take_more segments i s h ∙ ap (λ x. take i segments ++ x ∷ []) (sym is))
    ∙ filter_map-append (link_from is_core at) (take i segments) (s ∷ [])

pub last_links_more : (to at : AsId) (segments : List Segment) (i : ℕ) (s : Segment) → i < length segments → s ≡ get_or segments i s → last_links to (take (i + 1) segments) at ≡ last_links to (take i segments) at ++ last_links to (s ∷ []) at
unfolding last_links
last_links_more to at segments i s h is =
    ap (λ ls. filter (λ l. same_as l.end to) ls) (ap (filter_map (link_from is_down at)) (take_more segments i s h ∙ ap (λ x. take i segments ++ x ∷ []) (sym is))
    ∙ filter_map-append (link_from is_down at) (take i segments) (s ∷ []))
    ∙ filter-append (λ l. same_as l.end to) (filter_map (link_from is_down at) (take i segments)) (filter_map (link_from is_down at) (s ∷ []))

pub core_links_none : (at : AsId) → core_links [] at ≡ []
unfolding core_links
core_links_none at = refl

pub last_links_none : (to at : AsId) → last_links to [] at ≡ []
unfolding last_links
last_links_none to at = refl

-- ---- what the code adds

pub down_added : (old new : List Link) (to at first last : AsId) (s : Segment) (link : Link) → s.kind ≡ Child → first ≡ first_as s.hops.items → last ≡ last_as s.hops.items → same_as last to ≡ true → link ≡ link_to last s → new ≡ old ++ cond (same_as first at) (link ∷ []) [] → new ≡ old ++ last_links to (s ∷ []) at
down_added old new to at first last s link e is-first is-last ends is-link added =
    let all = last_links_of to at s true e (rw (← is-last) ends) in
    rw (all, ← is-first, ← is-last, ← is-link) added

pub down_missing : (old : List Link) (to at last : AsId) (s : Segment) → s.kind ≡ Child → last ≡ last_as s.hops.items → same_as last to ≡ false → old ≡ old ++ last_links to (s ∷ []) at
down_missing old to at last s e is-last ends = rw (last_links_of to at s false e (rw (← is-last) ends)) (sym (append-nil old))

pub up_here : (at last : AsId) (s : Segment) → s.kind ≡ Child → is_well_formed s ≡ true → last ≡ last_as s.hops.items → same_as last at ≡ true → Some (link_to (first_as s.hops.items) s) ≡ link_from is_up at s
up_here at last s e formed is-last here = rw (up_link_is at s e formed, ← is-last, here) refl

pub up_elsewhere : (at last : AsId) (s : Segment) → s.kind ≡ Child → is_well_formed s ≡ true → last ≡ last_as s.hops.items → same_as last at ≡ false → None ≡ link_from is_up at s
up_elsewhere at last s e formed is-last here = rw (up_link_is at s e formed, ← is-last, here) refl
