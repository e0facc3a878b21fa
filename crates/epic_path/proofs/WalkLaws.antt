-- The legs of a walk make a lawful path, where their kinds go together.
use Rattle.std.proofs.Common.{◌≡◌, ℕ, ◌+◌, ◌≤◌, Bool, true, false, cond, ◌&&◌, List, [], ◌∷◌, length, map, Option, Some, None, Result, Ok, Err, All, refl, sym, ap, ◌∙◌, subst, arith}
use Rattle.std.specs.Prelude.{IsTrue, ◌==◌, nat_le, option_map, slice_get, sum_by, unwrap_or}
use Rattle.std.specs.List.{list_all}
use Rattle.std.specs.Option.{option_map_or}
use Rattle.std.specs.Result.{result_map_both}
use Rattle.std.proofs.lemmas.Bool.{le-leb, leb-true}
use Rattle.std.proofs.lemmas.List.Folds.{fold-map, list_all-map}
use Rattle.std.proofs.lemmas.List.Sums.{list_all-from_AllPass}
use Rattle.epic_num.specs.declared.name.AsId.{AsId}
use Rattle.epic_num.specs.declared.segment.Leg.{Leg}
use Rattle.epic_num.specs.declared.segment.Segment.{Segment}
use Rattle.epic_num.specs.declared.path_error.PathError.{PathError}
use Rattle.epic_num.specs.declared.path_error.PathError.TheVariants.{Empty, TooLong, Unjoined, WrongKind}
use Rattle.epic_num.specs.Same.{same_as}
use Rattle.epic_num.specs.Segments.{first_as, last_as, is_well_formed}
use Rattle.epic_num.specs.Paths.{are_lawful_kinds, are_joined, kind_of, meets, end_of, start_of, hop_count, is_lawful, path_start}
use Rattle.epic_num.proofs.SameLaws.{same_as-Decides}
use Rattle.epic_path.specs.Joins.{leg_from, walk, hops_of, are_short, of_lawful_kinds, joined, JoinsAreLawful}

-- a walk that began with a segment: its first leg, and the legs of the rest
pub record Began (at : AsId) (i : ℕ) (s : Segment) (rest : List Segment) (legs : List Leg) : Type 0 where
  pub leg : Leg
  pub more : List Leg
  pub first : leg_from at s ≡ Some leg
  pub then : walk (end_of leg) (i + 1) rest ≡ Ok more
  pub is : legs ≡ leg ∷ more

pub began : (at : AsId) (i : ℕ) (s : Segment) (rest : List Segment) (legs : List Leg) → walk at i (s ∷ rest) ≡ Ok legs → Began at i s rest legs
unfolding walk
began at i s rest legs e =
    let Step : Option Leg → Type 0 = λ o. leg_from at s ≡ o → option_map_or (λ leg. result_map_both (λ more. leg ∷ more) (λ e. e) (walk (end_of leg) (i + 1) rest)) o (Err (Unjoined i)) ≡ Ok legs → Began at i s rest legs in
    let Rest : Leg → Result (List Leg) PathError → Type 0 = λ leg r. walk (end_of leg) (i + 1) rest ≡ r → result_map_both (λ more. leg ∷ more) (λ e. e) r ≡ Ok legs → Began at i s rest legs in
    (elim (leg_from at s) as Step [
      | None ↦ λ f g. absurd (cc)
      | Some leg ↦ λ f g. (elim (walk (end_of leg) (i + 1) rest) as (Rest leg) [
        | Ok more ↦ λ t h. record { leg = leg; more = more; first = f; then = t; is = cc }
        | Err x ↦ λ t h. absurd (cc)
      ]) refl g
    ]) refl e

-- a leg from an AS is over that segment, and starts there
pub record LegFrom (at : AsId) (s : Segment) (leg : Leg) : Type 0 where
  pub over : leg.segment ≡ s
  pub starts : same_as (start_of leg) at ≡ true

pub leg_from_is : (at : AsId) (s : Segment) (leg : Leg) → leg_from at s ≡ Some leg → LegFrom at s leg
unfolding leg_from start_of
leg_from_is at s leg e =
    let F : Bool → Type 0 = λ b. same_as (first_as s.hops.items) at ≡ b → cond b (Some (record { segment = s; against = false })) (cond (same_as (last_as s.hops.items) at) (Some (record { segment = s; against = true })) None) ≡ Some leg → LegFrom at s leg in
    let L : Bool → Type 0 = λ b. same_as (last_as s.hops.items) at ≡ b → cond b (Some (record { segment = s; against = true })) None ≡ Some leg → LegFrom at s leg in
    (elim (same_as (first_as s.hops.items) at) as F [
      | true ↦ λ f g. let i : record { segment = s; against = false } ≡ leg = cc in subst (LegFrom at s) i (record { over = refl; starts = f })
      | false ↦ λ f g. (elim (same_as (last_as s.hops.items) at) as L [
        | true ↦ λ l h. let i : record { segment = s; against = true } ≡ leg = cc in subst (LegFrom at s) i (record { over = refl; starts = l })
        | false ↦ λ l h. absurd (cc)
      ]) refl g
    ]) refl e

pub walked_segments : (at : AsId) (i : ℕ) (segments : List Segment) (legs : List Leg) → walk at i segments ≡ Ok legs → map (λ l. l.segment) legs ≡ segments
unfolding walk
walked_segments at i [] legs e = let none : [] ≡ legs = cc in subst (λ ls. map (λ l. l.segment) ls ≡ []) none refl
walked_segments at i (s ∷ rest) legs e =
    let b = began at i s rest legs e in
    let more = walked_segments (end_of b.leg) (i + 1) rest b.more b.then in
    subst (λ ls. map (λ l. l.segment) ls ≡ s ∷ rest) (sym b.is) (λ j. (leg_from_is at s b.leg b.first).over j ∷ more j)

-- a walk over some segments starts where it was asked to
pub walked_start : (at : AsId) (i : ℕ) (segments : List Segment) (legs : List Leg) → (length segments ≡ 0 → ⊥) → walk at i segments ≡ Ok legs → path_start legs ≡ at
unfolding path_start
walked_start at i [] legs some e = absurd (some refl)
walked_start at i (s ∷ rest) legs some e =
    let b = began at i s rest legs e in
    let here : start_of b.leg ≡ at = (same_as-Decides (start_of b.leg) at).0 (leg_from_is at s b.leg b.first).starts in
    subst (λ ls. unwrap_or (option_map start_of (slice_get ls 0)) (record { 0 = 0 }) ≡ at) (sym b.is) here

-- legs of a walk from an AS meet, and go on from a leg that ends there
pub record Meeting (at : AsId) (legs : List Leg) : Type 0 where
  pub joined : are_joined legs ≡ true
  pub after : (leg : Leg) → end_of leg ≡ at → meets leg legs ≡ true

meeting_none : (at : AsId) → Meeting at []
unfolding are_joined meets
meeting_none at = record { joined = refl; after = λ leg e. refl }

meeting_one : (at : AsId) (leg : Leg) (more : List Leg) → same_as (start_of leg) at ≡ true → Meeting (end_of leg) more → Meeting at (leg ∷ more)
unfolding are_joined meets
meeting_one at leg more starts rest = record {
  joined = rw (rest.after leg refl) rest.joined;
  after = λ before e. (same_as-Decides (end_of before) (start_of leg)).1 (e ∙ sym ((same_as-Decides (start_of leg) at).0 starts));
}

pub walked_meet : (at : AsId) (i : ℕ) (segments : List Segment) (legs : List Leg) → walk at i segments ≡ Ok legs → Meeting at legs
unfolding walk
walked_meet at i [] legs e = let none : [] ≡ legs = cc in subst (Meeting at) none (meeting_none at)
walked_meet at i (s ∷ rest) legs e =
    let b = began at i s rest legs e in
    subst (Meeting at) (sym b.is) (meeting_one at b.leg b.more (leg_from_is at s b.leg b.first).starts (walked_meet (end_of b.leg) (i + 1) rest b.more b.then))

same_hops : (segments : List Segment) (legs : List Leg) → map (λ l. l.segment) legs ≡ segments → hop_count legs ≡ hops_of segments
unfolding hop_count hops_of
same_hops segments legs e = sym (fold-map (λ n s. n + length s.hops.items) (λ l. l.segment) 0 legs) ∙ ap (λ ss. sum_by (λ s. length s.hops.items) ss) e

fits : Segment → Bool
fits s = is_well_formed s && nat_le (length s.hops.items) 16

all_fit : (segments : List Segment) → All (λ s. IsTrue (is_well_formed s)) segments → All (λ s. length s.hops.items ≤ 16) segments → list_all fits segments ≡ true
unfolding fits
all_fit segments formed small = list_all-from_AllPass fits segments (λ k d h. rw (formed k d h) (le-leb _ _ (small k d h)))

pub walked_lawful : (at : AsId) (segments : List Segment) (legs : List Leg) → All (λ s. IsTrue (is_well_formed s)) segments → All (λ s. length s.hops.items ≤ 16) segments → nat_le (hops_of segments) 32 ≡ true → walk at 0 segments ≡ Ok legs → are_lawful_kinds (map (λ l. kind_of l.segment.kind l.against) legs) ≡ true → is_lawful legs ≡ true
unfolding is_lawful fits
walked_lawful at segments legs formed small few e kinds =
    let over = walked_segments at 0 segments legs e in
    let each : list_all (λ l. fits l.segment) legs ≡ true = sym (list_all-map fits (λ l. l.segment) legs) ∙ ap (list_all fits) over ∙ all_fit segments formed small in
    rw (kinds, each, (walked_meet at 0 segments legs e).joined, same_hops segments legs over) few

-- ---- the refusals of `joined` in their order

pub joined_none : (at : AsId) (segments : List Segment) → length segments ≡ 0 → Err Empty ≡ joined at segments
unfolding joined
joined_none at [] e = refl
joined_none at (s ∷ rest) e = absurd (omega arith)

joined_some : (at : AsId) (segments : List Segment) (short : Bool) → (length segments == 0) ≡ false → are_short segments ≡ short → cond short (of_lawful_kinds (walk at 0 segments)) (Err TooLong) ≡ joined at segments
unfolding joined
joined_some at [] short some e = absurd (cc)
joined_some at (s ∷ rest) short some e = rw e refl

pub joined_long : (at : AsId) (segments : List Segment) → (length segments == 0) ≡ false → are_short segments ≡ false → Err TooLong ≡ joined at segments
joined_long at segments some long = joined_some at segments false some long

pub joined_err : (at : AsId) (segments : List Segment) (x : PathError) → (length segments == 0) ≡ false → are_short segments ≡ true → walk at 0 segments ≡ Err x → Err x ≡ joined at segments
unfolding of_lawful_kinds
joined_err at segments x some short e = sym (ap of_lawful_kinds e) ∙ joined_some at segments true some short

pub joined_kinds : (at : AsId) (segments : List Segment) (legs : List Leg) (lawful : Bool) → (length segments == 0) ≡ false → are_short segments ≡ true → walk at 0 segments ≡ Ok legs → are_lawful_kinds (map (λ l. kind_of l.segment.kind l.against) legs) ≡ lawful → cond lawful (Ok legs) (Err WrongKind) ≡ joined at segments
unfolding of_lawful_kinds
joined_kinds at segments legs lawful some short e k =
    ap (λ b. cond b (Ok legs) (Err WrongKind)) (sym k) ∙ sym (ap of_lawful_kinds e) ∙ joined_some at segments true some short

pub short_parts : (segments : List Segment) → are_short segments ≡ true → (length segments ≤ 3) × (nat_le (hops_of segments) 32 ≡ true)
unfolding are_short
short_parts segments e =
    let P : Bool → Type 0 = λ b. nat_le (length segments) 3 ≡ b → (b && nat_le (hops_of segments) 32) ≡ true → (length segments ≤ 3) × (nat_le (hops_of segments) 32 ≡ true) in
    (elim (nat_le (length segments) 3) as P [
      | true ↦ λ f g. (leb-true _ _ f, g)
      | false ↦ λ f g. absurd (cc)
    ]) refl e

-- ---- what is joined is lawful

-- the first refusals don't apply where segments are joined
pub record Joined (at : AsId) (segments : List Segment) (legs : List Leg) : Type 0 where
  pub some : length segments ≡ 0 → ⊥
  pub short : are_short segments ≡ true
  pub walked : walk at 0 segments ≡ Ok legs
  pub kinds : are_lawful_kinds (map (λ l. kind_of l.segment.kind l.against) legs) ≡ true

kinds_passed : (r : Result (List Leg) PathError) (legs : List Leg) → of_lawful_kinds r ≡ Ok legs
    → (r ≡ Ok legs) × (are_lawful_kinds (map (λ l. kind_of l.segment.kind l.against) legs) ≡ true)
unfolding of_lawful_kinds
kinds_passed (Err x) legs e = absurd (cc)
kinds_passed (Ok made) legs e = let p = by (are_lawful_kinds (map (λ l. kind_of l.segment.kind l.against) made)) refl e in (ap Ok p.0, p.1)
  where
    by : (b : Bool) → are_lawful_kinds (map (λ l. kind_of l.segment.kind l.against) made) ≡ b
        → cond {A = Result (List Leg) PathError} b (Ok made) (Err WrongKind) ≡ Ok legs
        → (made ≡ legs) × (are_lawful_kinds (map (λ l. kind_of l.segment.kind l.against) legs) ≡ true)
    by true k h = let same : made ≡ legs = cc in (same, subst (λ ls. are_lawful_kinds (map (λ l. kind_of l.segment.kind l.against) ls) ≡ true) same k)
    by false k h = absurd (cc)

joined_by : (at : AsId) (segments : List Segment) (legs : List Leg) → joined at segments ≡ Ok legs → Joined at segments legs
unfolding joined
joined_by at [] legs e = absurd (cc)
joined_by at (s ∷ rest) legs e = by (are_short (s ∷ rest)) refl e
  where
    by : (b : Bool) → are_short (s ∷ rest) ≡ b → cond b (of_lawful_kinds (walk at 0 (s ∷ rest))) (Err TooLong) ≡ Ok legs → Joined at (s ∷ rest) legs
    by true short h =
        let passed = kinds_passed (walk at 0 (s ∷ rest)) legs h in
        record { some = λ z. absurd (omega arith); short = short; walked = passed.0; kinds = passed.1 }
    by false long h = absurd (cc)

pub joins_are_lawful : JoinsAreLawful
joins_are_lawful at segments legs formed small e =
    let j = joined_by at segments legs e in
    record {
      lawful = walked_lawful at segments legs formed small (short_parts segments j.short).1 j.walked j.kinds;
      starts = walked_start at 0 segments legs j.some j.walked;
      over = walked_segments at 0 segments legs j.walked;
    }
