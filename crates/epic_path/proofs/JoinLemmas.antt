-- One step of a walk over segments, and kinds of legs by pairs.
use Rattle.std.proofs.Common.{◌≡◌, ℕ, ◌+◌, ◌<◌, ◌≤◌, Bool, true, false, ◌&&◌, List, [], ◌∷◌, ◌++◌, length, map, get_or, drop, Some, None, Result, Ok, Err, refl, sym, ap, ◌∙◌, append_assoc, append-nil, arith}
use Rattle.std.specs.Result.{result_map_both}
use Rattle.std.proofs.lemmas.List.{at_drop_more, at_drop_all}
use Rattle.epic_num.specs.declared.name.AsId.{AsId}
use Rattle.epic_num.specs.declared.segment.Leg.{Leg}
use Rattle.epic_num.specs.declared.segment.Segment.{Segment}
use Rattle.epic_num.specs.declared.path_error.PathError.{PathError}
use Rattle.epic_num.specs.declared.path_error.PathError.TheVariants.{Unjoined}
use Rattle.epic_num.specs.Paths.{LegKind, UpLeg, CoreLeg, DownLeg, are_lawful_kinds, end_of}
use Rattle.epic_path.specs.Joins.{leg_from, walk}

-- a walk that goes on after these legs
abbrev pub continued : List Leg → Result (List Leg) PathError → Result (List Leg) PathError
continued legs rest = result_map_both (λ more. legs ++ more) (λ e. e) rest

continued_twice : (legs : List Leg) (leg : Leg) (rest : Result (List Leg) PathError) → continued legs (result_map_both (λ more. leg ∷ more) (λ e. e) rest) ≡ continued (legs ++ leg ∷ []) rest
continued_twice legs leg (Ok more) = ap Ok (sym (append_assoc legs (leg ∷ []) more))
continued_twice legs leg (Err e) = refl

step_over : (legs : List Leg) (at : AsId) (i : ℕ) (s : Segment) (rest : List Segment) (leg : Leg) → Some leg ≡ leg_from at s → continued legs (walk at i (s ∷ rest)) ≡ continued (legs ++ leg ∷ []) (walk (end_of leg) (i + 1) rest)
unfolding walk
step_over legs at i s rest leg e = rw (← e) (continued_twice legs leg (walk (end_of leg) (i + 1) rest))

pub walk_more : (legs next : List Leg) (at to : AsId) (segments : List Segment) (i : ℕ) (s : Segment) (leg : Leg) → i < length segments → s ≡ get_or segments i s → Some leg ≡ leg_from at s → next ≡ legs ++ leg ∷ [] → to ≡ end_of leg → continued next (walk to (i + 1) (drop (i + 1) segments)) ≡ continued legs (walk at i (drop i segments))
walk_more legs next at to segments i s leg h is e same end =
    rw (same, end) (sym (at_drop_more (λ xs. continued legs (walk at i xs)) segments i s h
    ∙ step_over legs at i (get_or segments i s) (drop (i + 1) segments) leg (e ∙ ap (leg_from at) is)))

stop_at : (legs : List Leg) (at : AsId) (i : ℕ) (s : Segment) (rest : List Segment) → None ≡ leg_from at s → continued legs (walk at i (s ∷ rest)) ≡ Err (Unjoined i)
unfolding walk
stop_at legs at i s rest e = rw (← e) refl

pub walk_stops : (legs : List Leg) (at : AsId) (segments : List Segment) (i : ℕ) (s : Segment) → i < length segments → s ≡ get_or segments i s → None ≡ leg_from at s → Err (Unjoined i) ≡ continued legs (walk at i (drop i segments))
walk_stops legs at segments i s h is e =
    sym (at_drop_more (λ xs. continued legs (walk at i xs)) segments i s h ∙ stop_at legs at i (get_or segments i s) (drop (i + 1) segments) (e ∙ ap (leg_from at) is))

ends_here : (legs : List Leg) (at : AsId) (i : ℕ) → continued legs (walk at i []) ≡ Ok legs
unfolding walk
ends_here legs at i = ap Ok (append-nil legs)

pub walk_ends : (legs : List Leg) (at : AsId) (segments : List Segment) (i : ℕ) → length segments ≤ i → Ok legs ≡ continued legs (walk at i (drop i segments))
walk_ends legs at segments i h = sym (at_drop_all (λ xs. continued legs (walk at i xs)) segments i h ∙ ends_here legs at i)

pub lawful_by_pairs : (k l m : LegKind) → are_lawful_kinds (k ∷ l ∷ m ∷ []) ≡ (are_lawful_kinds (k ∷ l ∷ []) && are_lawful_kinds (l ∷ m ∷ []))
unfolding are_lawful_kinds
lawful_by_pairs UpLeg UpLeg m = refl
lawful_by_pairs UpLeg CoreLeg UpLeg = refl
lawful_by_pairs UpLeg CoreLeg CoreLeg = refl
lawful_by_pairs UpLeg CoreLeg DownLeg = refl
lawful_by_pairs UpLeg DownLeg m = refl
lawful_by_pairs CoreLeg UpLeg m = refl
lawful_by_pairs CoreLeg CoreLeg m = refl
lawful_by_pairs CoreLeg DownLeg m = refl
lawful_by_pairs DownLeg l m = refl

pub lawful_alone : (k : LegKind) → are_lawful_kinds (k ∷ []) ≡ true
unfolding are_lawful_kinds
lawful_alone UpLeg = refl
lawful_alone CoreLeg = refl
lawful_alone DownLeg = refl

pub one_kind : (kind : Leg → LegKind) (legs : List Leg) → 1 ≤ length legs → length legs < 2 → true ≡ are_lawful_kinds (map kind legs)
one_kind kind [] some few = absurd (omega arith)
one_kind kind (a ∷ []) some few = sym (lawful_alone (kind a))
one_kind kind (a ∷ b ∷ legs) some few = absurd (omega arith)

pub three_kinds : (kind : Leg → LegKind) (legs : List Leg) (a b c : Leg) (r : Bool) → 3 ≤ length legs → length legs < 4 → a ≡ get_or legs 0 a → b ≡ get_or legs 1 b → c ≡ get_or legs 2 c → r ≡ (are_lawful_kinds (kind a ∷ kind b ∷ []) && are_lawful_kinds (kind b ∷ kind c ∷ [])) → r ≡ are_lawful_kinds (map kind legs)
three_kinds kind [] a b c r some few ea eb ec e = absurd (omega arith)
three_kinds kind (x ∷ []) a b c r some few ea eb ec e = absurd (omega arith)
three_kinds kind (x ∷ y ∷ []) a b c r some few ea eb ec e = absurd (omega arith)
three_kinds kind (x ∷ y ∷ z ∷ []) a b c r some few ea eb ec e =
    let apart : r ≡ (are_lawful_kinds (kind x ∷ kind y ∷ []) && are_lawful_kinds (kind y ∷ kind z ∷ [])) = rw (← ea, ← eb, ← ec) e in
    apart ∙ sym (lawful_by_pairs (kind x) (kind y) (kind z))
three_kinds kind (x ∷ y ∷ z ∷ w ∷ legs) a b c r some few ea eb ec e = absurd (omega arith)

pub no_kind : (kind : Leg → LegKind) (legs : List Leg) → length legs < 1 → false ≡ are_lawful_kinds (map kind legs)
unfolding are_lawful_kinds
no_kind kind [] few = refl
no_kind kind (a ∷ legs) few = absurd (omega arith)
