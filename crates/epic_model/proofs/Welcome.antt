-- The verdicts on a packet that its source sent, on its way.
use Rattle.std.proofs.Common.{◌≡◌, ℕ, zero, suc, ◌+◌, ◌-◌, ◌<◌, Bool, true, false, not, List, [], ◌∷◌, Option, None, Some, refl, ap, sym, subst, ◌∙◌, arith}
use Rattle.std.specs.Prelude.{◌||◌, find, slice_get, option_map, option_and_then, IsSome, if◌then◌else◌}
use Rattle.std.specs.List.{list_any, range_with_len}
use Rattle.std.specs.Option.{option_map_or}
use Rattle.std.proofs.lemmas.Bool.{or_left, or_right, cond-false, not_from_true}
use Rattle.std.proofs.lemmas.Option.{same_Some}
use Rattle.epic_num.specs.declared.hop.HopName.{HopName}
use Rattle.epic_num.specs.declared.key_name.Holder.TheVariants.{As, Host}
use Rattle.epic_num.specs.declared.key_name.KeyName.{KeyName}
use Rattle.epic_num.specs.declared.verdict.Verdict.{Verdict}
use Rattle.epic_num.specs.Levels.{is_tagged, is_updated}
use Rattle.epic_layout.specs.Contents.{Contents, hop_count}
use Rattle.epic_layout.specs.Route.{place, is_first}
use Rattle.epic_topo.specs.Network.{Network}
use Rattle.epic_ledger.specs.Facts.{Facts, Sent, Pass, pass_name, sent_name}
use Rattle.epic_ledger.specs.Queries.{issue_of, is_pass_of}
use Rattle.epic_audit.specs.Clauses.{GoesOnFrom, higher, lower, IsChained, is_sent_like, is_sent_as, sent_as}
use Rattle.epic_audit.specs.declared.uncovered.Uncovered.{Uncovered}
use Rattle.epic_audit.specs.Reveals.{is_revealed}
use Rattle.epic_audit.specs.Verdicts.{hop_lines, hop_verdict, dest_lines, dest_verdict, source_of, broken_chain, uncovered, uncovered_in, is_uncovered, sent_hop}
use Rattle.epic_layout.specs.Spelling.{path_bytes}
use Rattle.epic_audit.proofs.Chained.{not_chained, passed_there}
use Rattle.epic_ends.specs.Ways.{on_way}
use Rattle.epic_model.specs.Carried.{IsWelcome, IsProvedHop, IsEndVerdict}

-- ---- hops

welcome_lines : (x : HopName) (j : ℕ) (key : KeyName) (o : Option ℕ) (step : Option ℕ) (twin : Option HopName) (pair : Option (HopName × HopName)) (tagged : Bool)
    (send opened : Option ℕ) (other : Option HopName)
    → IsSome o → IsSome send → IsWelcome (hop_lines x j key o step twin pair tagged send opened other)
welcome_lines x j key None step twin pair tagged send opened other there sent = absurd (cc)
welcome_lines x j key (Some issue) step twin (Some pair) tagged send opened other there sent = refl
welcome_lines x j key (Some issue) step twin None false send opened other there sent = tt
welcome_lines x j key (Some issue) step twin None true None opened other there sent = absurd (cc)
welcome_lines x j key (Some issue) step twin None true (Some send) opened other there sent = tt

proved_lines : (x : HopName) (j : ℕ) (key : KeyName) (o : Option ℕ) (step : Option ℕ) (twin : Option HopName) (pair : Option (HopName × HopName)) (tagged : Bool)
    (send opened : Option ℕ) (other : Option HopName)
    → IsSome o → IsSome send → pair ≡ None → IsProvedHop (hop_lines x j key o step twin pair tagged send opened other)
proved_lines x j key None step twin pair tagged send opened other there sent whole = absurd (cc)
proved_lines x j key (Some issue) step twin (Some pair) tagged send opened other there sent whole = absurd (cc)
proved_lines x j key (Some issue) step twin None false send opened other there sent whole = tt
proved_lines x j key (Some issue) step twin None true None opened other there sent whole = absurd (cc)
proved_lines x j key (Some issue) step twin None true (Some send) opened other there sent whole = tt

mapped : {A B : Type 0} (f : A → B) (o : Option A) → IsSome o → IsSome (option_map f o)
mapped f None h = absurd (cc)
mapped f (Some x) h = refl

-- a packet on its way has the source that it was sent by
source_on : (f : Facts) (x : HopName) (us : List (List ℕ)) (p : Contents) (j k : ℕ) → source_of f x (on_way us p j) k ≡ source_of f x p k
unfolding source_of is_sent_like on_way
source_on f x us p j k = refl

pub hop_welcome : (t : Network) (f : Facts) (x : HopName) (us : List (List ℕ)) (p : Contents) (j k : ℕ)
    → IsSome (issue_of f.issues x) → IsSome (source_of f x p k) → IsWelcome (hop_verdict t f x (on_way us p j) k)
hop_welcome t f x us p j k issued sourced =
    welcome_lines x k _ (issue_of f.issues x) _ _ _ _ (option_map (λ s. s.emission) (source_of f x (on_way us p j) k)) _ _ issued
    (mapped (λ (s : Sent). s.emission) (source_of f x (on_way us p j) k) (subst (λ o. IsSome o) (sym (source_on f x us p j k)) sourced))

no_break : (o : Option (HopName × HopName)) → ((c : HopName × HopName) → o ≡ Some c → ⊥) → o ≡ None
no_break None none = refl
no_break (Some c) none = absurd (none c refl)

pub hop_proved : (t : Network) (f : Facts) (x : HopName) (us : List (List ℕ)) (p : Contents) (j k : ℕ)
    → IsSome (issue_of f.issues x) → IsSome (source_of f x p k) → IsChained f x (on_way us p j) k → IsProvedHop (hop_verdict t f x (on_way us p j) k)
hop_proved t f x us p j k issued sourced chained =
    proved_lines x k _ (issue_of f.issues x) _ _ (broken_chain f x (on_way us p j) k) _ (option_map (λ s. s.emission) (source_of f x (on_way us p j) k)) _ _ issued
    (mapped (λ (s : Sent). s.emission) (source_of f x (on_way us p j) k) (subst (λ o. IsSome o) (sym (source_on f x us p j k)) sourced))
    (no_break (broken_chain f x (on_way us p j) k) (λ c e. not_chained f x (on_way us p j) k c e chained))

-- a hop is chained where the hop that was passed before it on this path is of its neighbour's name, and one goes on from the other
pub chained_by : (f : Facts) (x : ℕ → HopName) (us : List (List ℕ)) (p : Contents) (j k : ℕ)
    → (is_first (place p.route.segments k) ≡ false → GoesOnFrom f.issues (higher (x (k - 1)) (x k)) (lower (x (k - 1)) (x k)))
    → ((n : ℕ) (w : Pass) → slice_get f.passes n ≡ Some w → w.hop ≡ k - 1 → path_bytes w.packet.route ≡ path_bytes p.route → pass_name w ≡ x (k - 1))
    → IsChained f (x k) (on_way us p j) k
unfolding on_way
chained_by f x us p j k goes named w first passed issued =
    let there = passed_there f p.route (k - 1) w passed in
    let name = named there.0 w there.1 there.2 there.3 in
    subst (λ y. GoesOnFrom f.issues (higher y (x k)) (lower y (x k))) (sym name) (goes first)

-- ---- destinations

end_lines : (t : Network) (q : Contents) (tagged : Bool) (send : Option ℕ) (hop : Option Uncovered) (updated : Bool) (twin : Option HopName) (opened : Option ℕ)
    → (tagged ≡ true → IsSome send × (hop ≡ None)) → is_tagged q.first ≡ tagged → IsEndVerdict q (dest_lines t q tagged send hop updated twin opened)
end_lines t q false send hop updated twin opened right is = is
end_lines t q true None hop updated twin opened right is = (let none = (right refl).0 in absurd (cc))
end_lines t q true (Some send) None updated twin opened right is = is
end_lines t q true (Some send) (Some u) updated twin opened right is = (let none = (right refl).1 in absurd (cc))

find_none : (test : ℕ → Bool) (xs : List ℕ) → ((n m : ℕ) → slice_get xs n ≡ Some m → test m ≡ false) → find test xs ≡ None
find_none test [] none = refl
find_none test (y ∷ ys) none = cond-false (test y) (Some y) (find test ys) (none 0 y refl) ∙ find_none test ys (λ n m at. none (suc n) m at)

-- the numbers of a range lie below its end
below : (a n i m : ℕ) → slice_get (range_with_len a n) i ≡ Some m → m < a + n
below a zero i m e = absurd (cc)
below a (suc n) zero m e = (let same : a ≡ m = same_Some a m e in omega arith)
below a (suc n) (suc i) m e = (let rest = below (a + 1) n i m e in omega arith)

-- each hop of the sent packet was passed on
abbrev pub AllCovered : Facts → Contents → (ℕ → HopName) → Type 0
AllCovered f p x =
    (i : ℕ) → i < hop_count p → (n : ℕ) × (w : Pass) × (slice_get f.passes n ≡ Some w) × (is_pass_of p.first (x i) p.src p.ts i w ≡ true)

any_from : {X : Type 0} (test : X → Bool) (xs : List X) (n : ℕ) (x : X) → slice_get xs n ≡ Some x → test x ≡ true → list_any test xs ≡ true
any_from test [] n x at e = absurd (cc)
any_from test (y ∷ ys) zero x at e = or_left (test y) _ (ap test (same_Some y x at) ∙ e)
any_from test (y ∷ ys) (suc n) x at e = or_right (test y) _ (any_from test ys n x at e)

-- where each hop is covered none is uncovered
covered : (f : Facts) (us : List (List ℕ)) (p : Contents) (x : ℕ → HopName) (j : ℕ) (s : Sent)
    → s.packet ≡ p → ((i : ℕ) → i < hop_count p → sent_name f.issues s i ≡ Some (x i)) → AllCovered f p x
    → uncovered_in f (on_way us p j) s ≡ None
unfolding uncovered_in is_uncovered on_way
covered f us p x j s same named all =
    by (not (is_updated p.first) || (is_revealed f.reveals (Host p.src) || is_revealed f.reveals (As p.src.asn)))
  where
    test : ℕ → Bool
    test i = option_map_or (λ y. not (is_revealed f.reveals (As y.asn) || list_any (is_pass_of p.first y p.src p.ts i) f.passes)) (sent_name f.issues s i) false

    each : (i : ℕ) → i < hop_count p → test i ≡ false
    each i h =
        let c = all i h in
        let passed = any_from (is_pass_of p.first (x i) p.src p.ts i) f.passes c.0 c.1 c.2 c.3 in
        ap (λ o. option_map_or (λ y. not (is_revealed f.reveals (As y.asn) || list_any (is_pass_of p.first y p.src p.ts i) f.passes)) o false) (named i h)
        ∙ not_from_true _ (or_right (is_revealed f.reveals (As (x i).asn)) _ passed)

    count : hop_count s.packet ≡ hop_count p
    count = ap (λ (c : Contents). hop_count c) same

    none : find test (range_with_len 0 (hop_count s.packet)) ≡ None
    none = find_none test (range_with_len 0 (hop_count s.packet)) (λ n m at. each m (let small = below 0 (hop_count s.packet) n m at in omega (arith, small, count)))

    by : (b : Bool) → (if b then None else option_map (sent_hop f s) (find test (range_with_len 0 (hop_count s.packet)))) ≡ None
    by true = refl
    by false = ap (option_map (sent_hop f s)) none

end_verdict : (us : List (List ℕ)) (p : Contents) (j : ℕ) (v : Verdict) → IsEndVerdict (on_way us p j) v → IsEndVerdict p v
unfolding on_way
end_verdict us p j v h = h

sent_on : (sends : List Sent) (us : List (List ℕ)) (p : Contents) (j : ℕ) → sent_as sends (on_way us p j) ≡ sent_as sends p
unfolding sent_as is_sent_as is_sent_like on_way
sent_on sends us p j = refl

pub dest_welcome : (t : Network) (f : Facts) (us : List (List ℕ)) (p : Contents) (x : ℕ → HopName) (j : ℕ) (s : Sent)
    → sent_as f.sends p ≡ Some s → s.packet ≡ p → ((i : ℕ) → i < hop_count p → sent_name f.issues s i ≡ Some (x i)) → AllCovered f p x
    → IsEndVerdict p (dest_verdict t f (on_way us p j))
unfolding uncovered
dest_welcome t f us p x j s first same named all =
    let q = on_way us p j in
    let there = sent_on f.sends us p j ∙ first in
    let none : uncovered f q ≡ None = ap (option_and_then (uncovered_in f q)) there ∙ covered f us p x j s same named all in
    end_verdict us p j (dest_verdict t f q)
    (end_lines t q (is_tagged q.first) (option_map (λ (r : Sent). r.emission) (sent_as f.sends q)) (uncovered f q) _ _ _
    (λ e. (mapped (λ (r : Sent). r.emission) (sent_as f.sends q) (subst (λ o. IsSome o) (sym there) refl), none)) refl)
