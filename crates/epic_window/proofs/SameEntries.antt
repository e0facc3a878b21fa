-- Windows that hold the same: an equivalence, which goes on to later moments and through one more entry.
use Rattle.std.proofs.Common.{◌≡◌, ℕ, ◌≤◌, refl, sym, ◌∙◌, ap, subst, ◌∷◌, Bool, true, false, cond, ◌&&◌, ◌==◌, arith}
use Rattle.std.specs.Prelude.{filter, nat_le, Some, None}
use Rattle.std.specs.Cmp.{nat_eq_equiv}
use Rattle.std.specs.List.Sorted.{IsPermutation}
use Rattle.std.specs.Map.{lookup}
use Rattle.std.proofs.lemmas.Bool.{and_parts, eqb-true, leb-true, le-leb}
use Rattle.std.proofs.lemmas.List.Sorted.{sum_by-IsPermutation}
use Rattle.std.proofs.lemmas.Map.Entries.{lookup-filter-keys}
use Rattle.epic_num.specs.declared.profile.Profile.{Profile}
use Rattle.epic_num.specs.Moments.{bucket, is_live, IsFresh}
use Rattle.epic_num.specs.Same.{same_as, same_host}
use Rattle.epic_window.specs.Counts.{first_bucket, is_kept}
use Rattle.epic_window.specs.Entries.{Entries, Same, same_win_key, seen, count}
use Rattle.epic_window.specs.Offers.{answer, answer_at}
use Rattle.epic_window.specs.declared.key.WinKey.{WinKey}
use Rattle.epic_window.proofs.Buckets.{is_live-bucket, later_bucket, fresh_from}
use Rattle.epic_window.proofs.Counting.{count-cons, count-kept, lookup-and}

pub Same-refl : (profile : Profile) (from : ℕ) (es : Entries) → Same profile from es es
Same-refl profile from es = record { seen_is = λ now key le. refl; count_is = λ now asn le. refl }

pub Same-sym : (profile : Profile) (from : ℕ) (es fs : Entries) → Same profile from es fs → Same profile from fs es
Same-sym profile from es fs h = record { seen_is = λ now key le. sym (h.seen_is now key le); count_is = λ now asn le. sym (h.count_is now asn le) }

pub Same-trans : (profile : Profile) (from : ℕ) (es fs gs : Entries) → Same profile from es fs → Same profile from fs gs → Same profile from es gs
Same-trans profile from es fs gs h k =
    record { seen_is = λ now key le. h.seen_is now key le ∙ k.seen_is now key le; count_is = λ now asn le. h.count_is now asn le ∙ k.count_is now asn le }

pub Same-later : (profile : Profile) (from later : ℕ) (es fs : Entries) → from ≤ later → Same profile from es fs → Same profile later es fs
Same-later profile from later es fs le h =
    record { seen_is = λ now key after. h.seen_is now key (omega arith); count_is = λ now asn after. h.count_is now asn (omega arith) }

-- one more entry on both sides
pub Same-cons : (profile : Profile) (from : ℕ) (e : WinKey × ℕ) (es fs : Entries) → Same profile from es fs → Same profile from (e ∷ es) (e ∷ fs)
unfolding seen count
Same-cons profile from e es fs h = record {
  seen_is = λ now key le. ap (cond (same_win_key key e.0 && is_live profile e.0.ts now) (Some e.1)) (h.seen_is now key le);
  count_is = λ now asn le.
      let p : WinKey × ℕ → Bool = λ e. same_as e.0.src.asn asn && is_live profile e.0.ts now in
      omega (arith, count-cons p e es, count-cons p e fs, h.count_is now asn le);
}

-- windows that hold the same answer the same
pub Same-answer : (profile : Profile) (from : ℕ) (es fs : Entries) (key : WinKey) (now : ℕ) → from ≤ now → Same profile from es fs → answer profile es key now ≡ answer profile fs key now
unfolding answer
Same-answer profile from es fs key now le h =
    ap (λ n. answer_at profile n (seen profile es now key)) (h.count_is now key.src.asn le)
    ∙ ap (answer_at profile (count profile fs now key.src.asn)) (h.seen_is now key le)

same_key-sym : (k l : WinKey) → same_win_key k l ≡ same_win_key l k
unfolding same_win_key same_host same_as
same_key-sym k l =
    ap (λ b. (b && k.src.host == l.src.host) && (k.ts == l.ts && k.hop == l.hop)) (nat_eq_equiv.symm k.src.asn.0 l.src.asn.0)
    ∙ ap (λ b. (l.src.asn.0 == k.src.asn.0 && b) && (k.ts == l.ts && k.hop == l.hop)) (nat_eq_equiv.symm k.src.host l.src.host)
    ∙ ap (λ b. (l.src.asn.0 == k.src.asn.0 && l.src.host == k.src.host) && (b && k.hop == l.hop)) (nat_eq_equiv.symm k.ts l.ts)
    ∙ ap (λ b. (l.src.asn.0 == k.src.asn.0 && l.src.host == k.src.host) && (l.ts == k.ts && b)) (nat_eq_equiv.symm k.hop l.hop)

same_key-ts : (k l : WinKey) → same_win_key k l ≡ true → l.ts ≡ k.ts
unfolding same_win_key
same_key-ts k l h =
    let outer = and_parts (same_host k.src l.src) (k.ts == l.ts && k.hop == l.hop) h in
    let inner = and_parts (k.ts == l.ts) (k.hop == l.hop) outer.1 in
    sym (eqb-true k.ts l.ts inner.0)

-- the entry with a key is live as long as the key's timestamp is
pub seen_by_key : (profile : Profile) (es : Entries) (now : ℕ) (key : WinKey) → seen profile es now key ≡ cond (is_live profile key.ts now) (lookup (same_win_key key) es) None
unfolding seen
seen_by_key profile es now key =
    lookup-and
    (same_win_key key)
    (λ k. is_live profile k.ts now)
    (is_live profile key.ts now)
    (λ k h. ap (λ ts. is_live profile ts now) (same_key-ts key k h))
    es

-- what was offered fresh is live
pub seen_fresh : (profile : Profile) (es : Entries) (now : ℕ) (key : WinKey) → IsFresh profile key.ts now → seen profile es now key ≡ lookup (same_win_key key) es
seen_fresh profile es now key f =
    let from = fresh_from profile key.ts now f in
    let live : is_live profile key.ts now ≡ true = is_live-bucket profile key.ts now ∙ le-leb (first_bucket profile now) (bucket key.ts) from in
    seen_by_key profile es now key ∙ ap (λ b. cond b (lookup (same_win_key key) es) None) live

-- the same entries in another order, where each key finds the same
pub Same-reordered : (profile : Profile) (from : ℕ) (es fs : Entries) → IsPermutation es fs → ((k : WinKey) → lookup (same_win_key k) fs ≡ lookup (same_win_key k) es) → Same profile from fs es
unfolding count
Same-reordered profile from es fs p h = record {
  seen_is = λ now key le.
      seen_by_key profile fs now key
      ∙ ap (λ o. cond (is_live profile key.ts now) o None) (h key)
      ∙ sym (seen_by_key profile es now key);
  count_is = λ now asn le. sum_by-IsPermutation (λ e. cond (same_as e.0.src.asn asn && is_live profile e.0.ts now) 1 0) es fs p;
}

-- the entries with one more, in some order
pub Same-added : (profile : Profile) (from : ℕ) (key : WinKey) (turn : ℕ) (es fs : Entries) → IsPermutation ((key, turn) ∷ es) fs
    → ((k : WinKey) → lookup (same_win_key k) fs ≡ cond (same_win_key key k) (Some turn) (lookup (same_win_key k) es)) → Same profile from fs ((key, turn) ∷ es)
Same-added profile from key turn es fs p h =
    Same-reordered profile from ((key, turn) ∷ es) fs p
    (λ k. h k ∙ ap (λ b. cond b (Some turn) (lookup (same_win_key k) es)) (same_key-sym key k))

-- without the entries whose bucket is over
pub Same-swept : (profile : Profile) (from : ℕ) (es : Entries) → Same profile from (filter (is_kept (first_bucket profile from)) es) es
unfolding count is_kept
Same-swept profile from es = record {
  seen_is = λ now key le.
      seen_by_key profile (filter (is_kept (first_bucket profile from)) es) now key
      ∙ swept now key le (is_live profile key.ts now) refl
      ∙ sym (seen_by_key profile es now key);
  count_is = λ now asn le.
      count-kept
      (λ e. same_as e.0.src.asn asn && is_live profile e.0.ts now)
      (is_kept (first_bucket profile from))
      (λ e h. stays now e.0.ts le (and_parts (same_as e.0.src.asn asn) (is_live profile e.0.ts now) h).1)
      es;
}
  where
    stays : (now ts : ℕ) → from ≤ now → is_live profile ts now ≡ true → nat_le (first_bucket profile from) (bucket ts) ≡ true
    stays now ts le live =
        let later = later_bucket profile from now le in
        let h = leb-true (first_bucket profile now) (bucket ts) (sym (is_live-bucket profile ts now) ∙ live) in
        le-leb (first_bucket profile from) (bucket ts) (omega arith)

    swept : (now : ℕ) (key : WinKey) → from ≤ now → (b : Bool) → is_live profile key.ts now ≡ b
        → cond b (lookup (same_win_key key) (filter (is_kept (first_bucket profile from)) es)) None ≡ cond b (lookup (same_win_key key) es) None
    swept now key le false live = refl
    swept now key le true live =
        lookup-filter-keys
        (same_win_key key)
        (λ k. nat_le (first_bucket profile from) (bucket k.ts))
        true
        (λ k h. ap (λ ts. nat_le (first_bucket profile from) (bucket ts)) (same_key-ts key k h) ∙ stays now key.ts le live)
        es

-- the same, where the entries that are left are known by an equation
pub Same-left : (profile : Profile) (from first : ℕ) (es left : Entries) → first ≡ first_bucket profile from → left ≡ filter (is_kept first) es → Same profile from left es
Same-left profile from first es left is h =
    subst (λ ls. Same profile from ls es) (sym (h ∙ ap (λ b. filter (is_kept b) es) is)) (Same-swept profile from es)
