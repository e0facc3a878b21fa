-- What a window remembers, it remembers once.
use Rattle.std.proofs.Common.{◌≡◌, ℕ, zero, suc, ◌+◌, ◌≤◌, inl, inr, Bool, true, false, List, [], ◌∷◌, ◌++◌, Option, None, Some, refl, ap, sym, subst, ◌∙◌, ⊎_elim, arith}
use Rattle.std.specs.Prelude.{◌&&◌, filter_map, slice_get, is_some}
use Rattle.std.specs.List.{cons_option}
use Rattle.std.specs.Map.{lookup}
use Rattle.std.proofs.lemmas.Bool.{ltb-false, le-leb, and_from, eq-eqb, cond-true, cond-false, cases_Bool, both_ways}
use Rattle.std.proofs.lemmas.List.{append_assoc, append-nil}
use Rattle.std.proofs.lemmas.Option.{same_Some}
use Rattle.epic_num.specs.declared.profile.Profile.{Profile}
use Rattle.epic_num.specs.Moments.{bucket, live_buckets, is_live, is_stale}
use Rattle.epic_num.proofs.SameLaws.{same_host-Decides}
use Rattle.epic_window.specs.Entries.{same_win_key, seen}
use Rattle.epic_window.specs.declared.key.WinKey.{WinKey}
use Rattle.epic_ledger.specs.declared.event.Event.{Event}
use Rattle.epic_audit.proofs.Lists.{old_or_last}
use Rattle.epic_model.specs.Windows.{AreOnce}

-- a packet that is fresh now was fresh, and its entry is live
pub fresh_live : (profile : Profile) (ts now : ℕ) → is_stale profile ts now ≡ false → is_live profile ts now ≡ true
unfolding is_stale is_live bucket live_buckets
fresh_live profile ts now e =
    let recent : now ≤ ts + profile.lifetime_us = ltb-false _ _ e in
    le-leb _ _ (omega arith)

-- what an element answers stands among the answers
pub stands : {X Y : Type 0} (f : X → Option Y) (xs : List X) (n : ℕ) (x : X) (y : Y) → slice_get xs n ≡ Some x → f x ≡ Some y
    → (m : ℕ) × (slice_get (filter_map f xs) m ≡ Some y)
stands f [] n x y at is = absurd (cc)
stands f (z ∷ xs) zero x y at is =
    let same : z ≡ x = same_Some z x at in
    (0, ap (λ o. slice_get (cons_option o (filter_map f xs)) 0) (ap f same ∙ is))
stands f (z ∷ xs) (suc n) x y at is =
    let rest = stands f xs n x y at is in
    elim (f z) as (λ o. (m : ℕ) × (slice_get (cons_option o (filter_map f xs)) m ≡ Some y)) [
      | None ↦ rest
      | Some w ↦ (suc rest.0, rest.1)
    ]

-- where nothing is found, no entry meets the test
not_found : {K X : Type 0} (test : K → Bool) (es : List (K × X)) (n : ℕ) (e : K × X) → lookup test es ≡ None → slice_get es n ≡ Some e → test e.0 ≡ false
not_found test [] n e none at = absurd (cc)
not_found test (d ∷ es) n e none at =
    ⊎_elim
    (λ yes. (let some = sym (cond-true (test d.0) (Some d.1) (lookup test es) yes) ∙ none in absurd (cc)))
    (λ no. by (λ m rest is. not_found test es m e rest is) n no (sym (cond-false (test d.0) (Some d.1) (lookup test es) no) ∙ none) at)
    (cases_Bool (test d.0))
  where
    by : ((m : ℕ) → lookup test es ≡ None → slice_get es m ≡ Some e → test e.0 ≡ false) → (m : ℕ) → test d.0 ≡ false → lookup test es ≡ None → slice_get (d ∷ es) m ≡ Some e → test e.0 ≡ false
    by rec zero fails rest is = sym (ap (λ c. test c.0) (same_Some d e is)) ∙ fails
    by rec (suc m) fails rest is = rec m rest is

same_key : (k : WinKey) → same_win_key k k ≡ true
unfolding same_win_key
same_key k = and_from _ _ ((same_host-Decides k.src k.src).1 refl) (and_from _ _ (eq-eqb k.ts k.ts refl) (eq-eqb k.hop k.hop refl))

-- a key that is live now and isn't found is no event's
pub unfound : (profile : Profile) (now : ℕ) (key : WinKey) (f : Event → Option (WinKey × ℕ)) (events : List Event) (n : ℕ) (d : Event) (x : WinKey × ℕ)
    → is_some (seen profile (filter_map f events) now key) ≡ false → is_live profile key.ts now ≡ true
    → slice_get events n ≡ Some d → f d ≡ Some x → x.0 ≡ key → ⊥
unfolding seen
unfound profile now key f events n d x none live at is same =
    let there = stands f events n d x at is in
    let test : WinKey → Bool = λ k. same_win_key key k && is_live profile k.ts now in
    let misses = not_found test (filter_map f events) there.0 x (nothing (lookup test (filter_map f events)) none) there.1 in
    both_ways (test x.0) misses (ap test same ∙ and_from _ _ (same_key key) live)
  where
    nothing : (o : Option ℕ) → is_some o ≡ false → o ≡ None
    nothing None e = refl
    nothing (Some m) e = absurd (cc)

-- ---- once

pub once_same : (f g : Event → Option (WinKey × ℕ)) (events : List Event) → ((n : ℕ) (e : Event) → slice_get events n ≡ Some e → g e ≡ f e)
    → AreOnce f events → AreOnce g events
once_same f g events same once m n e d x y am an ex dy key =
    once m n e d x y am an (sym (same m e am) ∙ ex) (sym (same n d an) ∙ dy) key

pub once_none : (f : Event → Option (WinKey × ℕ)) → AreOnce f []
once_none f m n e d x y am an ex dy key = absurd (cc)

-- one event more, whose key no other has
pub once_more : (f : Event → Option (WinKey × ℕ)) (events : List Event) (e : Event) → AreOnce f events
    → ((y : WinKey × ℕ) (n : ℕ) (d : Event) (x : WinKey × ℕ) → f e ≡ Some y → slice_get events n ≡ Some d → f d ≡ Some x → x.0 ≡ y.0 → ⊥)
    → AreOnce f (events ++ e ∷ [])
once_more f events e once new m n c d x y am an cx dy key =
    elim (old_or_last events e c m am) [
      | inl old ↦ elim (old_or_last events e d n an) [
        | inl also ↦ once m n c d x y old also cx dy key
        | inr last ↦ absurd (new y m c x (ap f last.1 ∙ dy) old cx key)
      ]
      | inr first ↦ elim (old_or_last events e d n an) [
        | inl also ↦ absurd (new x n d y (ap f first.1 ∙ cx) also dy (sym key))
        | inr last ↦ first.0 ∙ sym last.0
      ]
    ]

-- events more that aren't remembered
pub once_others : (f : Event → Option (WinKey × ℕ)) (events more : List Event) → AreOnce f events
    → ((n : ℕ) (e : Event) → slice_get more n ≡ Some e → f e ≡ None) → AreOnce f (events ++ more)
once_others f events [] once none = subst (AreOnce f) (sym (append-nil events)) once
once_others f events (e ∷ more) once none =
    let apart : (y : WinKey × ℕ) (n : ℕ) (d : Event) (x : WinKey × ℕ) → f e ≡ Some y → slice_get events n ≡ Some d → f d ≡ Some x → x.0 ≡ y.0 → ⊥
    = λ y n d x is _ _ _. (let gone = none 0 e refl in cc) in
    subst (AreOnce f) (append_assoc events (e ∷ []) more)
    (once_others f (events ++ e ∷ []) more (once_more f events e once apart) (λ n d at. none (suc n) d at))

-- one that is remembered, and others that aren't
pub once_first : (f : Event → Option (WinKey × ℕ)) (events more : List Event) (e : Event) → AreOnce f events
    → ((y : WinKey × ℕ) (n : ℕ) (d : Event) (x : WinKey × ℕ) → f e ≡ Some y → slice_get events n ≡ Some d → f d ≡ Some x → x.0 ≡ y.0 → ⊥)
    → ((n : ℕ) (d : Event) → slice_get more n ≡ Some d → f d ≡ None) → AreOnce f (events ++ e ∷ more)
once_first f events more e once new none =
    subst (AreOnce f) (append_assoc events (e ∷ []) more)
    (once_others f (events ++ e ∷ []) more (once_more f events e once new) none)
