-- What holds of the accounts and the packets goes on to hold.
use Rattle.std.proofs.Common.{◌≡◌, ℕ, ◌+◌, ◌-◌, ◌<◌, ◌≤◌, refl, sym, ◌∙◌, ap, subst, List, [], ◌∷◌, ◌++◌, length, cond, ◌==◌, Some, arith}
use Rattle.std.specs.Prelude.{Bool, true, false, replicate}
use Rattle.std.proofs.lemmas.List.{length-replicate}
use Rattle.std.proofs.lemmas.Bool.{eqb-true}
use Rattle.epic_num.specs.declared.name.AsId.{AsId}
use Rattle.epic_num.specs.Same.{same_as}
use Rattle.epic_pool.specs.Pool.{PoolState}
use Rattle.epic_policer.specs.Accounts.{list_in, used_in}
use Rattle.epic_policer.specs.Kept.{IsKept, total}
use Rattle.epic_policer.specs.Queue.{InOrder, IsQueue, entries_of}
use Rattle.epic_policer.specs.declared.accounts.Account.{Account}
use Rattle.epic_policer.specs.declared.packet.Packet.{Packet}
use Rattle.epic_policer.proofs.Orders.{no_order, order_later, order_left, order_push}
use Rattle.epic_policer.proofs.Sums.{total-cons, total-none, total-push, worth}

-- the test of a source is that of the accounts
pub total-first : (s : AsId) (p : Packet) (ps : List Packet) → total (p ∷ ps) s ≡ worth (p.source.0 == s.0) p + total ps s
unfolding same_as
total-first s p ps = total-cons s p ps

pub total-last : (s : AsId) (p : Packet) (ps : List Packet) → total (ps ++ p ∷ []) s ≡ total ps s + worth (p.source.0 == s.0) p
unfolding same_as
total-last s p ps = total-push s p ps

pub kept_new : (budget : ℕ) (accounts : List (AsId × Account)) (pool : PoolState Packet)
    → IsQueue pool → entries_of pool ≡ [] → ((s : AsId) → used_in accounts s ≡ 0)
    → ((s : AsId) (l : ℕ) → list_in accounts s ≡ Some l → l < length pool.a) → IsKept budget 0 accounts pool
kept_new budget accounts pool q none used lists = record {
  queue = q;
  in_order = subst (InOrder 0 0) (sym none) (no_order 0 0 (omega arith));
  used_is = λ s. used s ∙ sym (ap (λ ps. total ps s) none ∙ total-none s);
  within = λ s. let e = used s in omega (arith, e);
  lists = lists;
}

pub kept_later : (budget latest now : ℕ) (accounts : List (AsId × Account)) (pool : PoolState Packet) → latest ≤ now → IsKept budget latest accounts pool → IsKept budget now accounts pool
kept_later budget latest now accounts pool le k = record {
  queue = k.queue;
  in_order = order_later 0 latest now (entries_of pool) le k.in_order;
  used_is = k.used_is;
  within = k.within;
  lists = k.lists;
}

-- the first packet was taken out, and its bytes released
pub kept_taken : (budget now : ℕ) (old new : List (AsId × Account)) (before pool : PoolState Packet) (p : Packet)
    → IsKept budget now old before → entries_of before ≡ p ∷ entries_of pool → IsQueue pool → length pool.a ≡ length before.a
    → ((s : AsId) → used_in new s ≡ used_in old s - cond (p.source.0 == s.0) p.bytes 0)
    → ((s : AsId) → list_in new s ≡ list_in old s) → IsKept budget now new pool
kept_taken budget now old new before pool p k first q size used lists = record {
  queue = q;
  in_order = order_left 0 now p (entries_of pool) (subst (InOrder 0 now) first k.in_order);
  used_is = λ s.
      let were : used_in old s ≡ worth (p.source.0 == s.0) p + total (entries_of pool) s = k.used_is s ∙ ap (λ ps. total ps s) first ∙ total-first s p (entries_of pool) in
      let is : used_in new s ≡ used_in old s - worth (p.source.0 == s.0) p = used s in
      omega (arith, were, is);
  within = λ s.
      let le = k.within s in
      let is : used_in new s ≡ used_in old s - worth (p.source.0 == s.0) p = used s in
      omega (arith, le, is);
  lists = λ s l e. let lt = k.lists s l (sym (lists s) ∙ e) in omega (arith, lt, size);
}

-- nothing was charged
pub kept_same : (budget now : ℕ) (old new : List (AsId × Account)) (pool : PoolState Packet) → IsKept budget now old pool
    → ((s : AsId) → used_in new s ≡ used_in old s) → ((s : AsId) → list_in new s ≡ list_in old s) → IsKept budget now new pool
kept_same budget now old new pool k used lists = record {
  queue = k.queue;
  in_order = k.in_order;
  used_is = λ s. used s ∙ k.used_is s;
  within = λ s. let le = k.within s in let e = used s in omega (arith, le, e);
  lists = λ s l e. k.lists s l (sym (lists s) ∙ e);
}

-- a packet was charged, and put in as the last
pub kept_put : (budget : ℕ) (old new : List (AsId × Account)) (before pool : PoolState Packet) (p : Packet)
    → IsKept budget p.moment old before → entries_of pool ≡ entries_of before ++ p ∷ [] → IsQueue pool → length pool.a ≡ length before.a
    → used_in old p.source + p.bytes ≤ budget
    → ((s : AsId) → used_in new s ≡ used_in old s + cond (p.source.0 == s.0) p.bytes 0)
    → ((s : AsId) → list_in new s ≡ list_in old s) → IsKept budget p.moment new pool
kept_put budget old new before pool p k last q size fits used lists = record {
  queue = q;
  in_order = subst (InOrder 0 p.moment) (sym last) (order_push 0 p (entries_of before) k.in_order);
  used_is = λ s.
      let is : used_in new s ≡ used_in old s + worth (p.source.0 == s.0) p = used s in
      let sums : total (entries_of pool) s ≡ total (entries_of before) s + worth (p.source.0 == s.0) p = ap (λ ps. total ps s) last ∙ total-last s p (entries_of before) in
      omega (arith, is, sums, k.used_is s);
  within = λ s. by_test s (p.source.0 == s.0) refl (used s);
  lists = λ s l e. let lt = k.lists s l (sym (lists s) ∙ e) in omega (arith, lt, size);
}
  where
    by_test : (s : AsId) (b : Bool) → (p.source.0 == s.0) ≡ b → used_in new s ≡ used_in old s + cond b p.bytes 0 → used_in new s ≤ budget
    by_test s true e is =
        let same : used_in old s ≡ used_in old p.source = sym (ap (λ n. used_in old (record { 0 = n })) (eqb-true p.source.0 s.0 e)) in
        omega (arith, is, same, fits)
    by_test s false e is = let le = k.within s in omega (arith, is, le)

-- room was made
pub kept_room : (budget latest : ℕ) (accounts : List (AsId × Account)) (old new : PoolState Packet) → IsKept budget latest accounts old
    → entries_of new ≡ entries_of old → IsQueue new → new.a ≡ old.a → IsKept budget latest accounts new
kept_room budget latest accounts old new k same q a = record {
  queue = q;
  in_order = subst (InOrder 0 latest) (sym same) k.in_order;
  used_is = λ s. k.used_is s ∙ sym (ap (λ ps. total ps s) same);
  within = k.within;
  lists = λ s l e. let lt = k.lists s l e in let size = ap length a in omega (arith, lt, size);
}

pub size_of : (pool : PoolState Packet) (n : ℕ) → pool.a ≡ replicate n [] → length pool.a ≡ n
size_of pool n a = ap length a ∙ length-replicate n []
