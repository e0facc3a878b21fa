-- The nodes of the packets that passed, after one is put in or taken out.
use Rattle.std.proofs.Common.{◌≡◌, ℕ, refl, sym, ◌∙◌, ap, subst, List, [], ◌∷◌, ◌++◌, length, Some, None, Option, not, eqb, arith, get_or-set_same, get_or-set_other}
use Rattle.std.specs.Prelude.{true, filter, filter_map, IsSome, is_some, slice_index_or, slice_set}
use Rattle.std.specs.List.{cons_option}
use Rattle.std.proofs.lemmas.Bool.{true≢false}
use Rattle.std.proofs.lemmas.List.{length-set, length-map}
use Rattle.std.proofs.lemmas.List.Elements.{filter_map-append}
use Rattle.epic_pool.specs.Pool.{PoolState, value_of, list_of, without, appended, first_of}
use Rattle.epic_pool.proofs.Unlinking.{filter_in, filter_out}
use Rattle.epic_policer.specs.Offers.{is_live}
use Rattle.epic_policer.specs.Queue.{IsOther, IsQueue, Stand, StartsLive, entries_of}
use Rattle.epic_policer.specs.declared.packet.Packet.{Packet}

others_stay : (node : ℕ) (ns : List ℕ) → IsOther node ns → filter (λ x. not (eqb x node)) ns ≡ ns
others_stay node [] h = refl
others_stay node (n ∷ ns) h = filter_in node n ns h.0 ∙ ap (λ zs. n ∷ zs) (others_stay node ns h.1)

first_goes : (node : ℕ) (ns : List ℕ) → IsOther node ns → filter (λ x. not (eqb x node)) (node ∷ ns) ≡ ns
first_goes node ns h = filter_out node node ns refl ∙ others_stay node ns h

other_push : (n node : ℕ) (ns : List ℕ) → IsOther n ns → (node ≡ n → ⊥) → IsOther n (ns ++ node ∷ [])
other_push n node [] h ne = (ne, tt)
other_push n node (m ∷ ms) h ne = (h.0, other_push n node ms h.1 ne)

some_none : {X : Type 0} (o : Option X) → IsSome o → o ≡ None → ⊥
some_none o s e = true≢false (sym s ∙ ap is_some e)

-- two ways to value nodes that agree at all but one
module _ (v w : ℕ → Option Packet) (node : ℕ) (agree : (k : ℕ) → (k ≡ node → ⊥) → w k ≡ v k) where
  stand_still : (ns : List ℕ) → IsOther node ns → Stand v ns → Stand w ns
  unfolding Stand
  stand_still [] h s = tt
  stand_still (n ∷ ns) h s = (subst IsSome (sym (agree n h.0)) s.0, s.1, stand_still ns h.1 s.2)

  entries_still : (ns : List ℕ) → IsOther node ns → filter_map w ns ≡ filter_map v ns
  entries_still [] h = refl
  entries_still (n ∷ ns) h = ap (λ o. cons_option o (filter_map w ns)) (agree n h.0) ∙ ap (cons_option (v n)) (entries_still ns h.1)

-- a node without a value is none of those that have one
new_other : (v : ℕ → Option Packet) (node : ℕ) → v node ≡ None → (ns : List ℕ) → Stand v ns → IsOther node ns
unfolding Stand
new_other v node e [] s = tt
new_other v node e (n ∷ ns) s = (λ f. some_none (v n) s.0 (ap v f ∙ e), new_other v node e ns s.2)

stand_push : (w : ℕ → Option Packet) (node : ℕ) → IsSome (w node) → (ns : List ℕ) → Stand w ns → IsOther node ns → Stand w (ns ++ node ∷ [])
unfolding Stand
stand_push w node here [] s h = (here, tt, tt)
stand_push w node here (n ∷ ns) s h = (s.0, other_push n node ns s.1 (λ e. h.0 (sym e)), stand_push w node here ns s.2 h.1)

first_front : (ns : List ℕ) (node : ℕ) → first_of ns ≡ Some node → (rest : List ℕ) × (ns ≡ node ∷ rest)
first_front [] node e = absurd (some_none (Some node) refl (sym e))
first_front (n ∷ ns) node e = (ns, ap (λ m. m ∷ ns) (same_some n node e))
  where
    same_some : (n m : ℕ) → Some n ≡ Some m → n ≡ m
    same_some n m e = cc

first_none : (ns : List ℕ) → first_of ns ≡ None → ns ≡ []
first_none [] e = refl
first_none (n ∷ ns) e = absurd (some_none (Some n) refl e)

list_without : (lists : List (List ℕ)) (node : ℕ) → list_of (without node lists) 0 ≡ filter (λ x. not (eqb x node)) (list_of lists 0)
list_without [] node = refl
list_without (x ∷ xs) node = refl

module _ (old new : PoolState Packet) (node : ℕ) (p : Packet) (q : IsQueue old) where
  -- the first packet, and those behind it
  first_packet : first_of (list_of old.b 0) ≡ Some node → value_of old node ≡ Some p → (rest : List ℕ) × (list_of old.b 0 ≡ node ∷ rest) × (entries_of old ≡ p ∷ filter_map (value_of old) rest)
  unfolding entries_of
  first_packet first here =
      let f = first_front (list_of old.b 0) node first in
      (f.0, f.1, ap (filter_map (value_of old)) f.1 ∙ ap (λ o. cons_option o (filter_map (value_of old) f.0)) here)

  module _ (first : first_of (list_of old.b 0) ≡ Some node) (here : value_of old node ≡ Some p) where
    pub starts_live : (span now : ℕ) → is_live span now p ≡ true → StartsLive span now (entries_of old)
    starts_live span now live = subst (StartsLive span now) (sym (first_packet first here).2) live

    module _ (b : new.b ≡ without node old.b) (values : new.values ≡ slice_set old.values node None) where
      agree : (k : ℕ) → (k ≡ node → ⊥) → value_of new k ≡ value_of old k
      agree k ne = ap (λ vs. slice_index_or vs k None) values ∙ get_or-set_other old.values node k None None ne

      stands : (f : (rest : List ℕ) × (list_of old.b 0 ≡ node ∷ rest) × (entries_of old ≡ p ∷ filter_map (value_of old) rest)) → IsOther node f.0 × Stand (value_of old) f.0
      unfolding Stand
      stands f = let s : Stand (value_of old) (node ∷ f.0) = subst (Stand (value_of old)) f.1 q.stand in (s.1, s.2)

      list_left : (f : (rest : List ℕ) × (list_of old.b 0 ≡ node ∷ rest) × (entries_of old ≡ p ∷ filter_map (value_of old) rest)) → list_of new.b 0 ≡ f.0
      list_left f = ap (λ ls. list_of ls 0) b ∙ list_without old.b node ∙ ap (filter (λ x. not (eqb x node))) f.1 ∙ first_goes node f.0 (stands f).0

      pub taken_first : entries_of old ≡ p ∷ entries_of new
      unfolding entries_of
      taken_first =
          let f = first_packet first here in
          f.2 ∙ ap (λ ps. p ∷ ps) (sym (ap (filter_map (value_of new)) (list_left f) ∙ entries_still (value_of old) (value_of new) node agree f.0 (stands f).0))

      pub queue_left : IsQueue new
      queue_left =
          let f = first_packet first here in
          record {
            one = ap length b ∙ length-map old.b (filter (λ x. not (eqb x node))) ∙ q.one;
            stand = subst (Stand (value_of new)) (sym (list_left f)) (stand_still (value_of old) (value_of new) node agree f.0 (stands f).0 (stands f).1);
          }

  module _ (absent : value_of old node ≡ None) (here : value_of new node ≡ Some p) (b : new.b ≡ appended old.b 0 node) (values : new.values ≡ slice_set old.values node (Some p)) where
    agree_put : (k : ℕ) → (k ≡ node → ⊥) → value_of new k ≡ value_of old k
    agree_put k ne = ap (λ vs. slice_index_or vs k None) values ∙ get_or-set_other old.values node k (Some p) None ne

    list_put : list_of new.b 0 ≡ list_of old.b 0 ++ node ∷ []
    list_put = ap (λ ls. list_of ls 0) b ∙ get_or-set_same old.b 0 (list_of old.b 0 ++ node ∷ []) [] (let one = q.one in omega arith)

    others : IsOther node (list_of old.b 0)
    others = new_other (value_of old) node absent (list_of old.b 0) q.stand

    pub put_last : entries_of new ≡ entries_of old ++ p ∷ []
    unfolding entries_of
    put_last =
        ap (filter_map (value_of new)) list_put ∙ filter_map-append (value_of new) (list_of old.b 0) (node ∷ [])
        ∙ ap (λ o. filter_map (value_of new) (list_of old.b 0) ++ cons_option o []) here
        ∙ ap (λ ps. ps ++ p ∷ []) (entries_still (value_of old) (value_of new) node agree_put (list_of old.b 0) others)

    pub queue_put : IsQueue new
    queue_put = record {
      one = ap length b ∙ length-set old.b 0 _ ∙ q.one;
      stand = subst (Stand (value_of new)) (sym list_put)
          (stand_push (value_of new) node (subst IsSome (sym here) refl) (list_of old.b 0)
          (stand_still (value_of old) (value_of new) node agree_put (list_of old.b 0) others q.stand) others);
    }

-- there are as many lists as before
pub size_put : (old new : PoolState Packet) (list node : ℕ) → new.a ≡ appended old.a list node → length new.a ≡ length old.a
size_put old new list node a = ap length a ∙ length-set old.a list (list_of old.a list ++ node ∷ [])

-- an empty list has no packets
pub starts_empty : (pool : PoolState Packet) (span now : ℕ) → first_of (list_of pool.b 0) ≡ None → StartsLive span now (entries_of pool)
unfolding entries_of
starts_empty pool span now e = subst (StartsLive span now) (sym (ap (filter_map (value_of pool)) (first_none (list_of pool.b 0) e))) tt

-- lists and values that are the same have the same packets
module _ (old new : PoolState Packet) (b : new.b ≡ old.b) (values : (node : ℕ) → value_of new node ≡ value_of old node) where
  pub same_entries : entries_of new ≡ entries_of old
  unfolding entries_of
  same_entries = λ i. filter_map (λ n. values n i) (list_of (b i) 0)

  pub same_queue : IsQueue old → IsQueue new
  same_queue q = record {
    one = ap length b ∙ q.one;
    stand = subst (λ (x : Type 0). x) (λ i. Stand (λ n. sym (values n) i) (list_of (sym b i) 0)) q.stand;
  }

-- a pool without packets
pub no_entries : (pool : PoolState Packet) → pool.b ≡ [] ∷ [] → entries_of pool ≡ []
unfolding entries_of
no_entries pool b = ap (λ ls. filter_map (value_of pool) (list_of ls 0)) b

pub no_queue : (pool : PoolState Packet) → pool.b ≡ [] ∷ [] → IsQueue pool
unfolding Stand
no_queue pool b = record { one = ap length b; stand = subst (λ ls. Stand (value_of pool) (list_of ls 0)) (sym b) tt }
