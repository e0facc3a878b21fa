-- The packet as it leaves a router.
use Rattle.std.proofs.Common.{◌≡◌, ◌≢◌, ℕ, zero, suc, ◌+◌, ◌<◌, ◌≤◌, ◌⊎◌, inl, inr, Bool, true, false, List, [], ◌∷◌, length, get_or, take, refl, ap, sym, subst, ◌∙◌, ⊎_elim, arith, length-set, length-take-le, get_or-take}
use Rattle.std.specs.Prelude.{slice_index, slice_set}
use Rattle.std.proofs.lemmas.Bool.{cond-true, cond-false, cond_both, cases_Bool}
use Rattle.std.proofs.lemmas.List.{get_or-set_same, get_or-set_other}
use Rattle.std.proofs.lemmas.List.Elements.{All-set}
use Rattle.epic_num.specs.declared.name.AsId.{AsId}
use Rattle.epic_num.specs.Levels.{is_updated, width_of}
use Rattle.epic_layout.specs.Contents.{Contents, IsPacket, hop_count, field, advanced, with_field}
use Rattle.epic_layout.specs.Route.{Route, body}
use Rattle.epic_topo.specs.Network.{Network}
use Rattle.epic_fields.proofs.Widths.{length-update_of}
use Rattle.epic_fields.specs.HopChecks.{hop_name}
use Rattle.epic_fields.specs.PacketTags.{update_of}
use Rattle.epic_router.specs.Leaving.{updated, hop_on, hops_on}
use Rattle.epic_router.specs.RightTurns.{GoesOn}
use Rattle.epic_router.proofs.Stamps.{update_stamp}

-- ---- what stays

-- two packets that differ in their fields and in the current hop alone
pub record Alike (p q : Contents) : Type 0 where
  pub first : q.first ≡ p.first
  pub src : q.src ≡ p.src
  pub dst : q.dst ≡ p.dst
  pub ts : q.ts ≡ p.ts
  pub route : q.route ≡ p.route
  pub dest_field : q.dest_field ≡ p.dest_field
  pub payload : q.payload ≡ p.payload

alike_through : (p q r : Contents) → Alike p q → Alike q r → Alike p r
alike_through p q r a b = record {
  first = b.first ∙ a.first;
  src = b.src ∙ a.src;
  dst = b.dst ∙ a.dst;
  ts = b.ts ∙ a.ts;
  route = b.route ∙ a.route;
  dest_field = b.dest_field ∙ a.dest_field;
  payload = b.payload ∙ a.payload;
}

-- so it is with names and updates
pub update_alike : (t : Network) (a : AsId) (g : ℕ) (p q : Contents) (j : ℕ) → Alike p q → update_of t (hop_name a g q j) q j ≡ update_of t (hop_name a g p j) p j
unfolding hop_name
update_alike t a g p q j alike =
    update_stamp t (hop_name a g q j) p q j (record { first = alike.first; ts = alike.ts; src = alike.src })
    ∙ ap (λ (r : Route). update_of t (record { asn = a; generation = g; body = body r j }) p j) alike.route

-- ---- one hop on

pub on_alike : (t : Network) (a : AsId) (g : ℕ) (p : Contents) → Alike p (hop_on t a g p)
unfolding hop_on updated advanced with_field
on_alike t a g p =
    cond_both (is_updated p.first) (with_field p p.current (update_of t (hop_name a g p p.current) p p.current)) p (λ q. Alike p (advanced q 1))
    (λ _. record { first = refl; src = refl; dst = refl; ts = refl; route = refl; dest_field = refl; payload = refl })
    (λ _. record { first = refl; src = refl; dst = refl; ts = refl; route = refl; dest_field = refl; payload = refl })

pub on_current : (t : Network) (a : AsId) (g : ℕ) (p : Contents) → (hop_on t a g p).current ≡ p.current + 1
unfolding hop_on updated advanced with_field
on_current t a g p =
    cond_both (is_updated p.first) (with_field p p.current (update_of t (hop_name a g p p.current) p p.current)) p (λ q. (advanced q 1).current ≡ p.current + 1)
    (λ _. refl) (λ _. refl)

-- the fields, where the level has no updates and where it has
pub on_fields : (t : Network) (a : AsId) (g : ℕ) (p : Contents) → is_updated p.first ≡ false → (hop_on t a g p).fields ≡ p.fields
unfolding hop_on updated advanced
on_fields t a g p e = ap (λ q. (advanced q 1).fields) (cond-false (is_updated p.first) (with_field p p.current (update_of t (hop_name a g p p.current) p p.current)) p e)

pub on_update : (t : Network) (a : AsId) (g : ℕ) (p : Contents) → is_updated p.first ≡ true
    → (hop_on t a g p).fields ≡ slice_set p.fields p.current (update_of t (hop_name a g p p.current) p p.current)
unfolding hop_on updated advanced with_field
on_update t a g p e = ap (λ q. (advanced q 1).fields) (cond-true (is_updated p.first) (with_field p p.current (update_of t (hop_name a g p p.current) p p.current)) p e)

on_packet : (t : Network) (a : AsId) (g : ℕ) (p : Contents) → IsPacket p → p.current + 1 ≤ hop_count p → IsPacket (hop_on t a g p)
unfolding hop_on updated advanced with_field
on_packet t a g p ip h =
    let u = update_of t (hop_name a g p p.current) p p.current in
    cond_both (is_updated p.first) (with_field p p.current u) p (λ q. IsPacket (advanced q 1))
    (λ _. record {
      exists = ip.exists;
      src = ip.src;
      dst = ip.dst;
      ts = ip.ts;
      route = ip.route;
      current = h;
      counted = length-set p.fields p.current u ∙ ip.counted;
      fields = All-set (λ v. length v ≡ width_of p.first) p.fields p.current u (length-update_of t (hop_name a g p p.current) p p.current) ip.fields;
      dest_length = ip.dest_length;
      untagged = ip.untagged;
      payload = ip.payload;
    })
    (λ _. record {
      exists = ip.exists;
      src = ip.src;
      dst = ip.dst;
      ts = ip.ts;
      route = ip.route;
      current = h;
      counted = ip.counted;
      fields = ip.fields;
      dest_length = ip.dest_length;
      untagged = ip.untagged;
      payload = ip.payload;
    })

on_other : (t : Network) (a : AsId) (g : ℕ) (p : Contents) (k : ℕ) → k ≢ p.current → field (hop_on t a g p) k ≡ field p k
unfolding field
on_other t a g p k ne =
    ⊎_elim
    (λ e. ap (λ fs. get_or fs k []) (on_update t a g p e) ∙ get_or-set_other p.fields p.current k (update_of t (hop_name a g p p.current) p p.current) [] ne)
    (λ e. ap (λ fs. get_or fs k []) (on_fields t a g p e))
    (cases_Bool (is_updated p.first))

-- ---- several hops on

pub hops_on_alike : (t : Network) (a : AsId) (gs : List ℕ) (p : Contents) → Alike p (hops_on t a gs p)
hops_on_alike t a [] p = record { first = refl; src = refl; dst = refl; ts = refl; route = refl; dest_field = refl; payload = refl }
hops_on_alike t a (g ∷ gs) p = alike_through p (hop_on t a g p) (hops_on t a gs (hop_on t a g p)) (on_alike t a g p) (hops_on_alike t a gs (hop_on t a g p))

pub hops_on_current : (t : Network) (a : AsId) (gs : List ℕ) (p : Contents) → (hops_on t a gs p).current ≡ p.current + length gs
hops_on_current t a [] p = omega arith
hops_on_current t a (g ∷ gs) p = omega (arith, hops_on_current t a gs (hop_on t a g p), on_current t a g p)

same_count : (t : Network) (a : AsId) (g : ℕ) (p : Contents) → hop_count (hop_on t a g p) ≡ hop_count p
same_count t a g p = ap (λ (r : Route). length r.hops) (on_alike t a g p).route

pub hops_on_packet : (t : Network) (a : AsId) (gs : List ℕ) (p : Contents) → IsPacket p → p.current + length gs ≤ hop_count p → IsPacket (hops_on t a gs p)
hops_on_packet t a [] p ip h = ip
hops_on_packet t a (g ∷ gs) p ip h =
    hops_on_packet t a gs (hop_on t a g p) (on_packet t a g p ip (omega (arith, h))) (omega (arith, h, on_current t a g p, same_count t a g p))

pub hops_on_fields : (t : Network) (a : AsId) (gs : List ℕ) (p : Contents) → is_updated p.first ≡ false → (hops_on t a gs p).fields ≡ p.fields
hops_on_fields t a [] p e = refl
hops_on_fields t a (g ∷ gs) p e =
    hops_on_fields t a gs (hop_on t a g p) (ap is_updated (on_alike t a g p).first ∙ e) ∙ on_fields t a g p e

hops_on_others : (t : Network) (a : AsId) (gs : List ℕ) (p : Contents) (k : ℕ) → (k < p.current) ⊎ (p.current + length gs ≤ k) → field (hops_on t a gs p) k ≡ field p k
hops_on_others t a [] p k h = refl
hops_on_others t a (g ∷ gs) p k h =
    hops_on_others t a gs (hop_on t a g p) k
    (⊎_elim (λ l. inl (omega (arith, l, on_current t a g p))) (λ r. inr (omega (arith, r, on_current t a g p))) h)
    ∙ on_other t a g p k (⊎_elim (λ l e. omega (arith, l, e)) (λ r e. omega (arith, r, e)) h)

hops_on_updates : (t : Network) (a : AsId) (gs : List ℕ) (p : Contents) (i : ℕ) → is_updated p.first ≡ true → i < length gs → p.current + length gs ≤ length p.fields
    → field (hops_on t a gs p) (p.current + i) ≡ update_of t (hop_name a (slice_index gs i) p (p.current + i)) p (p.current + i)
unfolding field
hops_on_updates t a [] p i e h room = absurd (omega arith)
hops_on_updates t a (g ∷ gs) p zero e h room =
    let u = update_of t (hop_name a g p p.current) p p.current in
    let q = hop_on t a g p in
    let at : p.current + 0 ≡ p.current = omega arith in
    let here : field q p.current ≡ u =
    ap (λ fs. get_or fs p.current []) (on_update t a g p e) ∙ get_or-set_same p.fields p.current u [] (omega (arith, room)) in
    subst (λ k. field (hops_on t a gs q) k ≡ update_of t (hop_name a g p k) p k) (sym at)
    (hops_on_others t a gs q p.current (inl (omega (arith, on_current t a g p))) ∙ here)
hops_on_updates t a (g ∷ gs) p (suc i) e h room =
    let q = hop_on t a g p in
    let at : q.current + i ≡ p.current + suc i = omega (arith, on_current t a g p) in
    let long : length q.fields ≡ length p.fields = ap length (on_update t a g p e) ∙ length-set p.fields p.current (update_of t (hop_name a g p p.current) p p.current) in
    subst (λ k. field (hops_on t a gs q) k ≡ update_of t (hop_name a (slice_index gs i) p k) p k) at
    (hops_on_updates t a gs q i (ap is_updated (on_alike t a g p).first ∙ e) (omega (arith, h)) (omega (arith, room, long, on_current t a g p))
    ∙ update_alike t a (slice_index gs i) p q (q.current + i) (on_alike t a g p))

-- so many hops on, under the first of these generations
pub goes_on : (t : Network) (a : AsId) (p : Contents) (hops : ℕ) (generations : List ℕ) → IsPacket p → hops ≤ length generations → p.current + hops ≤ hop_count p
    → GoesOn t a p (hops_on t a (take hops generations) p) hops generations
goes_on t a p hops generations ip enough room =
    let gs = take hops generations in
    let long : length gs ≡ hops = length-take-le hops generations enough in
    let alike = hops_on_alike t a gs p in
    record {
      packet = hops_on_packet t a gs p ip (omega (arith, room, long));
      current = omega (arith, hops_on_current t a gs p, long);
      first = alike.first;
      src = alike.src;
      dst = alike.dst;
      ts = alike.ts;
      route = alike.route;
      dest_field = alike.dest_field;
      payload = alike.payload;
      same_fields = hops_on_fields t a gs p;
      updates = λ e i h.
          subst (λ g. field (hops_on t a gs p) (p.current + i) ≡ update_of t (hop_name a g p (p.current + i)) p (p.current + i))
          (get_or-take hops generations i 0 h)
          (hops_on_updates t a gs p i e (omega (arith, h, long)) (omega (arith, room, long, ip.counted)));
      others = λ k h. hops_on_others t a gs p k (⊎_elim (λ l. inl l) (λ r. inr (omega (arith, r, long))) h);
    }
