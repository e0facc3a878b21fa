-- What a router accepts is right.
use Rattle.std.proofs.Common.{◌≡◌, ◌≢◌, ℕ, zero, suc, ◌+◌, ◌<◌, ◌≤◌, Bool, true, false, not, List, [], ◌∷◌, length, None, refl, ap, sym, subst, ◌∙◌, ⊎_elim, arith, add-zero}
use Rattle.std.specs.Prelude.{◌==◌, ◌&&◌, slice_index, if◌then◌else◌}
use Rattle.std.proofs.lemmas.Bool.{not-false, not-true, eqb-true, eqb-false, and_parts, cond_both, cond-true, cond-false, cases_Bool}
use Rattle.epic_num.specs.declared.name.AsId.{AsId}
use Rattle.epic_num.specs.declared.turn.Turn.{Turn}
use Rattle.epic_num.specs.declared.turn.Turn.TheVariants.{Forward, Deliver}
use Rattle.epic_num.specs.Levels.{is_first_byte}
use Rattle.epic_num.specs.Tables.{first_row}
use Rattle.epic_num.specs.Windows.{Told}
use Rattle.epic_num.proofs.TableLaws.{row_passed}
use Rattle.epic_layout.specs.Contents.{Contents, IsPacket, hop_count}
use Rattle.epic_layout.specs.Layout.{fault, parse}
use Rattle.epic_layout.specs.Route.{place, is_last, egress}
use Rattle.epic_topo.specs.Network.{Network}
use Rattle.epic_router.specs.Checks.{has_second, handled_hops, last_handled, exit_rows}
use Rattle.epic_router.specs.Handling.{generation_at, generations_from, onward}
use Rattle.epic_router.specs.Leaving.{hops_on, packet_after}
use Rattle.epic_router.specs.RightTurns.{IsRightHop, GoesOn, IsAccepted, IsForwarded, IsDelivered, IsRightTurn, TurnsAreRight}
use Rattle.epic_router.proofs.After.{goes_on}
use Rattle.epic_router.proofs.Passed.{IsPassed, by_answer, other_fails, one_as, entered, right_hop, second_hop, timely, comes}

-- ---- how many hops are handled

pub two : (p : Contents) (j : ℕ) → has_second p j ≡ true → handled_hops p j ≡ 2
unfolding handled_hops
two p j e = cond-true (has_second p j) 2 1 e

pub one : (p : Contents) (j : ℕ) → has_second p j ≡ false → handled_hops p j ≡ 1
unfolding handled_hops
one p j e = cond-false (has_second p j) 2 1 e

pub few_hops : (p : Contents) (j : ℕ) → handled_hops p j ≤ 2
few_hops p j = ⊎_elim (λ e. omega (arith, two p j e)) (λ e. omega (arith, one p j e)) (cases_Bool (has_second p j))

pub some_hops : (p : Contents) (j : ℕ) → 1 ≤ handled_hops p j
some_hops p j = ⊎_elim (λ e. omega (arith, two p j e)) (λ e. omega (arith, one p j e)) (cases_Bool (has_second p j))

second_there : (p : Contents) (j : ℕ) → 1 < handled_hops p j → has_second p j ≡ true
second_there p j h = ⊎_elim (λ e. e) (λ e. absurd (omega (arith, one p j e))) (cases_Bool (has_second p j))

-- the hop after is one of the packet's, and this one is the last of its segment
pub second_is : (p : Contents) (j : ℕ) → has_second p j ≡ true → (is_last (place p.route.segments j) ≡ true) × (j + 1 ≢ hop_count p)
unfolding has_second
second_is p j e =
    let parts = and_parts (is_last (place p.route.segments j)) (not (j + 1 == hop_count p)) e in
    (parts.0, eqb-false (j + 1) (hop_count p) (not-true _ parts.1))

pub all_there : (p : Contents) (j : ℕ) → j < hop_count p → j + handled_hops p j ≤ hop_count p
all_there p j h =
    ⊎_elim
    (λ e. let ne = (second_is p j e).1 in omega (arith, two p j e, ne))
    (λ e. omega (arith, one p j e))
    (cases_Bool (has_second p j))

-- ---- the hops

each : (t : Network) (a : AsId) (candidates : List ℕ) (iface now : ℕ) (told : Told) (p : Contents) → IsPassed t a candidates iface now told p
    → (i : ℕ) → i < handled_hops p p.current
    → IsRightHop t a candidates (slice_index (generations_from t a candidates p p.current) i) now p (p.current + i)
unfolding generations_from
each t a candidates iface now told p r zero h =
    subst (λ k. IsRightHop t a candidates (generation_at t a candidates p p.current) now p k) (sym (add-zero p.current))
    (right_hop t a candidates now p p.current r.valid r.tags r.switch)
each t a candidates iface now told p r (suc zero) h =
    let there = second_there p p.current h in
    subst (λ g. IsRightHop t a candidates g now p (p.current + 1))
    (sym (cond-true (has_second p p.current) (generation_at t a candidates p (p.current + 1)) 0 there))
    (second_hop t a candidates now p p.current r.second there)
each t a candidates iface now told p r (suc (suc i)) h = absurd (omega (arith, few_hops p p.current))

-- ---- the whole

-- the answer leaves the packet as its hops were handled
Leaves : Network → AsId → List ℕ → Contents → Turn → Type 0
Leaves t a candidates p answer = GoesOn t a p (packet_after t a answer p) (handled_hops p p.current) (generations_from t a candidates p p.current)

accepted : (t : Network) (a : AsId) (candidates : List ℕ) (iface now : ℕ) (told : Told) (bytes : List ℕ) (answer : Turn) → fault is_first_byte bytes ≡ None
    → IsPacket (parse bytes) → IsPassed t a candidates iface now told (parse bytes)
    → (((parse bytes).current + handled_hops (parse bytes) (parse bytes).current ≤ hop_count (parse bytes)) → Leaves t a candidates (parse bytes) answer)
    → (let p = parse bytes in
    IsAccepted t a candidates iface now told bytes answer (handled_hops p p.current) (generations_from t a candidates p p.current))
unfolding Leaves
accepted t a candidates iface now told bytes answer faultless packet r leaves =
    let p = parse bytes in
    let entry = entered a iface p r.entry in
    let ne = entry.0 in
    let within = packet.current in
    let there = all_there p p.current (omega (arith, ne, within)) in
    record {
      faultless = faultless;
      there = there;
      comes = comes a iface p entry.1 (right_hop t a candidates now p p.current r.valid r.tags r.switch).first_is;
      entered = entry.1;
      hops_are = refl;
      each = each t a candidates iface now told p r;
      timely = timely t now told p p.current r.fresh r.window;
      goes_on = leaves there;
    }

forwarded : (t : Network) (a : AsId) (p : Contents) → first_row (exit_rows t a p (last_handled p p.current)) ≡ None
    → (egress p.route (last_handled p p.current) == 0) ≡ false → IsForwarded t a p (egress p.route (last_handled p p.current))
unfolding exit_rows
forwarded t a p none h =
    let row = row_passed _ _ none in
    record {
      egress_is = refl;
      leaves = eqb-false _ _ h;
      linked = not-false _ (other_fails _ _ (ap not h) row.0);
    }

delivered : (t : Network) (a : AsId) (p : Contents) → first_row (exit_rows t a p (last_handled p p.current)) ≡ None
    → (egress p.route (last_handled p p.current) == 0) ≡ true → IsDelivered a p p.dst.host
unfolding exit_rows
delivered t a p none h =
    let row = row_passed _ _ none in
    let last = row_passed _ _ row.1 in
    record {
      egress_is = eqb-true _ _ h;
      destination = one_as _ _ (other_fails _ _ h last.0);
      host_is = refl;
    }

both_long : (t : Network) (a : AsId) (candidates : List ℕ) (p : Contents) (j : ℕ) → length (generations_from t a candidates p j) ≡ 2
unfolding generations_from
both_long t a candidates p j = refl

accepts_onward : (t : Network) (a : AsId) (candidates : List ℕ) (iface now : ℕ) (told : Told) (bytes : List ℕ) → fault is_first_byte bytes ≡ None
    → IsPacket (parse bytes) → IsPassed t a candidates iface now told (parse bytes)
    → (let p = parse bytes in
    IsRightTurn t a candidates iface now told bytes (onward p (last_handled p p.current) (handled_hops p p.current) (generations_from t a candidates p p.current)))
unfolding onward Leaves
accepts_onward t a candidates iface now told bytes faultless packet r =
    let p = parse bytes in
    let z = last_handled p p.current in
    let hops = handled_hops p p.current in
    let gs = generations_from t a candidates p p.current in
    let enough : hops ≤ length gs = omega (arith, few_hops p p.current, both_long t a candidates p p.current) in
    cond_both (egress p.route z == 0) (Deliver p.dst.host hops gs) (Forward (egress p.route z) hops gs)
    (IsRightTurn t a candidates iface now told bytes)
    (λ h. (accepted t a candidates iface now told bytes (Deliver p.dst.host hops gs) faultless packet r (goes_on t a p hops gs packet enough), delivered t a p r.exit h))
    (λ h. (accepted t a candidates iface now told bytes (Forward (egress p.route z) hops gs) faultless packet r (goes_on t a p hops gs packet enough), forwarded t a p r.exit h))

pub turns_are_right : TurnsAreRight
turns_are_right t a candidates iface now told bytes read =
    by_answer t a candidates iface now told bytes (IsRightTurn t a candidates iface now told bytes) (λ _ _. tt)
    (λ faultless r. accepts_onward t a candidates iface now told bytes faultless (read faultless) r)
