-- What a router answers from what its blocks of checks tell.
use Rattle.std.proofs.Common.{◌≡◌, ℕ, ◌+◌, ◌<◌, true, List, [], ◌∷◌, ◌++◌, take, Option, None, Some, Ok, Err, refl, ap, sym, ◌∙◌, arith, append_assoc}
use Rattle.std.specs.Prelude.{◌==◌, unwrap_or, option_map}
use Rattle.std.proofs.lemmas.Bool.{cond-true, cond-false, cond_both}
use Rattle.epic_num.specs.declared.layout_error.LayoutError.{LayoutError}
use Rattle.epic_num.specs.declared.name.AsId.{AsId}
use Rattle.epic_num.specs.declared.turn.Check.{Check}
use Rattle.epic_num.specs.declared.turn.Check.TheVariants.{Layout}
use Rattle.epic_num.specs.declared.turn.Turn.TheVariants.{Forward, Deliver, Refused}
use Rattle.epic_num.specs.Levels.{is_first_byte}
use Rattle.epic_num.specs.Tables.{first_row, unless as or_error}
use Rattle.epic_num.specs.Windows.{Told}
use Rattle.epic_num.proofs.TableLaws.{first_row-behind, first_row-before}
use Rattle.epic_layout.specs.Contents.{Contents, hop_count}
use Rattle.epic_layout.specs.Layout.{fault, parse}
use Rattle.epic_layout.specs.Route.{egress}
use Rattle.epic_layout.specs.Spelling.{spelling}
use Rattle.epic_layout.proofs.Soundness.{faultless, checked_sound}
use Rattle.epic_topo.specs.Network.{Network}
use Rattle.epic_router.specs.Acceptance.{IsAccepting, IsSecond, AreUpdates, generations_of, hops_of, last_of}
use Rattle.epic_router.specs.Blocks.{arrival_rows, hop_rows, hops_rows, checked_rows}
use Rattle.epic_router.specs.Candidates.{accepting}
use Rattle.epic_router.specs.Checks.{window_rows, rows, has_second, handled_hops, last_handled}
use Rattle.epic_router.specs.Handling.{generation_at, generations_from, onward, unless, handled, turn_of}
use Rattle.epic_router.specs.Leaving.{hops_on}
use Rattle.epic_router.specs.Remembering.{is_accepted}
use Rattle.epic_router.specs.Routers.{bytes_after}
use Rattle.epic_router.specs.declared.accepted.Accepted.{Accepted}
use Rattle.epic_router.proofs.Right.{one, two, second_is}

-- ---- the table in blocks

grouped : (t : Network) (a : AsId) (cs : List ℕ) (iface now : ℕ) (told : Told) (p : Contents)
    → rows t a cs iface now told p ≡ checked_rows t a cs iface now p ++ window_rows t told p p.current
unfolding rows checked_rows arrival_rows hops_rows hop_rows
grouped t a cs iface now told p = simp append_assoc

pub refused_by_checks : (t : Network) (a : AsId) (cs : List ℕ) (iface now : ℕ) (told : Told) (p : Contents) (check : Check) (hop : ℕ)
    → Some (check, hop) ≡ first_row (checked_rows t a cs iface now p) → Refused check hop ≡ handled t a cs iface now told p
unfolding handled
refused_by_checks t a cs iface now told p check hop e =
    sym (ap (λ o. unless o (onward p (last_handled p p.current) (handled_hops p p.current) (generations_from t a cs p p.current)))
    (ap first_row (grouped t a cs iface now told p) ∙ first_row-before (checked_rows t a cs iface now p) (window_rows t told p p.current) _ (sym e)))

pub refused_by_window : (t : Network) (a : AsId) (cs : List ℕ) (iface now : ℕ) (told : Told) (p : Contents) (check : Check) (hop : ℕ)
    → None ≡ first_row (checked_rows t a cs iface now p) → Some (check, hop) ≡ first_row (window_rows t told p p.current)
    → Refused check hop ≡ handled t a cs iface now told p
unfolding handled
refused_by_window t a cs iface now told p check hop none e =
    sym (ap (λ o. unless o (onward p (last_handled p p.current) (handled_hops p p.current) (generations_from t a cs p p.current)))
    (ap first_row (grouped t a cs iface now told p) ∙ (first_row-behind (checked_rows t a cs iface now p) (window_rows t told p p.current) (sym none) ∙ sym e)))

-- ---- the hops that were handled

pub last_there : (t : Network) (a : AsId) (cs : List ℕ) (p : Contents) (j : ℕ) (s : Option Accepted) → IsSecond t a cs p j s → j < hop_count p
    → last_of j s < hop_count p
last_there t a cs p j None second h = h
last_there t a cs p j (Some x) second h = (let ne = (second_is p j second.0).1 in omega (arith, ne, h))

last_is : (t : Network) (a : AsId) (cs : List ℕ) (p : Contents) (j : ℕ) (s : Option Accepted) → IsSecond t a cs p j s → last_of j s ≡ last_handled p j
unfolding last_handled
last_is t a cs p j None second = sym (cond-false _ _ _ second)
last_is t a cs p j (Some x) second = sym (cond-true _ _ _ second.0)

hops_are : (t : Network) (a : AsId) (cs : List ℕ) (p : Contents) (j : ℕ) (s : Option Accepted) → IsSecond t a cs p j s → hops_of s ≡ handled_hops p j
hops_are t a cs p j None second = sym (one p j second)
hops_are t a cs p j (Some x) second = sym (two p j second.0)

generation_is : (t : Network) (a : AsId) (cs : List ℕ) (p : Contents) (j g : ℕ) → accepting t a cs p j ≡ Some g → g ≡ generation_at t a cs p j
unfolding generation_at
generation_is t a cs p j g e = sym (ap (λ o. unwrap_or o 0) e)

both : (m n k l : ℕ) → m ≡ n → k ≡ l → (m ∷ k ∷ []) ≡ (n ∷ l ∷ [])
both m n k l d e = λ i. d i ∷ e i ∷ []

generations_are : (t : Network) (a : AsId) (cs : List ℕ) (p : Contents) (j : ℕ) (x : Accepted) (s : Option Accepted) → IsAccepting t a cs p j x
    → IsSecond t a cs p j s → generations_of x s ≡ generations_from t a cs p j
unfolding generations_from
generations_are t a cs p j x None first second =
    both _ _ _ _ (generation_is t a cs p j x.generation first.generation)
    (sym (cond-false (has_second p j) (generation_at t a cs p (j + 1)) 0 second))
generations_are t a cs p j x (Some y) first second =
    both _ _ _ _ (generation_is t a cs p j x.generation first.generation)
    (generation_is t a cs p (j + 1) y.generation second.1.generation ∙ sym (cond-true (has_second p j) (generation_at t a cs p (j + 1)) 0 second.0))

pub are_updates : (t : Network) (a : AsId) (cs : List ℕ) (p : Contents) (j : ℕ) (x : Accepted) (s : Option Accepted) → IsAccepting t a cs p j x
    → IsSecond t a cs p j s → AreUpdates t a p j x s
are_updates t a cs p j x None first second = first.update
are_updates t a cs p j x (Some y) first second = (first.update, second.1.update)

-- ---- a packet that passes all checks

pub accepted_by_all : (t : Network) (a : AsId) (cs : List ℕ) (iface now : ℕ) (told : Told) (p : Contents) (x : Accepted) (s : Option Accepted)
    → None ≡ first_row (checked_rows t a cs iface now p) → None ≡ first_row (window_rows t told p p.current)
    → IsAccepting t a cs p p.current x → IsSecond t a cs p p.current s
    → onward p (last_of p.current s) (hops_of s) (generations_of x s) ≡ handled t a cs iface now told p
unfolding handled
accepted_by_all t a cs iface now told p x s none window first second =
    (λ i. onward p (last_is t a cs p p.current s second i) (hops_are t a cs p p.current s second i) (generations_are t a cs p p.current x s first second i))
    ∙ sym (ap (λ o. unless o (onward p (last_handled p p.current) (handled_hops p p.current) (generations_from t a cs p p.current)))
    (ap first_row (grouped t a cs iface now told p) ∙ (first_row-behind (checked_rows t a cs iface now p) (window_rows t told p p.current) (sym none) ∙ sym window)))

-- its bytes and what the window knows of it, by where it goes
pub bytes_onward : (t : Network) (a : AsId) (last hops : ℕ) (generations bytes : List ℕ)
    → spelling (hops_on t a (take hops generations) (parse bytes)) ≡ bytes_after t a (onward (parse bytes) last hops generations) bytes
unfolding onward
bytes_onward t a last hops generations bytes =
    let p = parse bytes in
    cond_both (egress p.route last == 0) (Deliver p.dst.host hops generations) (Forward (egress p.route last) hops generations)
    (λ turn. spelling (hops_on t a (take hops generations) p) ≡ bytes_after t a turn bytes) (λ _. refl) (λ _. refl)

pub accepted_onward : (p : Contents) (last hops : ℕ) (generations : List ℕ) → true ≡ is_accepted (onward p last hops generations)
unfolding onward
accepted_onward p last hops generations =
    cond_both (egress p.route last == 0) (Deliver p.dst.host hops generations) (Forward (egress p.route last) hops generations)
    (λ turn. true ≡ is_accepted turn) (λ _. refl) (λ _. refl)

-- ---- bytes that were checked

pub without_fault : {X : Type 0} (t : Network) (a : AsId) (cs : List ℕ) (iface now : ℕ) (told : Told) (bytes : List ℕ) (x y : X)
    → Ok x ≡ or_error (fault is_first_byte bytes) y → handled t a cs iface now told (parse bytes) ≡ turn_of t a cs iface now told bytes
unfolding turn_of
without_fault t a cs iface now told bytes x y checked =
    sym (ap (λ o. unless (option_map (λ e. (Layout e, 0)) o) (handled t a cs iface now told (parse bytes)))
    (faultless bytes (checked_sound bytes x y checked)))

found : {X E : Type 0} (o : Option E) (e : E) (y : X) → Err e ≡ or_error o y → o ≡ Some e
found None e y is = absurd (cc)
found (Some f) e y is = cc

pub with_fault : {X : Type 0} (t : Network) (a : AsId) (cs : List ℕ) (iface now : ℕ) (told : Told) (bytes : List ℕ) (error : LayoutError) (y : X)
    → Err error ≡ or_error (fault is_first_byte bytes) y → Refused (Layout error) 0 ≡ turn_of t a cs iface now told bytes
unfolding turn_of
with_fault t a cs iface now told bytes error y checked =
    sym (ap (λ o. unless (option_map (λ e. (Layout e, 0)) o) (handled t a cs iface now told (parse bytes))) (found _ error y checked))
