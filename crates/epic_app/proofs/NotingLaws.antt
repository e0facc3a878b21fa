-- What is noted of passes, one after the other.
use Rattle.std.proofs.Common.{◌≡◌, ℕ, suc, ◌+◌, ◌<◌, ◌≤◌, Bool, true, false, not, ◌||◌, List, [], ◌∷◌, ◌++◌, length, take, drop, get_or, refl, sym, ap, subst, ◌∙◌, append-nil, append_assoc, take_all, arith}
use Rattle.std.specs.Prelude.{if◌then◌else◌}
use Rattle.std.specs.List.{All, list_any}
use Rattle.std.proofs.lemmas.List.{drop_more, take_more}
use Rattle.std.proofs.lemmas.List.Concat.{flat_map-append}
use Rattle.epic_num.specs.declared.passed.Passed.{Passed}
use Rattle.epic_num.specs.declared.name.AsId.{AsId}
use Rattle.epic_num.specs.declared.passed.PassResult.{PassResult}
use Rattle.epic_num.specs.declared.passed.PassResult.TheVariants.{Turned, Arrived, Full}
use Rattle.epic_num.specs.declared.passed.Place.{Place}
use Rattle.epic_num.specs.declared.passed.Place.TheVariants.{Router, Host}
use Rattle.epic_num.specs.declared.turn.Turn.{Turn}
use Rattle.epic_num.specs.declared.turn.Turn.TheVariants.{Forward, Deliver, Refused}
use Rattle.epic_topo.specs.Network.{Network}
use Rattle.epic_ledger.specs.Facts.{Facts}
use Rattle.epic_holders.specs.declared.maker.Maker.{Maker}
use Rattle.epic_policer.specs.Policing.{Offer}
use Rattle.epic_app.specs.Showing.{Showing}
use Rattle.epic_app.specs.Noting.{Coming, alarms, all_offered, coming, makers_at, noted_along, noted_at, offered, some_alarms}
use Rattle.epic_app.proofs.RunLemmas.{any_last}

-- one pass more
module _ (show : Showing) (t : Network) (f : Facts) (number moment : ℕ) where
  pub noted-last : (offers : List Offer) (xs : List Coming) (y : Coming)
      → noted_along show t f number moment offers (xs ++ y ∷ [])
      ≡ noted_along show t f number moment offers xs ++ noted_at show t f number moment (offers ++ all_offered moment xs) y ∷ []
  unfolding noted_along
  noted-last offers [] y = ap (λ before. noted_at show t f number moment before y ∷ []) (sym (append-nil offers))
  noted-last offers (x ∷ xs) y =
      ap (λ more. noted_at show t f number moment offers x ∷ more)
      (noted-last (offers ++ offered moment x) xs y
      ∙ ap (λ before. noted_along show t f number moment (offers ++ offered moment x) xs ++ noted_at show t f number moment before y ∷ [])
      (append_assoc offers (offered moment x) (all_offered moment xs)))

  pub offered-last : (offers : List Offer) (xs : List Coming) (y : Coming)
      → offers ++ all_offered moment (xs ++ y ∷ []) ≡ (offers ++ all_offered moment xs) ++ offered moment y
  offered-last offers xs y =
      ap (λ more. offers ++ more) (flat_map-append (offered moment) xs (y ∷ []) ∙ ap (λ more. all_offered moment xs ++ more) (append-nil (offered moment y)))
      ∙ sym (append_assoc offers (all_offered moment xs) (offered moment y))

  -- a maker of one of them is an alarm
  abbrev alarms_at : Coming → Bool
  alarms_at x = list_any alarms (makers_at show t f (λ a g p j m. m) x)

  pub alarms-last : (xs : List Coming) (y : Coming) → some_alarms show t f (xs ++ y ∷ []) ≡ some_alarms show t f xs || alarms_at y
  unfolding some_alarms
  alarms-last xs y = any_last alarms_at xs y

-- where makers aren't shown there is no alarm
none_at : (show : Showing) (t : Network) (f : Facts) (x : Coming) → show.makers ≡ false → list_any alarms (makers_at show t f (λ a g p j m. m) x) ≡ false
none_at show t f x none = by_place x.passed.place x.passed.result
  where
    hidden : (b : Bool) (xs : List Maker) → b ≡ false → list_any alarms (if b then xs else []) ≡ false
    hidden true xs is = absurd (cc)
    hidden false xs is = refl

    by_turn : (a : AsId) (iface : ℕ) (turn : Turn) → list_any alarms (makers_at show t f (λ a g p j m. m) (record { came = x.came; passed = record x.passed { place = Router a iface; result = Turned turn } })) ≡ false
    by_turn a iface (Forward out hops generations) = hidden show.makers _ none
    by_turn a iface (Deliver host hops generations) = hidden show.makers _ none
    by_turn a iface (Refused check hop) = refl

    by_result : (a : AsId) (iface : ℕ) (result : PassResult)
        → list_any alarms (makers_at show t f (λ a g p j m. m) (record { came = x.came; passed = record x.passed { place = Router a iface; result = result } })) ≡ false
    by_result a iface (Turned turn) = by_turn a iface turn
    by_result a iface (Arrived arrival) = refl
    by_result a iface Full = refl

    by_place : (place : Place) (result : PassResult)
        → list_any alarms (makers_at show t f (λ a g p j m. m) (record { came = x.came; passed = record x.passed { place = place; result = result } })) ≡ false
    by_place (Router a iface) result = by_result a iface result
    by_place (Host host) result = refl

pub no_alarms : (show : Showing) (t : Network) (f : Facts) (xs : List Coming) → show.makers ≡ false → some_alarms show t f xs ≡ false
unfolding some_alarms
no_alarms show t f [] none = refl
no_alarms show t f (x ∷ xs) none =
    ap (λ b. b || list_any (λ y. list_any alarms (makers_at show t f (λ a g p j m. m) y)) xs) (none_at show t f x none) ∙ no_alarms show t f xs none

pub off : (b : Bool) → not b ≡ true → b ≡ false
off true is = absurd (cc)
off false is = refl

pub on : (b : Bool) → not b ≡ false → b ≡ true
on true is = refl
on false is = absurd (cc)

pub unshown : (a b : Bool) → a || b ≡ false → a ≡ false
unshown true b is = absurd (cc)
unshown false b is = refl

-- ---- passes that come one after the other

length-coming : (emissions : ℕ → List ℕ) (came : List ℕ) (ps : List Passed) → length (coming emissions came ps) ≡ length ps
length-coming emissions came [] = refl
length-coming emissions came (p ∷ ps) = ap suc (length-coming emissions (emissions p.emission) ps)

module _ (emissions : ℕ → List ℕ) (came next : List ℕ) (ps : List Passed) (i : ℕ) (pass : Passed)
    (within : i < length ps) (is : pass ≡ get_or ps i pass)
    (left : coming emissions next (drop i ps) ≡ drop i (coming emissions came ps)) where
  within_all : i < length (coming emissions came ps)
  within_all = omega (arith, within, length-coming emissions came ps)

  front : drop i ps ≡ pass ∷ drop (i + 1) ps
  front = drop_more ps i pass within ∙ ap (λ (q : Passed). q ∷ drop (i + 1) ps) (sym is)

  both : record { came = next; passed = pass } ∷ coming emissions (emissions pass.emission) (drop (i + 1) ps)
      ≡ get_or (coming emissions came ps) i (record { came = next; passed = pass }) ∷ drop (i + 1) (coming emissions came ps)
  both = sym (ap (coming emissions next) front) ∙ (left ∙ drop_more (coming emissions came ps) i (record { came = next; passed = pass }) within_all)

  pub this_is : get_or (coming emissions came ps) i (record { came = next; passed = pass }) ≡ record { came = next; passed = pass }
  this_is = sym (ap (λ xs. get_or xs 0 (record { came = next; passed = pass })) both)

  pub rest_left : coming emissions (emissions pass.emission) (drop (i + 1) ps) ≡ drop (i + 1) (coming emissions came ps)
  rest_left = ap (drop 1) both

  pub one_taken : take (i + 1) (coming emissions came ps) ≡ take i (coming emissions came ps) ++ record { came = next; passed = pass } ∷ []
  one_taken = take_more (coming emissions came ps) i (record { came = next; passed = pass }) within_all
      ∙ ap (λ y. take i (coming emissions came ps) ++ y ∷ []) this_is

  pub this_holds : (P : Coming → Type 0) → All P (coming emissions came ps) → P (record { came = next; passed = pass })
  this_holds P holds = subst P this_is (holds i (record { came = next; passed = pass }) within_all)

-- all were taken
pub all_taken : (emissions : ℕ → List ℕ) (came : List ℕ) (ps : List Passed) (i : ℕ) → length ps ≤ i
    → take i (coming emissions came ps) ≡ coming emissions came ps
all_taken emissions came ps i past = take_all i (coming emissions came ps) (omega (arith, past, length-coming emissions came ps))
