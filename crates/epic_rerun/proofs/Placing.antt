-- Items one after the other, by the ledger that those before them tell.
use Rattle.std.proofs.Common.{◌≡◌, suc, List, [], ◌∷◌, ◌++◌, length, map, refl, sym, ap, subst, ◌∙◌, append_assoc, append-nil, length-append, arith}
use Rattle.std.specs.Prelude.{IsTrue, Option, None, Some, filter_map, ⊤}
use Rattle.std.specs.List.{All, cons_option}
use Rattle.std.proofs.lemmas.List.{length-map}
use Rattle.std.proofs.lemmas.List.Concat.{flat_map-append}
use Rattle.std.proofs.lemmas.List.Elements.{All-append, All-nil, filter_map-append}
use Rattle.epic_num.specs.declared.verdict.Verdict.{Verdict}
use Rattle.epic_topo.specs.Network.{Network}
use Rattle.epic_ledger.specs.Facts.{Facts, facts_of}
use Rattle.epic_ledger.specs.History.{History}
use Rattle.epic_ledger.specs.OneMore.{with_emission, with_event}
use Rattle.epic_record.specs.declared.item.Item.{Item}
use Rattle.epic_record.specs.declared.item.Item.TheVariants as items
use Rattle.epic_record.specs.LedgerFile.{as_emission, as_event, history_in, is_placed}
use Rattle.epic_record.specs.VerdictLines.{Acceptance, accepted_by, acceptances, verdict_line, verdict_text}
use Rattle.epic_judging.specs.Judgment.{accepted_after}
use Rattle.epic_reread.specs.JudgedYes.{AreGivenOf}
use Rattle.epic_reread.specs.LedgerFitting.{ItemFits}
use Rattle.epic_reread.specs.LedgerRereading.{ArePlaced}

-- ---- the ledger after items

abbrev pub after_item : History → Item → History
after_item h (items.Event e) = with_event h e
after_item h (items.Emission number due bytes) = with_emission h (record { place = due; bytes = bytes })
after_item h (items.AcceptHop a generation hop bytes) = h
after_item h (items.AcceptDest host bytes) = h

abbrev pub after_items : History → List Item → History
after_items h [] = h
after_items h (item ∷ more) = after_items (after_item h item) more

-- each may follow the ledger before it
abbrev pub PlacedOn : Network → History → List Item → Type 0
PlacedOn t h [] = ⊤
PlacedOn t h (item ∷ more) = IsTrue (is_placed t h item) × PlacedOn t (after_item h item) more

-- the acceptances, each with what the ledger before it says
abbrev pub accepted_on : History → List Item → List (Facts × Acceptance)
accepted_on h [] = []
accepted_on h (item ∷ more) = map (λ a. (facts_of h, a)) (accepted_by item) ++ accepted_on (after_item h item) more

pub none_more : {X Y : Type 0} (f : X → Option Y) (xs : List X) (x : X) → f x ≡ None → filter_map f (xs ++ x ∷ []) ≡ filter_map f xs
none_more f xs x e =
    filter_map-append f xs (x ∷ []) ∙ (ap (λ o. filter_map f xs ++ cons_option o []) e ∙ append-nil (filter_map f xs))

pub one_more : {X Y : Type 0} (f : X → Option Y) (xs : List X) (x : X) (y : Y) → f x ≡ Some y
    → filter_map f (xs ++ x ∷ []) ≡ filter_map f xs ++ y ∷ []
one_more f xs x y e = filter_map-append f xs (x ∷ []) ∙ ap (λ o. filter_map f xs ++ cons_option o []) e

history_more : (before : List Item) (item : Item) → history_in (before ++ item ∷ []) ≡ after_item (history_in before) item
unfolding history_in as_event as_emission
history_more before (items.Event e) = λ i. record {
  events = one_more as_event before (items.Event e) e refl i;
  emissions = none_more as_emission before (items.Event e) refl i;
}
history_more before (items.Emission number due bytes) = λ i. record {
  events = none_more as_event before (items.Emission number due bytes) refl i;
  emissions = one_more as_emission before (items.Emission number due bytes) (record { place = due; bytes = bytes }) refl i;
}
history_more before (items.AcceptHop a generation hop bytes) = λ i. record {
  events = none_more as_event before (items.AcceptHop a generation hop bytes) refl i;
  emissions = none_more as_emission before (items.AcceptHop a generation hop bytes) refl i;
}
history_more before (items.AcceptDest host bytes) = λ i. record {
  events = none_more as_event before (items.AcceptDest host bytes) refl i;
  emissions = none_more as_emission before (items.AcceptDest host bytes) refl i;
}

pub history_after : (before told : List Item) → history_in (before ++ told) ≡ after_items (history_in before) told
history_after before [] = ap history_in (append-nil before)
history_after before (item ∷ more) =
    ap history_in (sym (append_assoc before (item ∷ []) more))
    ∙ (history_after (before ++ item ∷ []) more ∙ ap (λ h. after_items h more) (history_more before item))

pub are_placed : (t : Network) (before told : List Item) → PlacedOn t (history_in before) told → ArePlaced t before told
are_placed t before [] p = tt
are_placed t before (item ∷ more) p =
    (p.0, are_placed t (before ++ item ∷ []) more (subst (λ h. PlacedOn t h more) (sym (history_more before item)) p.1))

pub accepted_same : (before told : List Item) → accepted_after before told ≡ accepted_on (history_in before) told
accepted_same before [] = refl
accepted_same before (item ∷ more) =
    ap (λ rest. map (λ a. (facts_of (history_in before), a)) (accepted_by item) ++ rest)
    (accepted_same (before ++ item ∷ []) more ∙ ap (λ h. accepted_on h more) (history_more before item))

-- ---- items, and more of them

after_both : (h : History) (xs ys : List Item) → after_items h (xs ++ ys) ≡ after_items (after_items h xs) ys
after_both h [] ys = refl
after_both h (x ∷ xs) ys = after_both (after_item h x) xs ys

placed_both : (t : Network) (h : History) (xs ys : List Item) → PlacedOn t h xs → PlacedOn t (after_items h xs) ys → PlacedOn t h (xs ++ ys)
placed_both t h [] ys p q = q
placed_both t h (x ∷ xs) ys p q = (p.0, placed_both t (after_item h x) xs ys p.1 q)

accepted_both : (h : History) (xs ys : List Item) → accepted_on h (xs ++ ys) ≡ accepted_on h xs ++ accepted_on (after_items h xs) ys
accepted_both h [] ys = refl
accepted_both h (x ∷ xs) ys =
    let first = map (λ a. (facts_of h, a)) (accepted_by x) in
    ap (λ rest. first ++ rest) (accepted_both (after_item h x) xs ys)
    ∙ sym (append_assoc first (accepted_on (after_item h x) xs) (accepted_on (after_items (after_item h x) xs) ys))

given_both : (t : Network) (accs bs : List (Facts × Acceptance)) (vs ws : List Verdict) → AreGivenOf t accs vs → AreGivenOf t bs ws
    → AreGivenOf t (accs ++ bs) (vs ++ ws)
given_both t [] bs [] ws g k = k
given_both t [] bs (v ∷ vs) ws g k = absurd g
given_both t (a ∷ accs) bs [] ws g k = absurd g
given_both t (a ∷ accs) bs (v ∷ vs) ws g k = (g.0, given_both t accs bs vs ws g.1 k)

pub given_many : (t : Network) (accs : List (Facts × Acceptance)) (vs : List Verdict) → AreGivenOf t accs vs → length accs ≡ length vs
given_many t [] [] g = refl
given_many t [] (v ∷ vs) g = absurd g
given_many t (a ∷ accs) [] g = absurd g
given_many t (a ∷ accs) (v ∷ vs) g = ap suc (given_many t accs vs g.1)

pub accepted_many : (h : History) (told : List Item) → length (accepted_on h told) ≡ length (acceptances told)
unfolding acceptances
accepted_many h [] = refl
accepted_many h (item ∷ more) =
    let here = accepted_by item in
    let rest = accepted_many (after_item h item) more in
    let long = length-map {B = Facts × Acceptance} here (λ a. (facts_of h, a)) in
    let all = length-append (map (λ a. (facts_of h, a)) here) (accepted_on (after_item h item) more) in
    let both = length-append here (acceptances more) in
    omega (arith, rest, long, all, both)

-- What items tell after a ledger, up to another: each may follow those before it and fits, and each acceptance has its verdict.
pub record Told (t : Network) (h : History) (told : List Item) (verdicts : List Verdict) (g : History) : Type 0 where
  pub placed : PlacedOn t h told
  pub fits : All ItemFits told
  pub given : AreGivenOf t (accepted_on h told) verdicts
  pub ends : after_items h told ≡ g

pub told_none : (t : Network) (h : History) → Told t h [] [] h
told_none t h = record { placed = tt; fits = All-nil ItemFits; given = tt; ends = refl }

pub told_both : (t : Network) (h g k : History) (xs ys : List Item) (vs ws : List Verdict) → Told t h xs vs g → Told t g ys ws k
    → Told t h (xs ++ ys) (vs ++ ws) k
told_both t h g k xs ys vs ws a b = record {
  placed = placed_both t h xs ys a.placed (subst (λ m. PlacedOn t m ys) (sym a.ends) b.placed);
  fits = All-append ItemFits xs ys a.fits b.fits;
  given =
      subst (λ accs. AreGivenOf t accs (vs ++ ws)) (sym (accepted_both h xs ys))
      (given_both t (accepted_on h xs) (accepted_on (after_items h xs) ys) vs ws a.given
      (subst (λ m. AreGivenOf t (accepted_on m ys) ws) (sym a.ends) b.given));
  ends = after_both h xs ys ∙ (ap (λ m. after_items m ys) a.ends ∙ b.ends);
}

pub told_many : (t : Network) (h g : History) (told : List Item) (vs : List Verdict) → Told t h told vs g → length (acceptances told) ≡ length vs
told_many t h g told vs a = sym (accepted_many h told) ∙ given_many t (accepted_on h told) vs a.given

-- ---- lines of verdicts

text_both : (t : Network) (accs bs : List Acceptance) (vs ws : List Verdict) → length accs ≡ length vs
    → verdict_text t (accs ++ bs) (vs ++ ws) ≡ verdict_text t accs vs ++ verdict_text t bs ws
unfolding verdict_text
text_both t [] bs [] ws same = refl
text_both t [] bs (v ∷ vs) ws same = absurd (omega (arith, same))
text_both t (a ∷ accs) bs [] ws same = absurd (omega (arith, same))
text_both t (a ∷ accs) bs (v ∷ vs) ws same =
    ap (λ text. verdict_line t a v ++ text) (text_both t accs bs vs ws (omega (arith, same)))
    ∙ sym (append_assoc (verdict_line t a v) (verdict_text t accs vs) (verdict_text t bs ws))

pub lines_both : (t : Network) (h g : History) (xs ys : List Item) (vs ws : List Verdict) → Told t h xs vs g
    → verdict_text t (acceptances (xs ++ ys)) (vs ++ ws) ≡ verdict_text t (acceptances xs) vs ++ verdict_text t (acceptances ys) ws
unfolding acceptances
lines_both t h g xs ys vs ws a =
    ap (λ accs. verdict_text t accs (vs ++ ws)) (flat_map-append accepted_by xs ys)
    ∙ text_both t (acceptances xs) (acceptances ys) vs ws (told_many t h g xs vs a)
