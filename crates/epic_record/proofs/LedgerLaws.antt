-- How the items of a ledger file come together line by line.
use Rattle.std.proofs.Common.{◌≡◌, ℕ, ◌+◌, ◌≤◌, ltb, cond, true, false, List, [], ◌∷◌, ◌++◌, length, refl, ap, sym, ◌∙◌, subst, arith, append-nil, append_assoc, length-append}
use Rattle.std.specs.Prelude.{Bool, Result, Ok, Err}
use Rattle.std.proofs.lemmas.Bool.Decides.{nat_tests}
use Rattle.epic_topo.specs.Network.{Network}
use Rattle.epic_text.specs.Lines.{parts}
use Rattle.epic_record.specs.declared.fault.FileKind.{FileKind}
use Rattle.epic_record.specs.declared.fault.FileKind.TheVariants.{BadPlace, TooLong}
use Rattle.epic_record.specs.declared.item.Item.{Item}
use Rattle.epic_record.specs.LedgerCheck.{counted}
use Rattle.epic_record.specs.LedgerFile.{history_in, items_after, ledger_file, most_ledger, on_line, placed}
use Rattle.epic_record.specs.LedgerLine.{item_of}
use Rattle.epic_record.specs.Places.{IsSeen, Seen, fitting, item_fits, seen_after}
use Rattle.epic_record.specs.VerdictLines.{accepted_by, acceptances}
use Rattle.epic_record.proofs.PlaceLaws.{item_fits_is, seen_more, seen_none}

-- so many lines of a file are read
pub record Read (t : Network) (bytes rest : List ℕ) (number accepted : ℕ) (seen : Seen) : Type 0 where
  pub before : List Item
  pub told : ledger_file t bytes ≡ items_after t before (number + 1) (parts rest)
  pub known : IsSeen seen (history_in before)
  pub counted : accepted ≡ length (acceptances before)

not_too_long : {A : Type 0} (most n : ℕ) (x y : A) → n ≤ most → cond (ltb most n) x y ≡ y
not_too_long most n x y h = grind (arith, nat_tests)

too_long : {A : Type 0} (most n : ℕ) (x y : A) → most + 1 ≤ n → cond (ltb most n) x y ≡ x
too_long most n x y h = grind (arith, nat_tests)

-- the file as a whole is refused
pub whole_refused : (t : Network) (bytes : List ℕ) → most_ledger + 1 ≤ length bytes → counted (ledger_file t bytes) ≡ Err (0, TooLong)
unfolding ledger_file
whole_refused t bytes h = ap counted (too_long most_ledger (length bytes) (Err (0, TooLong)) (items_after t [] 1 (parts bytes)) h)

pub none_read : (t : Network) (bytes : List ℕ) (seen : Seen) → length bytes ≤ most_ledger → seen.positions ≡ [] → seen.emissions ≡ 0
    → Read t bytes bytes 0 0 seen
unfolding ledger_file acceptances
none_read t bytes seen small positions emissions = record {
  before = [];
  told = not_too_long most_ledger (length bytes) (Err (0, TooLong)) (items_after t [] 1 (parts bytes)) small;
  known = seen_none seen positions emissions;
  counted = refl;
}

placed_is : (t : Network) (seen : Seen) (before : List Item) → IsSeen seen (history_in before) → (r : Result Item FileKind)
    → placed t (history_in before) r ≡ fitting t seen r
placed_is t seen before known (Err kind) = refl
placed_is t seen before known (Ok item) =
    ap (λ b. cond b (Ok item) (Err BadPlace)) (sym (item_fits_is t seen (history_in before) known item))

chosen : {A E : Type 0} (b : Bool) (found item : A) (e : E) → cond b (Ok found) (Err e) ≡ Ok item → (b ≡ true) × (found ≡ item)
chosen true found item e is = (refl, cc)
chosen false found item e is = absurd (cc)

fits : (t : Network) (seen : Seen) (r : Result Item FileKind) (item : Item) → fitting t seen r ≡ Ok item → item_fits t seen item ≡ true
fits t seen (Err kind) item is = absurd (cc)
fits t seen (Ok found) item is =
    let c = chosen (item_fits t seen found) found item BadPlace is in
    subst (λ x. item_fits t seen x ≡ true) c.1 c.0

accepted_more : (before : List Item) (item : Item) → acceptances (before ++ item ∷ []) ≡ acceptances before ++ accepted_by item
unfolding acceptances
accepted_more [] item = append-nil (accepted_by item)
accepted_more (x ∷ before) item =
    ap (λ more. accepted_by x ++ more) (accepted_more before item)
    ∙ sym (append_assoc (accepted_by x) (acceptances before) (accepted_by item))

-- a line that may follow
pub line_read : (t : Network) (bytes rest line after : List ℕ) (number accepted n : ℕ) (seen next : Seen) (item : Item)
    → Read t bytes rest number accepted seen → parts rest ≡ line ∷ parts after → fitting t seen (item_of line) ≡ Ok item
    → next ≡ seen_after seen item → n ≡ length (accepted_by item) → Read t bytes after (number + 1) (accepted + n) next
unfolding acceptances
line_read t bytes rest line after number accepted n seen next item r first is seen_is count =
    let place = placed_is t seen r.before r.known (item_of line) ∙ is in
    record {
      before = r.before ++ item ∷ [];
      told =
          r.told
          ∙ ap (items_after t r.before (number + 1)) first
          ∙ ap (λ p. on_line (number + 1) p (λ x. items_after t (r.before ++ x ∷ []) (number + 1 + 1) (parts after))) place;
      known = subst (λ s. IsSeen s (history_in (r.before ++ item ∷ []))) (sym seen_is) (seen_more t seen r.before item r.known (fits t seen (item_of line) item is));
      counted =
          ap (λ m. m + n) r.counted
          ∙ ap (λ m. length (acceptances r.before) + m) count
          ∙ sym (ap length (accepted_more r.before item) ∙ length-append (acceptances r.before) (accepted_by item));
    }

-- a line that is refused
pub line_refused : (t : Network) (bytes rest line after : List ℕ) (number accepted : ℕ) (seen : Seen) (kind : FileKind)
    → Read t bytes rest number accepted seen → parts rest ≡ line ∷ parts after → fitting t seen (item_of line) ≡ Err kind
    → counted (ledger_file t bytes) ≡ Err (number + 1, kind)
line_refused t bytes rest line after number accepted seen kind r first is =
    let place = placed_is t seen r.before r.known (item_of line) ∙ is in
    ap counted
    (r.told
    ∙ ap (items_after t r.before (number + 1)) first
    ∙ ap (λ p. on_line (number + 1) p (λ x. items_after t (r.before ++ x ∷ []) (number + 1 + 1) (parts after))) place)

-- all lines are read
pub all_read : (t : Network) (bytes rest : List ℕ) (number accepted : ℕ) (seen : Seen) → Read t bytes rest number accepted seen → rest ≡ []
    → counted (ledger_file t bytes) ≡ Ok accepted
all_read t bytes rest number accepted seen r is =
    ap counted (r.told ∙ ap (λ m. items_after t r.before (number + 1) (parts m)) is) ∙ ap (λ n. Ok n) (sym r.counted)
