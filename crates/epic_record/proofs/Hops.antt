-- The hops that a router accepted.
use Rattle.std.proofs.Common.{◌≡◌, ◌≢◌, ℕ, zero, suc, ◌+◌, List, [], ◌∷◌, ◌++◌, length, take, get_or, refl, ap, sym, ◌∙◌, subst, append_assoc, append-nil, arith}
use Rattle.epic_num.specs.declared.name.AsId.{AsId}
use Rattle.epic_record.specs.declared.item.Item.TheVariants.{AcceptHop}
use Rattle.epic_record.specs.LedgerText.{item_line, ledger_text}
use Rattle.epic_record.specs.Passing.{hops_from}

-- the lines of so many hops
abbrev lines : AsId → ℕ → List ℕ → List ℕ → ℕ → List ℕ
lines a first came gs hops = ledger_text (hops_from a first came (take hops gs))

one : (a : AsId) (first : ℕ) (came gs : List ℕ) → length gs ≡ 2 → lines a first came gs 1 ≡ item_line (AcceptHop a (get_or gs 0 0) first came)
unfolding ledger_text
one a first came (g ∷ h ∷ []) two = append-nil (item_line (AcceptHop a g first came))
one a first came _ two = absurd (omega (arith, two))

two : (a : AsId) (first n : ℕ) (came gs : List ℕ) → length gs ≡ 2
    → lines a first came gs (suc (suc n)) ≡ item_line (AcceptHop a (get_or gs 0 0) first came) ++ item_line (AcceptHop a (get_or gs 1 0) (first + 1) came)
unfolding ledger_text
two a first zero came (g ∷ h ∷ []) both = ap (λ m. item_line (AcceptHop a g first came) ++ m) (append-nil (item_line (AcceptHop a h (first + 1) came)))
two a first (suc n) came (g ∷ h ∷ []) both = ap (λ m. item_line (AcceptHop a g first came) ++ m) (append-nil (item_line (AcceptHop a h (first + 1) came)))
two a first n came _ both = absurd (omega (arith, both))

-- no hop was accepted
pub none_told : (a : AsId) (first hops : ℕ) (came gs old : List ℕ) → hops ≡ 0 → old ≡ old ++ lines a first came gs hops
unfolding ledger_text
none_told a first hops came gs old is = subst (λ n. old ≡ old ++ lines a first came gs n) (sym is) (sym (append-nil old))

-- one was
pub one_told : (a : AsId) (first hops : ℕ) (came gs old new : List ℕ) → length gs ≡ 2 → hops ≡ 1
    → new ≡ old ++ item_line (AcceptHop a (get_or gs 0 0) first came) → new ≡ old ++ lines a first came gs hops
one_told a first hops came gs old new both is told =
    subst (λ n. new ≡ old ++ lines a first came gs n) (sym is) (told ∙ ap (λ m. old ++ m) (sym (one a first came gs both)))

-- two were
pub two_told : (a : AsId) (first hops : ℕ) (came gs old next new : List ℕ) → length gs ≡ 2 → hops ≢ 0 → hops ≢ 1
    → next ≡ old ++ item_line (AcceptHop a (get_or gs 0 0) first came)
    → new ≡ next ++ item_line (AcceptHop a (get_or gs 1 0) (first + 1) came)
    → new ≡ old ++ lines a first came gs hops
two_told a first zero came gs old next new both some more told again = absurd (some refl)
two_told a first (suc zero) came gs old next new both some more told again = absurd (more refl)
two_told a first (suc (suc n)) came gs old next new both some more told again =
    again
    ∙ ap (λ m. m ++ item_line (AcceptHop a (get_or gs 1 0) (first + 1) came)) told
    ∙ append_assoc old (item_line (AcceptHop a (get_or gs 0 0) first came)) (item_line (AcceptHop a (get_or gs 1 0) (first + 1) came))
    ∙ ap (λ m. old ++ m) (sym (two a first n came gs both))
