-- A ledger file is read as what its lines were written of.
use Rattle.std.proofs.Common.{◌≡◌, ℕ, ◌+◌, cond, List, [], ◌∷◌, ◌++◌, length, ap, sym, ◌∙◌, append-nil, append_assoc, Ok, Err}
use Rattle.std.specs.List.{All}
use Rattle.std.proofs.lemmas.Bool.{le-ltb}
use Rattle.std.proofs.lemmas.List.Elements.{All-head, All-tail}
use Rattle.epic_topo.specs.Network.{Network}
use Rattle.epic_audit.specs.ForgedText.{words_text}
use Rattle.epic_text.specs.Lines.{parts}
use Rattle.epic_record.specs.declared.fault.FileKind.TheVariants.{BadPlace, TooLong}
use Rattle.epic_record.specs.declared.item.Item.{Item}
use Rattle.epic_record.specs.LedgerFile.{history_in, items_after, ledger_file, most_ledger, on_line, placed}
use Rattle.epic_record.specs.LedgerText.{item_line, item_words, ledger_text}
use Rattle.epic_reread.specs.LedgerRereading.{ArePlaced, CanBeWritten, LedgersAreReadBack}
use Rattle.epic_reread.proofs.LedgerForms.{item_line_above, item_line_read}
use Rattle.epic_reread.proofs.WholeFiles.{first_part}

lines_read : (t : Network) (before told : List Item) (number : ℕ) → All CanBeWritten told → ArePlaced t before told
    → items_after t before number (parts (ledger_text told)) ≡ Ok (before ++ told)
unfolding ledger_text item_line
lines_read t before [] number ok is = ap (λ xs. Ok xs) (sym (append-nil before))
lines_read t before (item ∷ more) number ok is =
    let first = All-head CanBeWritten item more ok in
    ap (items_after t before number) (first_part (words_text (item_words item)) (ledger_text more) (item_line_above item first))
    ∙ ap (λ r. on_line number (placed t (history_in before) r) (λ x. items_after t (before ++ x ∷ []) (number + 1) (parts (ledger_text more))))
    (item_line_read item first)
    ∙ ap (λ b. on_line number (cond b (Ok item) (Err BadPlace)) (λ x. items_after t (before ++ x ∷ []) (number + 1) (parts (ledger_text more)))) is.0
    ∙ lines_read t (before ++ item ∷ []) more (number + 1) (All-tail CanBeWritten item more ok) is.1
    ∙ ap (λ xs. Ok xs) (append_assoc before (item ∷ []) more)

pub ledgers_read : LedgersAreReadBack
unfolding ledger_file
ledgers_read t told ok is small =
    let text = ledger_text told in
    ap (λ b. cond b (Err (0, TooLong)) (items_after t [] 1 (parts text))) (le-ltb most_ledger (length text) small)
    ∙ lines_read t [] told 1 ok is
