-- What a run tells in its ledger file and in its verdict file.
use Rattle.std.specs.Prelude.{ℕ, List, [], ◌∷◌, flat_map}
use Rattle.epic_topo.specs.Network.{Network}
use Rattle.epic_model.specs.Traces.{Passage}
use Rattle.epic_record.specs.declared.item.Item.{Item}
use Rattle.epic_record.specs.LedgerText.{ledger_text}
use Rattle.epic_record.specs.Passing.{accepted_items, new_items, pass_items}
use Rattle.epic_record.specs.VerdictLines.{acceptances, verdict_text}
use Rattle.epic_world.specs.Run.{Done}

-- what a passage tells: what was accepted, the packet that left, and the events
abbrev pub passage_items : Passage → List Item
passage_items x = pass_items x.before x.place x.came x.happened.result x.happened.history

-- passages one after the other; a step without any tells this
abbrev pub passages_items : List Passage → List Item → List Item
passages_items [] others = others
passages_items (x ∷ more) others = flat_map passage_items (x ∷ more)

-- what a step tells: its passages, or what the ledger has since then
unfoldable pub step_items : Done → List Item
step_items d = passages_items d.passages (new_items d.before.history d.after.history)

-- all steps in order
unfoldable pub items_told : List Done → List Item
items_told steps = flat_map step_items steps

-- the lines of what a step tells
unfoldable pub step_ledger : Done → List ℕ
step_ledger d = ledger_text (step_items d)

-- the lines of a passage's verdicts, one an acceptance
abbrev pub passage_verdicts : Network → Passage → List ℕ
passage_verdicts t x =
    verdict_text t (acceptances (accepted_items x.place x.came x.happened.result)) x.happened.verdicts

-- of a step's
unfoldable pub step_verdicts : Network → Done → List ℕ
step_verdicts t d = flat_map (passage_verdicts t) d.passages

-- of all steps
unfoldable pub verdicts_told : Network → List Done → List ℕ
verdicts_told t steps = flat_map (step_verdicts t) steps
