-- Private: serves proofs of this crate alone; no public contract cites it.
-- What steps tell in a ledger file, by how much the ledger held before and after each pass.
use Rattle.std.specs.Prelude.{ℕ, zero, suc, ◌+◌, ◌-◌, ◌≤◌, ◌==◌, if◌then◌else◌, List, [], ◌∷◌, ◌++◌, length, map, flat_map, take, drop, ⊤}
use Rattle.epic_num.specs.declared.passed.Passed.{Passed}
use Rattle.epic_num.specs.declared.verdict.Verdict.{Verdict}
use Rattle.epic_layout.specs.Contents.{Contents}
use Rattle.epic_ledger.specs.History.{History}
use Rattle.epic_record.specs.declared.item.Item.{Item}
use Rattle.epic_record.specs.declared.item.Item.TheVariants as items
use Rattle.epic_record.specs.Passing.{accepted_items, emitted_from}
use Rattle.epic_record.specs.VerdictLines.{acceptances, hop_verdict_line, verdict_text}
use Rattle.epic_topo.specs.Network.{Network}
use Rattle.epic_app.specs.declared.telling.Mark.{Mark}
use Rattle.epic_text.specs.Report.{IsToldPass}
use Rattle.epic_app.specs.Noting.{Coming}
use Rattle.epic_app.specs.Policed.{IsNotablePass}

-- what a ledger holds by now
abbrev pub mark_of : History → Mark
mark_of h = record { emissions = length h.emissions; events = length h.events }

abbrev pub emitted_between : History → ℕ → ℕ → List Item
emitted_between h from until = emitted_from (from + 1) (take (until - from) (drop from h.emissions))

abbrev pub happened_between : History → ℕ → ℕ → List Item
happened_between h from until = map (λ e. items.Event e) (take (until - from) (drop from h.events))

-- what came to it between two marks
abbrev pub between : History → Mark → Mark → List Item
between h from until =
    emitted_between h from.emissions until.emissions ++ happened_between h from.events until.events

-- a pass emits one packet at most, and records one event a verdict
abbrev pub after_pass : Mark → Passed → Mark
after_pass m passed = record {
  emissions = if passed.emission == 0 then m.emissions else passed.emission;
  events = m.events + length passed.verdicts.items;
}

-- what a pass tells
abbrev pub told_by_pass : History → Mark → Coming → List Item
told_by_pass h m x =
    accepted_items x.passed.place x.came x.passed.result ++ between h m (after_pass m x.passed)

-- what passes tell
unfoldable pub told_from : History → Mark → List Coming → List Item
told_from h m [] = []
told_from h m (x ∷ more) = told_by_pass h m x ++ told_from h (after_pass m x.passed) more

-- what a step tells that had these passes
abbrev pub told_since : History → Mark → List Coming → List Item
told_since h m [] = between h m (mark_of h)
told_since h m (x ∷ more) = told_from h m (x ∷ more)

-- passes record no more events than there are
abbrev pub AreWithin : History → Mark → List Coming → Type 0
AreWithin h m [] = ⊤
AreWithin h m (x ∷ more) =
    (m.events + length x.passed.verdicts.items ≤ length h.events) × AreWithin h (after_pass m x.passed) more

-- the lines of verdicts on so many hops of a packet, from this one on
unfoldable pub hop_lines : Network → Contents → ℕ → ℕ → List Verdict → List ℕ
hop_lines t p hop zero verdicts = []
hop_lines t p hop (suc n) [] = []
hop_lines t p hop (suc n) (v ∷ more) = hop_verdict_line t p hop v ++ hop_lines t p (hop + 1) n more

-- the verdicts of passes can be told
abbrev pub AreTold : Network → List Coming → Type 0
AreTold t [] = ⊤
AreTold t (x ∷ more) = (IsToldPass t x.came x.passed × IsNotablePass t x) × AreTold t more

-- the verdict lines of a pass, and of passes
abbrev pub pass_verdicts : Network → Coming → List ℕ
pass_verdicts t x =
    verdict_text t (acceptances (accepted_items x.passed.place x.came x.passed.result)) x.passed.verdicts.items

unfoldable pub passes_verdicts : Network → List Coming → List ℕ
passes_verdicts t passes = flat_map (pass_verdicts t) passes
