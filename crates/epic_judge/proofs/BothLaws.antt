-- Both files, line by line.
use Rattle.std.proofs.Common.{◌≡◌, ℕ, ◌+◌, ◌<◌, ◌≤◌, Bool, true, false, List, [], ◌∷◌, ◌++◌, map, length, take, drop, refl, sym, ap, subst, ◌∙◌, arith, append-nil, append_assoc}
use Rattle.std.specs.Prelude.{nat_lt, ◌==◌, position, Option, Some, None, filter_map, Result, Ok, Err, if◌then◌else◌}
use Rattle.std.specs.List.{cons_option}
use Rattle.std.proofs.lemmas.Bool.Decides.{nat_tests}
use Rattle.std.proofs.lemmas.List.Elements.{filter_map-append}
use Rattle.epic_num.specs.declared.passed.Place.{Place}
use Rattle.epic_layout.specs.Layout.{parse}
use Rattle.epic_topo.specs.Network.{Network}
use Rattle.epic_ledger.specs.declared.event.Event.{Event}
use Rattle.epic_ledger.specs.Facts.{Facts, facts_of}
use Rattle.epic_ledger.specs.History.{Emission, History}
use Rattle.epic_ledger.specs.OneMore.{with_event, with_emission}
use Rattle.epic_audit.specs.Holds.{AtDest, AtHop}
use Rattle.epic_text.specs.Lines.{is_line_feed, parts}
use Rattle.epic_text.proofs.Parts.{parts_none, parts_some}
use Rattle.epic_index.specs.Indexes.{Indexed}
use Rattle.epic_record.specs.declared.fault.FileKind.{FileKind}
use Rattle.epic_record.specs.declared.fault.FileKind.TheVariants.{BadPlace, Extra, TooLong}
use Rattle.epic_record.specs.declared.item.Item.{Item}
use Rattle.epic_record.specs.declared.item.Item.TheVariants as items
use Rattle.epic_record.specs.declared.told.Told.{Told}
use Rattle.epic_record.specs.LedgerCheck.{counted}
use Rattle.epic_record.specs.LedgerFile.{Fault, as_emission, as_event, history_in, is_placed, items_after, ledger_file, most_ledger, on_line, placed}
use Rattle.epic_record.specs.LedgerLine.{item_of}
use Rattle.epic_record.specs.VerdictFile.{most_verdicts, told_after, verdict_file}
use Rattle.epic_record.specs.VerdictLines.{Acceptance, accepted_by, acceptances}
use Rattle.epic_judging.specs.declared.judged.Judged.{Judged}
use Rattle.epic_judging.specs.declared.judged.JudgeError.{JudgeError}
use Rattle.epic_judging.specs.declared.judged.JudgeError.TheVariants.{Ledger, Verdicts, OutOfMemory}
use Rattle.epic_judging.specs.Judgment.{Claim, IsAnswer, IsJudgment, IsSaid, accepted_after, claims_in, with_ledger, with_verdicts}
use Rattle.epic_judging.specs.Laws.{JudgmentsAreDecided}
use Rattle.epic_judge.specs.BothFiles.{AreItems, HasItems, IsChecked, IsFirst, Judging, answered, claims_after, said}
use Rattle.epic_judge.specs.Reaching.{AreRefused, IsPlacedLine, IsReached, Reached, accepted_in, line_more}
use Rattle.epic_judge.specs.Sound.{IsSound, history_more}
use Rattle.epic_judge.proofs.ClaimLaws.{taken}
use Rattle.epic_judge.proofs.SoundLaws.{sound_more, sound_none}

-- ---- the ledger of lines and one more

told_event : (before : List Item) (e : Event) → with_event (history_in before) e ≡ history_in (before ++ items.Event e ∷ [])
unfolding history_in as_event as_emission
told_event before e =
    let events = sym (filter_map-append as_event before (items.Event e ∷ [])) in
    let emissions = sym (filter_map-append as_emission before (items.Event e ∷ []) ∙ append-nil (filter_map as_emission before)) in
    λ i. record { events = events i; emissions = emissions i }

told_emission : (before : List Item) (number : ℕ) (due : Place) (bytes : List ℕ)
    → with_emission (history_in before) (record { place = due; bytes = bytes }) ≡ history_in (before ++ items.Emission number due bytes ∷ [])
unfolding history_in as_event as_emission
told_emission before number due bytes =
    let item = items.Emission number due bytes in
    let events = sym (filter_map-append as_event before (item ∷ []) ∙ append-nil (filter_map as_event before)) in
    let emissions = sym (filter_map-append as_emission before (item ∷ [])) in
    λ i. record { events = events i; emissions = emissions i }

told_nothing : (before : List Item) (item : Item) → as_event item ≡ None → as_emission item ≡ None → history_in before ≡ history_in (before ++ item ∷ [])
unfolding history_in
told_nothing before item no_event no_emission =
    let events = sym (filter_map-append as_event before (item ∷ []) ∙ (ap (λ o. filter_map as_event before ++ cons_option o []) no_event ∙ append-nil (filter_map as_event before))) in
    let emissions = sym (filter_map-append as_emission before (item ∷ []) ∙ (ap (λ o. filter_map as_emission before ++ cons_option o []) no_emission ∙ append-nil (filter_map as_emission before))) in
    λ i. record { events = events i; emissions = emissions i }

told_more : (before : List Item) (item : Item) → history_more (history_in before) item ≡ history_in (before ++ item ∷ [])
unfolding as_event as_emission
told_more before (items.Event e) = told_event before e
told_more before (items.Emission number due bytes) = told_emission before number due bytes
told_more before (items.AcceptHop a generation hop bytes) = told_nothing before (items.AcceptHop a generation hop bytes) refl refl
told_more before (items.AcceptDest host bytes) = told_nothing before (items.AcceptDest host bytes) refl refl

-- ---- what the lines of a ledger file without a fault tell

record Left (t : Network) (before : List Item) (lines : List (List ℕ)) (all : List Item) : Type 0 where
  more : List Item
  are : AreItems t before lines more
  whole : all ≡ before ++ more

items_left : (t : Network) (before : List Item) (n : ℕ) (lines : List (List ℕ)) (all : List Item) → items_after t before n lines ≡ Ok all → Left t before lines all
items_left t before n [] all e =
    let same : before ≡ all = cc in
    record { more = []; are = tt; whole = sym same ∙ sym (append-nil before) }
items_left t before n (line ∷ lines) all e =
    by (item_of line) refl (λ item k. items_left t (before ++ item ∷ []) (n + 1) lines all k) e
  where
    next : (item : Item) → item_of line ≡ Ok item → (b : Bool) → is_placed t (history_in before) item ≡ b
        → (items_after t (before ++ item ∷ []) (n + 1) lines ≡ Ok all → Left t (before ++ item ∷ []) lines all)
        → on_line n (if b then Ok item else Err BadPlace) (λ x. items_after t (before ++ x ∷ []) (n + 1) lines) ≡ Ok all → Left t before (line ∷ lines) all
    next item is true p rest k =
        let r = rest k in
        record { more = item ∷ r.more; are = (is, p, r.are); whole = r.whole ∙ append_assoc before (item ∷ []) r.more }
    next item is false p rest k = absurd (cc)

    by : (r : Result Item FileKind) → item_of line ≡ r
        → ((item : Item) → items_after t (before ++ item ∷ []) (n + 1) lines ≡ Ok all → Left t (before ++ item ∷ []) lines all)
        → on_line n (placed t (history_in before) r) (λ x. items_after t (before ++ x ∷ []) (n + 1) lines) ≡ Ok all → Left t before (line ∷ lines) all
    by (Err kind) is rest k = absurd (cc)
    by (Ok item) is rest k = next item is (is_placed t (history_in before) item) refl (rest item) k

items_in : (t : Network) (ledger : List ℕ) (all : List Item) → ledger_file t ledger ≡ Ok all → Left t [] (parts ledger) all
unfolding ledger_file
items_in t ledger all e = by (nat_lt most_ledger (length ledger)) e
  where
    by : (b : Bool) → (if b then Err (0, TooLong) else items_after t [] 1 (parts ledger)) ≡ Ok all → Left t [] (parts ledger) all
    by true k = absurd (cc)
    by false k = items_left t [] 1 (parts ledger) all k

most_or_less : (most n : ℕ) → nat_lt most n ≡ false → n ≤ most
most_or_less most n h = grind (arith, nat_tests)

-- such a file isn't too long
pub ledger_short : (t : Network) (ledger : List ℕ) → HasItems (ledger_file t ledger) → length ledger ≤ most_ledger
unfolding ledger_file
ledger_short t ledger has = by (nat_lt most_ledger (length ledger)) refl has.1
  where
    by : (b : Bool) → nat_lt most_ledger (length ledger) ≡ b → (if b then Err (0, TooLong) else items_after t [] 1 (parts ledger)) ≡ Ok has.0 → length ledger ≤ most_ledger
    by true is k = absurd (cc)
    by false is k = most_or_less most_ledger (length ledger) is

-- the next of them
record Next (t : Network) (before : List Item) (line : List ℕ) (lines : List (List ℕ)) (more : List Item) : Type 0 where
  item : Item
  others : List Item
  is : item_of line ≡ Ok item
  placed : is_placed t (history_in before) item ≡ true
  left : AreItems t (before ++ item ∷ []) lines others
  all : more ≡ item ∷ others

next_of : (t : Network) (before : List Item) (line : List ℕ) (lines : List (List ℕ)) (more : List Item) → AreItems t before (line ∷ lines) more → Next t before line lines more
next_of t before line lines [] are = absurd are
next_of t before line lines (item ∷ others) are = record { item = item; others = others; is = are.0; placed = are.1; left = are.2; all = refl }

-- ---- the first line

no_claim : (items : List Item) (r : Result (List Told) Fault) → with_verdicts items r ≡ claims_after [] (accepted_after [] items) r
no_claim items (Err fault) = refl
no_claim items (Ok lines) = refl

short : (most n : ℕ) → n ≤ most → nat_lt most n ≡ false
short most n h = grind (arith, nat_tests)

long : (most n : ℕ) → most + 1 ≤ n → nat_lt most n ≡ true
long most n h = grind (arith, nat_tests)

verdicts_read : (accepted : List Acceptance) (verdicts : List ℕ) → length verdicts ≤ most_verdicts → verdict_file accepted verdicts ≡ told_after 1 accepted (parts verdicts)
unfolding verdict_file
verdicts_read accepted verdicts h =
    ap (λ (b : Bool). if b then Err (0, TooLong) else told_after 1 accepted (parts verdicts)) (short most_verdicts (length verdicts) h)

claims_are : (t : Network) (ledger verdicts : List ℕ) (items : List Item) → ledger_file t ledger ≡ Ok items
    → claims_in t ledger verdicts ≡ with_verdicts items (verdict_file (acceptances items) verdicts)
unfolding claims_in
claims_are t ledger verdicts items is = ap (with_ledger verdicts) is

empty : (h : History) → h.events ≡ [] → h.emissions ≡ [] → h ≡ history_in []
unfolding history_in
empty h events emissions = λ i. record { events = events i; emissions = emissions i }

pub begins : (t : Network) (ledger verdicts : List ℕ) (x : Indexed) → HasItems (ledger_file t ledger) → length verdicts ≤ most_verdicts
    → x.network ≡ t → x.history.events ≡ [] → x.history.emissions ≡ []
    → Judging t ledger verdicts ledger (record { rest = verdicts; number = 0; first = None }) x
unfolding history_in
begins t ledger verdicts x has small network events emissions =
    let left = items_in t ledger has.0 has.1 in
    record {
      before = [];
      more = left.more;
      judged = [];
      told =
          claims_are t ledger verdicts has.0 has.1
          ∙ (ap (λ all. with_verdicts all (verdict_file (acceptances all) verdicts)) left.whole
          ∙ (ap (with_verdicts left.more) (verdicts_read (acceptances left.more) verdicts small)
          ∙ no_claim left.more (told_after 1 (acceptances left.more) (parts verdicts))));
      left = left.are;
      network = network;
      history = empty x.history events emissions;
      sound = sound_none t (history_in []) refl;
      count = refl;
      first = λ n c lt at. absurd (omega (arith, lt));
      few = omega (arith, small);
    }

-- ---- the next line

-- a fault of its verdict line
refused : (judged : List Claim) (f : Facts) (item : Item) (at : Reached) (fault : Fault) (rows : List (Facts × Acceptance)) (others : List Acceptance) → AreRefused (accepted_by item) at fault
    → claims_after judged (map (λ a. (f, a)) (accepted_by item) ++ rows) (told_after (at.number + 1) (accepted_by item ++ others) (parts at.rest)) ≡ Err (Verdicts fault.0 fault.1)
refused judged f (items.Event e) at fault rows others h = absurd h
refused judged f (items.Emission number due bytes) at fault rows others h = absurd h
refused judged f (items.AcceptHop a generation hop bytes) at fault rows others h =
    ap (claims_after judged ((f, record { packet = parse bytes; subject = AtHop a generation hop }) ∷ rows)) (h others)
refused judged f (items.AcceptDest host bytes) at fault rows others h =
    ap (claims_after judged ((f, record { packet = parse bytes; subject = AtDest }) ∷ rows)) (h others)

module _ (t : Network) (ledger verdicts rest line after : List ℕ) (at : Reached) (x : Indexed) (j : Judging t ledger verdicts rest at x) (cut : parts rest ≡ line ∷ parts after) where
  next : Next t j.before line (parts after) j.more
  next = next_of t j.before line (parts after) j.more (subst (λ lines. AreItems t j.before lines j.more) cut j.left)

  pub line_placed : IsPlacedLine x.network x.history (item_of line)
  line_placed =
      subst (λ r. IsPlacedLine x.network x.history r) (sym next.is)
      (subst (λ n. is_placed n x.history next.item ≡ true) (sym j.network)
      (subst (λ h. is_placed t h next.item ≡ true) (sym j.history) next.placed))

  pub line_sound : IsSound x.network x.history
  line_sound = subst (λ n. IsSound n x.history) (sym j.network) (subst (IsSound t) (sym j.history) j.sound)

  abbrev f : Facts
  f = facts_of (history_in j.before)

  -- what is said over the index is said over the lines before
  over_lines : (accepted : List Acceptance) (r : Result Reached JudgeError) → accepted_in (item_of line) ≡ accepted → IsReached x.network (facts_of x.history) (accepted_in (item_of line)) at r → IsReached t f accepted at r
  over_lines accepted r same h =
      subst (λ n. IsReached n f accepted at r) j.network
      (subst (λ k. IsReached x.network (facts_of k) accepted at r) j.history
      (subst (λ a. IsReached x.network (facts_of x.history) a at r) same h))

  these : accepted_in (item_of line) ≡ accepted_by next.item
  these = ap accepted_in next.is

  -- what both files tell, with the next line
  told_next : claims_in t ledger verdicts
      ≡ claims_after j.judged (map (λ a. (f, a)) (accepted_by next.item) ++ accepted_after (j.before ++ next.item ∷ []) next.others)
      (told_after (at.number + 1) (accepted_by next.item ++ acceptances next.others) (parts at.rest))
  unfolding acceptances
  told_next = j.told ∙ ap (λ m. claims_after j.judged (accepted_after j.before m) (told_after (at.number + 1) (acceptances m) (parts at.rest))) next.all

  pub line_taken : JudgmentsAreDecided → (to : Reached) (y : Indexed) → y.network ≡ x.network → y.history ≡ line_more x.history (item_of line)
      → IsReached x.network (facts_of x.history) (accepted_in (item_of line)) at (Ok to) → Judging t ledger verdicts after to y
  line_taken decided to y network history h =
      let k = taken decided t f at to j.judged j.count j.first j.few next.item (over_lines (accepted_by next.item) (Ok to) these h) in
      let more : history_more (history_in j.before) next.item ≡ history_in (j.before ++ next.item ∷ []) = told_more j.before next.item in
      record {
        before = j.before ++ next.item ∷ [];
        more = next.others;
        judged = k.all;
        told = told_next ∙ k.told (accepted_after (j.before ++ next.item ∷ []) next.others) (acceptances next.others);
        left = next.left;
        network = network ∙ j.network;
        history = history ∙ (ap (line_more x.history) next.is ∙ (ap (λ k. history_more k next.item) j.history ∙ more));
        sound = subst (IsSound t) more (sound_more t (history_in j.before) next.item j.sound next.placed);
        count = k.count;
        first = k.first;
        few = k.few;
      }

  pub line_refused : (e : JudgeError) → IsReached x.network (facts_of x.history) (accepted_in (item_of line)) at (Err e) → IsJudgment t ledger verdicts (Err e)
  line_refused OutOfMemory h = tt
  line_refused (Ledger number kind) h = absurd h
  line_refused (Verdicts number kind) h =
      told_next
      ∙ refused j.judged f next.item at (number, kind) (accepted_after (j.before ++ next.item ∷ []) next.others) (acceptances next.others)
      (over_lines (accepted_by next.item) (Err (Verdicts number kind)) these h)

-- ---- the end

-- a text that isn't empty has a line
has_line : (text : List ℕ) → 0 < length text → (line : List ℕ) × (lines : List (List ℕ)) × (parts text ≡ line ∷ lines)
has_line text some = by (position is_line_feed text) refl
  where
    by : (o : Option ℕ) → position is_line_feed text ≡ o → (line : List ℕ) × (lines : List (List ℕ)) × (parts text ≡ line ∷ lines)
    by None is = (text, [], parts_none text is some)
    by (Some i) is = (take i text, parts (drop (i + 1) text), parts_some text i is)

said_is : (t : Network) (all : List Claim) (number : ℕ) (first : Option ℕ) → number ≡ length all → IsFirst t all first → IsSaid t all (said number first)
said_is t all number None count h = (count, h)
said_is t all number (Some k) count h = (count, h)

over : {n : ℕ} → nat_lt 0 n ≡ true → 0 < n
over h = grind (arith, nat_tests)

nothing : (text : List ℕ) → nat_lt 0 (length text) ≡ false → text ≡ []
nothing [] h = refl
nothing (byte ∷ text) h = absurd (grind (arith, nat_tests))

-- where the loop ends
pub emptied : (text : List ℕ) (is_empty : Bool) → is_empty ≡ (length text == 0) → is_empty ≡ true → text ≡ []
emptied [] is_empty is over = refl
emptied (byte ∷ text) is_empty is over = absurd (grind (arith, nat_tests))

-- no line of the ledger file is left
module _ (t : Network) (ledger verdicts : List ℕ) (at : Reached) (x : Indexed) (j : Judging t ledger verdicts [] at x) where
  no_more : j.more ≡ []
  no_more = by j.more j.left
    where
      by : (more : List Item) → AreItems t j.before [] more → more ≡ []
      by [] are = refl
      by (item ∷ more) are = absurd are

  told_all : claims_in t ledger verdicts ≡ claims_after j.judged [] (told_after (at.number + 1) [] (parts at.rest))
  unfolding acceptances
  told_all = j.told ∙ ap (λ m. claims_after j.judged (accepted_after j.before m) (told_after (at.number + 1) (acceptances m) (parts at.rest))) no_more

  said_last : at.rest ≡ [] → IsAnswer t (claims_in t ledger verdicts) (Ok (said at.number at.first))
  said_last none =
      let whole : claims_in t ledger verdicts ≡ Ok j.judged =
      told_all ∙ (ap (λ text. claims_after j.judged [] (told_after (at.number + 1) [] (parts text))) none ∙ ap Ok (append-nil j.judged)) in
      subst (λ r. IsAnswer t r (Ok (said at.number at.first))) (sym whole) (said_is t j.judged at.number at.first j.count j.first)

  said_extra : 0 < length at.rest → claims_in t ledger verdicts ≡ Err (Verdicts (at.number + 1) Extra)
  said_extra some =
      let line = has_line at.rest some in
      told_all ∙ ap (λ lines. claims_after j.judged [] (told_after (at.number + 1) [] lines)) line.2

  last : IsJudgment t ledger verdicts (answered at)
  last = by (nat_lt 0 (length at.rest)) refl
    where
      by : (b : Bool) → nat_lt 0 (length at.rest) ≡ b → IsJudgment t ledger verdicts (if b then Err (Verdicts (at.number + 1) Extra) else Ok (said at.number at.first))
      by true is = said_extra (over is)
      by false is = said_last (nothing at.rest is)

pub all_taken : (t : Network) (ledger verdicts rest : List ℕ) (at : Reached) (x : Indexed) (r : Result Judged JudgeError) → Judging t ledger verdicts rest at x → rest ≡ [] → r ≡ answered at
    → IsJudgment t ledger verdicts r
all_taken t ledger verdicts rest at x r j none is =
    subst (IsJudgment t ledger verdicts) (sym is) (last t ledger verdicts at x (subst (λ m. Judging t ledger verdicts m at x) none j))

-- ---- faults of a file as a whole, and of the ledger file

pub has_items : (r : Result (List Item) Fault) (count : ℕ) → counted r ≡ Ok count → HasItems r
has_items (Err fault) count e = absurd (cc)
has_items (Ok items) count e = (items, refl)

pub has_fault : (r : Result (List Item) Fault) (fault : Fault) → counted r ≡ Err fault → r ≡ Err fault
has_fault (Err other) fault e = same other fault e
  where
    same : (f g : Fault) → ◌≡◌ {A = Result ℕ Fault} (Err f) (Err g) → ◌≡◌ {A = Result (List Item) Fault} (Err f) (Err g)
    same f g k = cc
has_fault (Ok items) fault e = absurd (cc)

pub ledger_refused : (t : Network) (ledger verdicts : List ℕ) (e : JudgeError) → IsChecked (ledger_file t ledger) (Err e) → IsJudgment t ledger verdicts (Err e)
unfolding claims_in
ledger_refused t ledger verdicts OutOfMemory h = tt
ledger_refused t ledger verdicts (Ledger line kind) h = ap (with_ledger verdicts) h
ledger_refused t ledger verdicts (Verdicts line kind) h = absurd h

pub too_long : (t : Network) (ledger verdicts : List ℕ) → HasItems (ledger_file t ledger) → most_verdicts + 1 ≤ length verdicts → IsJudgment t ledger verdicts (Err (Verdicts 0 TooLong))
unfolding verdict_file
too_long t ledger verdicts has h =
    claims_are t ledger verdicts has.0 has.1
    ∙ ap (λ (b : Bool). with_verdicts has.0 (if b then Err (0, TooLong) else told_after 1 (acceptances has.0) (parts verdicts))) (long most_verdicts (length verdicts) h)
