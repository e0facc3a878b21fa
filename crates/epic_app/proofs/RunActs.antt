-- What the acts of a run write, and what becomes of its files.
use Rattle.std.proofs.Common.{◌≡◌, ℕ, false, List, [], ◌∷◌, ◌++◌, length, flat_map, Option, Some, None, Contains, refl, sym, ap, subst, ◌∙◌, append-nil}
use Rattle.epic_ports.specs.Files.{Files}
use Rattle.epic_text.specs.Counts.{counts_of, end_line}
use Rattle.std.specs.Option.{option_to_list}
use Rattle.std.proofs.lemmas.List.Concat.{flat_map-append}
use Rattle.epic_capture.specs.Saving.{file_head, saved, saved_record}
use Rattle.epic_record.specs.LedgerText.{item_line, ledger_text}
use Rattle.epic_words.specs.Request.{Run, RunRequest, is_shared, reads_of, shares_files}
use Rattle.epic_app.specs.Keeping.{files_of, kept_by, ledger_file, saved_file, verdict_file}
use Rattle.epic_rerun.specs.Ledgers.{items_told, step_items, step_ledger, verdicts_told}
use Rattle.epic_app.specs.Saved.{captured_by, captured_in, saved_in}
use Rattle.epic_app.proofs.Apart.{apart, names_are}
use Rattle.epic_topo.specs.Network.{Network}
use Rattle.epic_world.specs.Run.{Done}
use Rattle.epic_app.specs.Kept.{Kept, adding, names, opening, text_of}
use Rattle.epic_app.specs.Showing.{Showing}
use Rattle.epic_app.specs.Acts.{FilesBecome, appends, creates, printed, prints}
use Rattle.epic_app.specs.Along.{along}
use Rattle.epic_app.specs.Claims.{Keeps}
use Rattle.epic_app.specs.Captures.{shown}
use Rattle.epic_app.specs.Doing.{run_acts, step_acts}
use Rattle.epic_app.specs.RunReport.{all_verdicts, run_text, step_text, steps_text}
use Rattle.epic_app.proofs.ActFiles.{printed-append, printed-prints}
use Rattle.epic_app.proofs.KeptLaws.{files_are_whole}

-- ---- the output

printed-added : (name text : List ℕ) → printed (appends name text) ≡ []
unfolding appends printed
printed-added name [] = refl
printed-added name (byte ∷ text) = printed-added name text

printed-opening : (kept : List Kept) → printed (opening kept) ≡ []
unfolding opening creates printed
printed-opening [] = refl
printed-opening (f ∷ kept) =
    printed-append (appends f.name f.head) (opening kept)
    ∙ (ap (λ text. text ++ printed (opening kept)) (printed-added f.name f.head) ∙ printed-opening kept)

printed-adding : (kept : List Kept) (t : Network) (d : Done) → printed (adding kept t d) ≡ []
unfolding adding printed
printed-adding [] t d = refl
printed-adding (f ∷ kept) t d =
    printed-append (appends f.name (f.adds t d)) (adding kept t d)
    ∙ (ap (λ text. text ++ printed (adding kept t d)) (printed-added f.name (f.adds t d)) ∙ printed-adding kept t d)

module _ (kept : List Kept) (show : Showing) (t : Network) where
  printed-step : (before : List Done) (d : Done) → printed (step_acts kept show t before d) ≡ step_text show t before d
  unfolding step_acts
  printed-step before d =
      printed-append (prints (step_text show t before d)) (adding kept t d)
      ∙ (ap (λ text. printed (prints (step_text show t before d)) ++ text) (printed-adding kept t d)
      ∙ (append-nil (printed (prints (step_text show t before d))) ∙ printed-prints (step_text show t before d)))

  printed-along : (before steps : List Done) → printed (along (step_acts kept show t) before steps) ≡ along (step_text show t) before steps
  unfolding printed
  printed-along before [] = refl
  printed-along before (d ∷ steps) =
      printed-append (step_acts kept show t before d) (along (step_acts kept show t) (before ++ d ∷ []) steps)
      ∙ (ap (λ text. text ++ printed (along (step_acts kept show t) (before ++ d ∷ []) steps)) (printed-step before d)
      ∙ ap (λ text. step_text show t before d ++ text) (printed-along (before ++ d ∷ []) steps))

  printed-steps : (steps : List Done) → printed (along (step_acts kept show t) [] steps) ≡ steps_text show t steps
  unfolding steps_text
  printed-steps steps = printed-along [] steps

  pub printed-run : (steps : List Done) → printed (run_acts kept show t steps) ≡ run_text show t steps
  unfolding run_acts run_text
  printed-run steps =
      let acts = along (step_acts kept show t) [] steps in
      let end = end_line (counts_of (shown show.script (length steps)) (all_verdicts steps)) in
      printed-append (opening kept) (acts ++ prints end)
      ∙ (ap (λ text. text ++ printed (acts ++ prints end)) (printed-opening kept)
      ∙ (printed-append acts (prints end)
      ∙ (ap (λ text. text ++ printed (prints end)) (printed-steps steps) ∙ ap (λ text. steps_text show t steps ++ text) (printed-prints end))))

-- ---- the files

-- a file among those that were kept, where no other has its name
pub keeps_whole : (others : List Kept) (f : Kept) (more : List Kept) (show : Showing) (t : Network) (steps : List Done) (old new : Option Files)
    → ¬ Contains (names others) f.name → ¬ Contains (names more) f.name
    → FilesBecome (run_acts (others ++ f ∷ more) show t steps) old new → Keeps (Some f.name) (text_of f t steps) old new
keeps_whole others f more show t steps None new differ differ_too becomes = tt
keeps_whole others f more show t steps (Some held) None differ differ_too becomes = absurd becomes
keeps_whole others f more show t steps (Some held) (Some now) differ differ_too becomes =
    becomes f.name ∙ (files_are_whole.kept others f more show t steps differ differ_too).whole (held f.name)

-- the texts of the files of all steps
saved_text : (t : Network) (name : List ℕ) (steps : List Done) → text_of (saved_file name) t steps ≡ saved (captured_by steps)
unfolding captured_by saved_in
saved_text t name steps = ap (λ bytes. file_head ++ bytes) (records steps)
  where
    records : (ds : List Done) → flat_map (λ d. flat_map saved_record (captured_in d)) ds ≡ flat_map saved_record (flat_map captured_in ds)
    records [] = refl
    records (d ∷ ds) =
        ap (λ bytes. flat_map saved_record (captured_in d) ++ bytes) (records ds)
        ∙ sym (flat_map-append saved_record (captured_in d) (flat_map captured_in ds))

ledger_lines : (t : Network) (name : List ℕ) (steps : List Done) → text_of (ledger_file name) t steps ≡ ledger_text (items_told steps)
unfolding items_told step_ledger ledger_text
ledger_lines t name [] = refl
ledger_lines t name (d ∷ ds) =
    ap (λ bytes. flat_map item_line (step_items d) ++ bytes) (ledger_lines t name ds)
    ∙ sym (flat_map-append item_line (step_items d) (flat_map step_items ds))

verdict_lines : (t : Network) (name : List ℕ) (steps : List Done) → text_of (verdict_file name) t steps ≡ verdicts_told t steps
unfolding verdicts_told
verdict_lines t name steps = refl

-- names that differ, of the files before one and of those behind it
module _ (reads : List (List ℕ)) (before : List Kept) (f : Kept) (after : List Kept) (unshared : is_shared reads (names before ++ f.name ∷ names after) ≡ false)
    (show : Showing) (t : Network) (steps : List Done) (old new : Option Files) where
  one_whole : FilesBecome (run_acts (before ++ f ∷ after) show t steps) old new → Keeps (Some f.name) (text_of f t steps) old new
  one_whole becomes =
      let differ = apart reads (names before) (names after) f.name unshared in
      keeps_whole before f after show t steps old new differ.earlier differ.later becomes

-- the files with one of them in its place
first_kept : (a : List ℕ) (l v : Option (List ℕ)) (show : Showing) (t : Network) (steps : List Done) (old new : Option Files)
    → FilesBecome (run_acts (files_of (Some a) l v) show t steps) old new → FilesBecome (run_acts ([] ++ saved_file a ∷ files_of None l v) show t steps) old new
unfolding files_of
first_kept a l v show t steps old new become = become

second_kept : (reads : List (List ℕ)) (s : Option (List ℕ)) (b : List ℕ) (v : Option (List ℕ)) (show : Showing) (t : Network) (steps : List Done) (old new : Option Files)
    → is_shared reads (option_to_list s ++ b ∷ option_to_list v) ≡ false
    → FilesBecome (run_acts (files_of s (Some b) v) show t steps) old new → Keeps (Some b) (text_of (ledger_file b) t steps) old new
unfolding files_of
second_kept reads None b None show t steps old new apart become = one_whole reads [] (ledger_file b) [] apart show t steps old new become
second_kept reads None b (Some c) show t steps old new apart become = one_whole reads [] (ledger_file b) (verdict_file c ∷ []) apart show t steps old new become
second_kept reads (Some a) b None show t steps old new apart become = one_whole reads (saved_file a ∷ []) (ledger_file b) [] apart show t steps old new become
second_kept reads (Some a) b (Some c) show t steps old new apart become =
    one_whole reads (saved_file a ∷ []) (ledger_file b) (verdict_file c ∷ []) apart show t steps old new become

third_kept : (reads : List (List ℕ)) (s l : Option (List ℕ)) (c : List ℕ) (show : Showing) (t : Network) (steps : List Done) (old new : Option Files)
    → is_shared reads (option_to_list s ++ (option_to_list l ++ c ∷ [])) ≡ false
    → FilesBecome (run_acts (files_of s l (Some c)) show t steps) old new → Keeps (Some c) (text_of (verdict_file c) t steps) old new
unfolding files_of
third_kept reads None None c show t steps old new apart become = one_whole reads [] (verdict_file c) [] apart show t steps old new become
third_kept reads None (Some b) c show t steps old new apart become = one_whole reads (ledger_file b ∷ []) (verdict_file c) [] apart show t steps old new become
third_kept reads (Some a) None c show t steps old new apart become = one_whole reads (saved_file a ∷ []) (verdict_file c) [] apart show t steps old new become
third_kept reads (Some a) (Some b) c show t steps old new apart become =
    one_whole reads (saved_file a ∷ ledger_file b ∷ []) (verdict_file c) [] apart show t steps old new become

-- the three files of a run
pub saved_whole : (r : RunRequest) (show : Showing) (t : Network) (steps : List Done) (old new : Option Files) → shares_files (Run r) ≡ false
    → FilesBecome (run_acts (kept_by r) show t steps) old new → Keeps r.save (saved (captured_by steps)) old new
saved_whole r show t steps old new unshared becomes = by r.save r.ledger r.verdicts unshared becomes
  where
    by : (s l v : Option (List ℕ)) → is_shared (reads_of (Run r)) (option_to_list s ++ (option_to_list l ++ option_to_list v)) ≡ false
        → FilesBecome (run_acts (files_of s l v) show t steps) old new → Keeps s (saved (captured_by steps)) old new
    by None l v apart become = tt
    by (Some a) l v apart become =
        subst (λ (text : List ℕ). Keeps (Some a) text old new) (saved_text t a steps)
        (one_whole (reads_of (Run r)) [] (saved_file a) (files_of None l v)
        (subst (λ (more : List (List ℕ)). is_shared (reads_of (Run r)) (a ∷ more) ≡ false) (sym (names_are None l v)) apart) show t steps old new (first_kept a l v show t steps old new become))

pub ledger_whole : (r : RunRequest) (show : Showing) (t : Network) (steps : List Done) (old new : Option Files) → shares_files (Run r) ≡ false
    → FilesBecome (run_acts (kept_by r) show t steps) old new → Keeps r.ledger (ledger_text (items_told steps)) old new
ledger_whole r show t steps old new unshared becomes = by r.save r.ledger r.verdicts unshared becomes
  where
    by : (s l v : Option (List ℕ)) → is_shared (reads_of (Run r)) (option_to_list s ++ (option_to_list l ++ option_to_list v)) ≡ false
        → FilesBecome (run_acts (files_of s l v) show t steps) old new → Keeps l (ledger_text (items_told steps)) old new
    by s None v apart become = tt
    by s (Some b) v apart become =
        subst (λ (text : List ℕ). Keeps (Some b) text old new) (ledger_lines t b steps)
        (second_kept (reads_of (Run r)) s b v show t steps old new apart become)

pub verdicts_whole : (r : RunRequest) (show : Showing) (t : Network) (steps : List Done) (old new : Option Files) → shares_files (Run r) ≡ false
    → FilesBecome (run_acts (kept_by r) show t steps) old new → Keeps r.verdicts (verdicts_told t steps) old new
verdicts_whole r show t steps old new unshared becomes = by r.save r.ledger r.verdicts unshared becomes
  where
    by : (s l v : Option (List ℕ)) → is_shared (reads_of (Run r)) (option_to_list s ++ (option_to_list l ++ option_to_list v)) ≡ false
        → FilesBecome (run_acts (files_of s l v) show t steps) old new → Keeps v (verdicts_told t steps) old new
    by s l None apart become = tt
    by s l (Some c) apart become =
        subst (λ (text : List ℕ). Keeps (Some c) text old new) (verdict_lines t c steps)
        (third_kept (reads_of (Run r)) s l c show t steps old new apart become)
