-- Files in memory, of which the first of a name counts.
use Rattle.std.proofs.Common.{◌≡◌, ◌≢◌, ◌<◌, ◌≤◌, ℕ, Bool, true, false, List, [], ◌∷◌, ◌++◌, length, get_or, set, Option, Some, None, string_bytes, bytes_eq, refl, sym, ◌∙◌, ap, inl, inr, arith}
use Rattle.std.proofs.lemmas.Bool.{false_from_ne_true}
use Rattle.std.proofs.lemmas.Bool.Decides.{nat_tests}
use Rattle.std.proofs.lemmas.List.Folds.{find_at, find_past, find-append, find-set}
use Rattle.std.proofs.lemmas.List.Quantifiers.{position-Some}
use Rattle.std.proofs.lemmas.List.Sums.{position_or_len_is}
use Rattle.std.proofs.lemmas.Option.{none-some, slice_get-get_or, slice_get_cases}
use Rattle.std.proofs.lemmas.Slice.Eq.{bytes_eq-Decides}
use Rattle.std.specs.List.{find, position, position_or_len, slice_get}
use Rattle.std.specs.Option.{option_or}
use Rattle.epic_ports.specs.Files.{Files, Replaces}
use Rattle.epic_ports.specs.MemFiles.{File, bytes_in, files_in, is_named}

named : (a b : List ℕ) → bytes_eq a b ≡ true → a ≡ b
named a b same = (bytes_eq-Decides a b).0 same

unnamed : (a b : List ℕ) → a ≢ b → bytes_eq a b ≡ false
unnamed a b differ = false_from_ne_true (bytes_eq a b) (λ same. differ (named a b same))

by_name : {X : Type 0} (q name : List ℕ) → (q ≡ name → X) → (q ≢ name → X) → X
by_name {X} q name same other = decided (bytes_eq q name) refl where
  decided : (b : Bool) → bytes_eq q name ≡ b → X
  decided true is = same (named q name is)
  decided false is = other (λ e. absurd (grind (arith, (bytes_eq-Decides q name).1 e)))

same_counts_of : {f g : Files} → ((q : List ℕ) → f q ≡ g q) → f ≡ g
same_counts_of each = λ i q. each q i

none_in : (file : Option File) → bytes_in file ≡ None → file ≡ None
none_in None none = refl
none_in (Some file) none = absurd (none-some file.1.items (sym none))

or_none : (file : Option File) → option_or file None ≡ file
or_none None = refl
or_none (Some file) = refl

slice_get_past : (files : List File) (i : ℕ) → length files ≤ i → slice_get files i ≡ None
slice_get_past files i past = elim (slice_get_cases files i).1 [ inl found ↦ absurd (omega arith) | inr end ↦ end.1 ]

-- what stands at the place that was found
pub record StandsAt (files : List File) (name : List ℕ) (i : ℕ) (file : File) : Type 0 where
  pub first : i ≡ position_or_len (is_named name) files
  pub below : i < length files
  pub is : get_or files i file ≡ file
  pub name_is : string_bytes file.0 ≡ name

pub stands_at : (files : List File) (name : List ℕ) (i : ℕ) (file : File)
    → position (is_named name) files ≡ Some i
    → file ≡ get_or files i file
    → StandsAt files name i file
stands_at files name i file place is =
    let found = position-Some (is_named name) files i file place in
    let here : is_named name file ≡ true = rw is found.1 in
    record {
      first = sym (position_or_len_is (is_named name) files i file (omega arith) found.2 (λ _. found.1));
      below = found.0;
      is = sym is;
      name_is = named (string_bytes file.0) name here;
    }

-- its bytes are those of the name
pub found_file : (files : List File) (name : List ℕ) (i : ℕ) (file : File)
    → StandsAt files name i file
    → files_in files name ≡ Some file.1.items
found_file files name i file at =
    let first : find (is_named name) files ≡ slice_get files i = rw at.first (find_at (is_named name) files) in
    let here : slice_get files i ≡ Some file = rw (slice_get-get_or files i file at.below, at.is) refl in
    ap bytes_in (first ∙ here)

-- a name that wasn't found isn't there
pub missing_file : (files : List File) (name : List ℕ)
    → position (is_named name) files ≡ None
    → files_in files name ≡ None
missing_file files name none =
    let place = position_or_len (is_named name) files in
    let past : length files ≤ place = grind (arith, nat_tests) in
    ap bytes_in (find_at (is_named name) files ∙ slice_get_past files place past)

-- a file that was found got other bytes
pub set_file : (files : List File) (name : List ℕ) (i : ℕ) (old new : File)
    → StandsAt files name i old
    → string_bytes new.0 ≡ string_bytes old.0
    → Replaces (Some (files_in files)) (Some (files_in (set files i new))) name new.1.items
set_file files name i old new at same =
    let new_name : string_bytes new.0 ≡ name = same ∙ at.name_is in
    let here : is_named name new ≡ true = (bytes_eq-Decides (string_bytes new.0) name).1 new_name in (
      ap bytes_in (find-set (is_named name) files i new at.first at.below here),
      λ q other.
          let old_differs : is_named q old ≡ false = unnamed (string_bytes old.0) q (λ e. other (sym e ∙ at.name_is)) in
          let new_differs : is_named q new ≡ false = unnamed (string_bytes new.0) q (λ e. other (sym e ∙ new_name)) in
          ap bytes_in (find_past (is_named q) files i new old (rw at.is old_differs) new_differs),
    )

-- a file that was found was written with the bytes that it had
pub keep_file : (files : List File) (name : List ℕ) (i : ℕ) (old new : File)
    → StandsAt files name i old
    → string_bytes new.0 ≡ string_bytes old.0
    → new.1.items ≡ old.1.items
    → files_in (set files i new) ≡ files_in files
keep_file files name i old new at same kept =
    let replaced = set_file files name i old new at same in
    let here : files_in (set files i new) name ≡ files_in files name = replaced.0 ∙ ap (λ x. Some x) kept ∙ sym (found_file files name i old at) in
    same_counts_of (λ q. by_name q name (λ e. rw e here) (λ other. replaced.1 q other))

-- a file of a name that wasn't there was added
pub push_file : (files : List File) (name : List ℕ) (new : File)
    → files_in files name ≡ None
    → string_bytes new.0 ≡ name
    → Replaces (Some (files_in files)) (Some (files_in (files ++ new ∷ []))) name new.1.items
push_file files name new missing same =
    let none : find (is_named name) files ≡ None = none_in (find (is_named name) files) missing in
    let here : is_named name new ≡ true = (bytes_eq-Decides (string_bytes new.0) name).1 same in (
      rw (find-append (is_named name) files (new ∷ []), none, here) refl,
      λ q other.
          let differs : is_named q new ≡ false = unnamed (string_bytes new.0) q (λ e. other (sym e ∙ same)) in
          rw (find-append (is_named q) files (new ∷ []), differs, or_none) refl,
    )
