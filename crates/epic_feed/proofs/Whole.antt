-- A file is fed from its beginning to the reader of its form.
use Rattle.std.proofs.Common.{◌≡◌, ℕ, ◌<◌, ◌≤◌, Bool, true, false, List, [], ◌∷◌, ◌++◌, length, take, Option, Some, None, Result, Ok, Err, refl, sym, ap, subst, ◌∙◌, inl, inr, append-nil, take_all, bytes_eq, arith}
use Rattle.std.specs.Prelude.{nat_lt, if◌then◌else◌}
use Rattle.std.proofs.lemmas.Bool.Decides.{nat_tests}
use Rattle.std.proofs.lemmas.List.{take-append-le}
use Rattle.std.proofs.lemmas.Slice.Eq.{bytes_eq-Decides}
use Rattle.epic_capture.specs.declared.damage.CaptureKind.TheVariants.{Truncated}
use Rattle.epic_capture.specs.Records.{Captured, Records, damaged}
use Rattle.epic_capture.specs.Capture.{after_head, damage, format_of, head, of_format, records}
use Rattle.epic_capture.specs.Reading.{Reading, start}
use Rattle.epic_pcapng.specs.Grammar.{ngrecords}
use Rattle.epic_pcapng.specs.Reading.{Reading as NgReading, start as ng_start}
use Rattle.epic_ports.specs.Faults.{Rose}
use Rattle.epic_ports.specs.Files.{Files}
use Rattle.epic_ports.specs.declared.error.PortError.{PortError}
use Rattle.epic_feed.specs.declared.damage.Damage.{Damage}
use Rattle.epic_feed.specs.declared.damage.Damage.TheVariants.{Classic, Ng}
use Rattle.epic_feed.specs.declared.feeding.FeedError.{FeedError}
use Rattle.epic_feed.specs.declared.feeding.FeedError.TheVariants.{Damaged, Failed, Stopped, OutOfMemory}
use Rattle.epic_feed.specs.Feeding.{TookAll, TookSome, StoppedAt, Feeds, capture_in}
use Rattle.epic_feed.specs.Files.{Holds}
use Rattle.epic_feed.specs.Forms.{classic, is_ng, ng, records_in, told_as}
use Rattle.epic_feed.specs.Going.{Opens}
use Rattle.epic_feed.proofs.Fronts.{begins_nothing}
use Rattle.epic_feed.proofs.Steps.{rose_since}
use Rattle.epic_feed.proofs.Few.{few_classic, few_ng}

-- the first four bytes decide
same_form : (first rest : List ℕ) → 4 ≤ length first → is_ng (first ++ rest) ≡ is_ng first
unfolding is_ng
same_form first rest many = ap (λ bytes. bytes_eq bytes (10 ∷ 13 ∷ 13 ∷ 10 ∷ [])) (take-append-le 4 first rest many)

by_form : (bytes : List ℕ) (b : Bool) → is_ng bytes ≡ b → records_in bytes ≡ (if b then told_as Ng (ngrecords bytes) else told_as Classic (records bytes))
unfolding records_in
by_form bytes b is = ap (λ (c : Bool). if c then told_as Ng (ngrecords bytes) else told_as Classic (records bytes)) is

-- what is to come to a new reader of the form are the records of the file
pub classic_reads : (first : List ℕ) (s : Reading) → 4 ≤ length first → is_ng first ≡ false → s ≡ start → (rest : List ℕ) → classic.to_come s (first ++ rest) ≡ records_in (first ++ rest)
classic_reads first s many is new rest =
    ap (λ (r : Reading). classic.to_come r (first ++ rest)) new ∙ sym (by_form (first ++ rest) false (same_form first rest many ∙ is))

pub ng_reads : (first : List ℕ) (s : NgReading) → 4 ≤ length first → is_ng first ≡ true → s ≡ ng_start → (rest : List ℕ) → ng.to_come s (first ++ rest) ≡ records_in (first ++ rest)
unfolding ngrecords
ng_reads first s many is new rest =
    ap (λ (r : NgReading). ng.to_come r (first ++ rest)) new ∙ sym (by_form (first ++ rest) true (same_form first rest many ∙ is))

pub classic_few : (s : Reading) → s ≡ start → (bytes : List ℕ) → length (classic.to_come s bytes).items ≤ 262144
classic_few s new bytes = subst (λ (r : Reading). length (classic.to_come r bytes).items ≤ 262144) (sym new) (few_classic bytes)

pub ng_few : (s : NgReading) → s ≡ ng_start → (bytes : List ℕ) → length (ng.to_come s bytes).items ≤ 262144
unfolding ngrecords
ng_few s new bytes = subst (λ (r : NgReading). length (ng.to_come r bytes).items ≤ 262144) (sym new) (few_ng bytes)

-- so the records of a file that begins so are those of the file, also where it was read before
pub feeds_whole : (X : Type 0) (contents : Option Files) (name first : List ℕ) (read : List ℕ → Records Damage) (before between after : ℕ)
    (took : List Captured → Type 0) (stopped : List Captured → Captured → PortError → Type 0) (r : Result X FeedError)
    → ((rest : List ℕ) → read (first ++ rest) ≡ records_in (first ++ rest)) → before ≤ between
    → Feeds {X = X} (record { contents = contents; name = name; first = first; read = read }) between after took stopped r
    → Feeds {X = X} (capture_in contents name) before after took stopped r
feeds_whole X contents name first read before between after took stopped (Ok x) same low (rest, holds, all) =
    (first ++ rest, holds, subst (TookAll took None) (same rest) all)
feeds_whole X contents name first read before between after took stopped (Err (Damaged e)) same low (rest, holds, all) =
    (first ++ rest, holds, subst (TookAll took (Some e)) (same rest) all)
feeds_whole X contents name first read before between after took stopped (Err Failed) same low ((rest, begins, all), rose) =
    ((first ++ rest, begins, subst (λ (r : Records Damage). took r.items) (same rest) all), rose_since before between after low rose)
feeds_whole X contents name first read before between after took stopped (Err (Stopped e)) same low (rest, holds, stops) =
    (first ++ rest, holds, subst (StoppedAt (λ front at. stopped front at e)) (same rest) stops)
feeds_whole X contents name first read before between after took stopped (Err OutOfMemory) same low (inl none) = inl none
feeds_whole X contents name first read before between after took stopped (Err OutOfMemory) same low (inr (rest, holds, some)) =
    inr (first ++ rest, holds, subst (TookSome took) (same rest) some)

-- ---- a file of fewer than four bytes

short_form : (bytes : List ℕ) → length bytes < 4 → is_ng bytes ≡ false
unfolding is_ng
short_form bytes few = by (bytes_eq (take 4 bytes) (10 ∷ 13 ∷ 13 ∷ 10 ∷ [])) refl
  where
    by : (b : Bool) → bytes_eq (take 4 bytes) (10 ∷ 13 ∷ 13 ∷ 10 ∷ []) ≡ b → b ≡ false
    by false is = refl
    by true is =
        let same = (bytes_eq-Decides (take 4 bytes) (10 ∷ 13 ∷ 13 ∷ 10 ∷ [])).0 is in
        let all : take 4 bytes ≡ bytes = take_all 4 bytes (omega (arith, few)) in
        absurd (omega (arith, few, ap length same, ap length all))

short_damage : (bytes : List ℕ) → length bytes < 4 → records_in bytes ≡ damaged (Classic (damage Truncated 0))
unfolding records head
short_damage bytes few =
    let short : nat_lt (length bytes) 24 ≡ true = grind (arith, nat_tests, few) in
    by_form bytes false (short_form bytes few)
    ∙ ap (λ (b : Bool). told_as (λ e. Classic e) (after_head bytes (if b then Err (damage Truncated 0) else of_format (format_of bytes) bytes))) short

-- such a file is a cut capture
pub feeds_short : (X : Type 0) (contents : Option Files) (name first : List ℕ) (before after : ℕ)
    (took : List Captured → Type 0) (stopped : List Captured → Captured → PortError → Type 0) → Opens contents name first → length first < 4 → took []
    → Feeds {X = X} (capture_in contents name) before after took stopped (Err (Damaged (Classic (damage Truncated 0))))
feeds_short X contents name first before after took stopped opens few none =
    let whole : Holds contents name first = let P : List ℕ → Type 0 = λ rest. Holds contents name rest in
    subst P (ap (λ rest. first ++ rest) (opens.few few) ∙ append-nil first) opens.holds in
    let is = short_damage first few in (
      first,
      whole,
      record { whole = ap (λ (r : Records Damage). r.damage) is; taken = subst took (sym (ap (λ (r : Records Damage). r.items) is)) none },
    )

-- nothing was read
pub feeds_failed_first : (X : Type 0) (contents : Option Files) (name : List ℕ) (before after : ℕ)
    (took : List Captured → Type 0) (stopped : List Captured → Captured → PortError → Type 0) → Rose before after → took []
    → Feeds {X = X} (capture_in contents name) before after took stopped (Err Failed)
feeds_failed_first X contents name before after took stopped rose none =
    (([], begins_nothing contents name, subst (λ (r : Records Damage). took r.items) (sym (short_damage [] (omega arith))) none), rose)
