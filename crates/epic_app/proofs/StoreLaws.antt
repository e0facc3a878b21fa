-- Acts on files that are kept, one call of the store after the other.
use Rattle.std.proofs.Common.{◌≡◌, ℕ, List, ◌++◌, Option, Some, None, Result, Ok, Err, refl, arith}
use Rattle.epic_capture.specs.Saving.{file_head}
use Rattle.epic_ports.specs.Files.{Files}
use Rattle.epic_ports.specs.declared.error.PortError.{PortError}
use Rattle.epic_app.specs.Acts.{Act, appends, creates, world}
use Rattle.epic_app.specs.Added.{IsNamedIn, StoreActs, added_to, made_of}
use Rattle.epic_app.specs.Keeping.{files_of}
use Rattle.epic_app.specs.Kept.{Kept, opening}
use Rattle.epic_app.proofs.Acting.{performs_after, stays_both, stopped_more}

-- ---- calls

-- less of the first acts is less of all
pub first_stops : (kept : List Kept) (a b : List Act) (contents now : Option Files) (reads writes reads_now writes_now : List ℕ → ℕ) (e : PortError)
    → StoreActs {X = Unit {0}} kept a contents reads writes now reads_now writes_now (Err e)
    → StoreActs {X = Unit {0}} kept (a ++ b) contents reads writes now reads_now writes_now (Err e)
first_stops kept a b contents now reads writes reads_now writes_now e acts = λ written faults.
    let (stops, stays) = acts written faults in
    (stopped_more kept a b (world contents reads writes written faults) (world now reads_now writes_now written faults) e stops, stays)

-- these acts and then those
pub then_acts : (kept : List Kept) (a b : List Act) (contents mid now : Option Files) (reads writes reads_mid writes_mid reads_now writes_now : List ℕ → ℕ)
    (r : Result (Unit {0}) PortError)
    → StoreActs {X = Unit {0}} kept a contents reads writes mid reads_mid writes_mid (Ok tt)
    → StoreActs kept b mid reads_mid writes_mid now reads_now writes_now r
    → StoreActs kept (a ++ b) contents reads writes now reads_now writes_now r
then_acts kept a b contents mid now reads writes reads_mid writes_mid reads_now writes_now r first next = λ written faults.
    let u = world contents reads writes written faults in
    let v = world mid reads_mid writes_mid written faults in
    let w = world now reads_now writes_now written faults in
    let (did, stayed) = first written faults in
    let (performs, stays) = next written faults in
    (performs_after kept a b u v w r did stayed performs, stays_both kept u v w stayed stays)

-- ---- the files

pub is_saved : (s l v : Option (List ℕ)) → IsNamedIn s (files_of s l v)
unfolding files_of
is_saved None l v = tt
is_saved (Some a) l v = (0, omega arith, refl)

pub is_ledger : (s l v : Option (List ℕ)) → IsNamedIn l (files_of s l v)
unfolding files_of
is_ledger s None v = tt
is_ledger None (Some b) v = (0, omega arith, refl)
is_ledger (Some a) (Some b) v = (1, omega arith, refl)

pub is_verdicts : (s l v : Option (List ℕ)) → IsNamedIn v (files_of s l v)
unfolding files_of
is_verdicts s l None = tt
is_verdicts None None (Some c) = (0, omega arith, refl)
is_verdicts None (Some b) (Some c) = (1, omega arith, refl)
is_verdicts (Some a) None (Some c) = (1, omega arith, refl)
is_verdicts (Some a) (Some b) (Some c) = (2, omega arith, refl)

-- they are made one after the other
pub opening_is : (s l v : Option (List ℕ))
    → (made_of s ++ added_to s file_head) ++ (made_of l ++ made_of v) ≡ opening (files_of s l v)
unfolding opening files_of creates appends
opening_is None None None = refl
opening_is None None (Some c) = refl
opening_is None (Some b) None = refl
opening_is None (Some b) (Some c) = refl
opening_is (Some a) None None = refl
opening_is (Some a) None (Some c) = refl
opening_is (Some a) (Some b) None = refl
opening_is (Some a) (Some b) (Some c) = refl
