-- Files in memory.
use Rattle.std.specs.Prelude.{◌≡◌, ◌≢◌, ℕ, Bool, true, false, cond, ◌&&◌, ◌||◌, List, [], ◌∷◌, map, Option, Some, None, is_none, String, string_bytes, bytes_eq, find, refl}
use Rattle.std.specs.Global.{Vec, Global}
use Rattle.std.specs.List.{list_any}
use Rattle.epic_ports.specs.Files.{Files, IsFinite}

-- a file in memory: its name and its bytes
abbrev pub File : Type 0
File = String Global × Vec ℕ

abbrev pub is_named : List ℕ → File → Bool
is_named name file = bytes_eq (string_bytes file.0) name

abbrev pub bytes_in : Option File → Option (List ℕ)
bytes_in None = None
bytes_in (Some file) = Some file.1.items

-- the bytes of the first file of a name
abbrev pub files_in : List File → Files
files_in files = λ name. bytes_in (find (is_named name) files)

-- what a store of these files tells
abbrev pub told_in : List File → Option Files
told_in files = Some (files_in files)

-- no two files have one name
abbrev pub names_differ : List File → Bool
names_differ [] = true
names_differ (file ∷ files) = is_none (files_in files (string_bytes file.0)) && names_differ files

-- the first file has the name, or a later one has
first_or_later :
    (is_first : Bool) (file : File) (found : Option File) (is_later : Bool)
    → bytes_in (cond is_first (Some file) found) ≢ None
    → (bytes_in found ≢ None → is_later ≡ true)
    → (is_first || is_later) ≡ true
first_or_later true file found is_later there later = refl
first_or_later false file found is_later there later = later there

-- a name that is there is among those of the files
among_names : (files : List File) (q : List ℕ)
    → files_in files q ≢ None
    → list_any (λ name. bytes_eq name q) (map (λ file. string_bytes file.0) files) ≡ true
among_names [] q there = absurd (there refl)
among_names (file ∷ files) q there =
    first_or_later
    (bytes_eq (string_bytes file.0) q)
    file
    (find (is_named q) files)
    (list_any (λ name. bytes_eq name q) (map (λ other. string_bytes other.0) files))
    there
    (among_names files q)

-- the names of files are those of a list
pub finite_files : (files : List File) → IsFinite (told_in files)
finite_files files = (map (λ file. string_bytes file.0) files, among_names files)
