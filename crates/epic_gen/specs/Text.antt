-- The text of a generated topology, as TOML, which `run` reads.
use Rattle.std.specs.Prelude.{ℕ, if◌then◌else◌, Bool, true, false, List, ◌++◌, codes}
use Rattle.hex.specs.Hex.{encode_lower}
use Rattle.epic_gen.specs.Names.{master_of}

-- the AS 1-ff00:0:NAME at a place
unfoldable pub system_text : ℕ → ℕ → Bool → List ℕ → List ℕ
system_text seed place core name =
    codes "[[as]]\ncore = " ++ ((if core then codes "true" else codes "false")
    ++ (codes "\nkey = \"" ++ (encode_lower (master_of seed place)
    ++ (codes "\"\nname = \"1-ff00:0:" ++ (name ++ codes "\"\n\n")))))

-- its links
abbrev pub links_text : List ℕ
links_text = codes "[[link]]\na = \"1-ff00:0:110\"\na_if = 1\nb = \"1-ff00:0:120\"\nb_if = 1\nkind = \"core\"\n\n[[link]]\na = \"1-ff00:0:110\"\na_if = 2\nb = \"1-ff00:0:111\"\nb_if = 1\nkind = \"child\"\n\n[[link]]\na = \"1-ff00:0:111\"\na_if = 2\nb = \"1-ff00:0:112\"\nb_if = 1\nkind = \"child\"\n\n[[link]]\na = \"1-ff00:0:120\"\na_if = 2\nb = \"1-ff00:0:121\"\nb_if = 1\nkind = \"child\"\n\n[[link]]\na = \"1-ff00:0:121\"\na_if = 2\nb = \"1-ff00:0:122\"\nb_if = 1\nkind = \"child\"\n"

-- the core ASes, and each with what is below it
unfoldable pub cores_text : ℕ → List ℕ
cores_text seed = system_text seed 0 true (codes "110") ++ system_text seed 1 true (codes "120")

unfoldable pub children_text : ℕ → List ℕ
children_text seed =
    system_text seed 2 false (codes "111") ++ (system_text seed 3 false (codes "112")
    ++ (system_text seed 4 false (codes "121") ++ system_text seed 5 false (codes "122")))

-- the whole text
unfoldable pub topology_text : ℕ → List ℕ
topology_text seed = cores_text seed ++ (children_text seed ++ links_text)
