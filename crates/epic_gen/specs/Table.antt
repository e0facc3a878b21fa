-- Private: serves proofs of this crate alone; no public contract cites it.
-- The table that the text of a generated topology is by TOML.
use Rattle.std.specs.Prelude.{ℕ, pos, Bool, true, false, List, [], ◌∷◌, ◌++◌, codes}
use Rattle.hex.specs.Hex.{encode_lower}
use Rattle.toml.specs.Data.{Data, array, boolean, integer, string, table, Items, no_items, item, Members, no_members, member}
use Rattle.epic_gen.specs.Names.{master_of}

-- the name of an AS
abbrev pub full_name : List ℕ → List ℕ
full_name name = codes "1-ff00:0:" ++ name

abbrev pub system_members : ℕ → ℕ → Bool → List ℕ → Members
system_members seed place core name =
    member (codes "core") (boolean core)
    (member (codes "key") (string (encode_lower (master_of seed place)))
    (member (codes "name") (string (full_name name)) no_members))

abbrev pub system_data : ℕ → ℕ → Bool → List ℕ → Data
system_data seed place core name = table (system_members seed place core name)

abbrev pub link_data : List ℕ → List ℕ → ℕ → List ℕ → ℕ → Data
link_data kind a a_iface b b_iface = table
    (member (codes "a") (string (full_name a))
    (member (codes "a_if") (integer (pos a_iface))
    (member (codes "b") (string (full_name b))
    (member (codes "b_if") (integer (pos b_iface))
    (member (codes "kind") (string kind) no_members)))))

abbrev pub systems_data : ℕ → Items
systems_data seed =
    item (system_data seed 0 true (codes "110")) (item (system_data seed 1 true (codes "120"))
    (item (system_data seed 2 false (codes "111")) (item (system_data seed 3 false (codes "112"))
    (item (system_data seed 4 false (codes "121")) (item (system_data seed 5 false (codes "122")) no_items)))))

abbrev pub links_data : Items
links_data =
    item (link_data (codes "core") (codes "110") 1 (codes "120") 1)
    (item (link_data (codes "child") (codes "110") 2 (codes "111") 1)
    (item (link_data (codes "child") (codes "111") 2 (codes "112") 1)
    (item (link_data (codes "child") (codes "120") 2 (codes "121") 1)
    (item (link_data (codes "child") (codes "121") 2 (codes "122") 1) no_items))))

abbrev pub generated_table : ℕ → Members
generated_table seed =
    member (codes "as") (array (systems_data seed)) (member (codes "link") (array links_data) no_members)
