-- What the text of a generated topology is read as.
use Rattle.std.proofs.Common.{◌≡◌, ℕ, ◌+◌, ◌*◌, ◌<◌, ◌≤◌, ◌&&◌, nat_lt, Bool, true, false, cond, List, [], ◌∷◌, ◌++◌, zero, suc, take, length, length-append, Option, Some, None, Ok, Err, Result, refl, ap, sym, subst, ◌∙◌, arith}
use Rattle.std.specs.Prelude.{codes}
use Rattle.std.specs.List.{list_all}
use Rattle.std.specs.Str.{is_utf8, IsAscii}
use Rattle.std.proofs.lemmas.Bool.{and_parts, ltb-true}
use Rattle.std.proofs.lemmas.Str.{is_utf8-from_IsUtf8, IsAscii-append, IsUtf8-from_ascii}
use Rattle.hex.specs.Hex.{decode_sized, encode_lower, lower_digits}
use Rattle.hex.proofs.HexLemmas.{decode_sized-encode_lower, IsAscii-encode_with, length-encode_with}
use Rattle.epic_cmac.proofs.CmacFacts.{length-cmac}
use Rattle.toml.specs.Data.{Data, Items, no_items, item, array}
use Rattle.toml.specs.Parse.{parse_document}
use Rattle.toml.proofs.ReadBack.{parse_document-printed}
use Rattle.epic_num.specs.Names.{as_of, as_from, as_part_of, groups_of, low_groups_of}
use Rattle.epic_num.specs.Same.{same_as}
use Rattle.epic_topo.specs.Lawful.{IsTopology}
use Rattle.epic_topo.specs.Network.{Network, has, is_core, keeps_core_rule, neighbour, with_link, with_system}
use Rattle.epic_topo.specs.Reading.{◌>>=◌, asn_at, core_at, document, end_at, fitting, iface_at, kind_at, master_at, next_link, next_system, profile_of, rows, setting_at, settings as read_settings, text_at, topology, value_at, with_links, with_links_of, with_systems, with_systems_of}
use Rattle.epic_topo.specs.Words.{key_word}
use Rattle.epic_topo.specs.declared.fault.TopoError.{TopoError}
use Rattle.epic_topo.specs.declared.fault.TopoError.TheVariants.{Bad}
use Rattle.epic_topo.specs.declared.fault.TopoKey.{TopoKey}
use Rattle.epic_topo.specs.declared.fault.TopoKind.{TopoKind}
use Rattle.epic_topo.specs.declared.fault.TopoKey.TheVariants as key
use Rattle.epic_topo.specs.declared.link_kind.LinkKind.TheVariants.{Core, Parent}
use Rattle.epic_topo.specs.declared.network.Link.{Link}
use Rattle.epic_topo.specs.declared.network.System.{System}
use Rattle.epic_topo.proofs.ReadLawful.{read_lawful}
use Rattle.epic_topo.proofs.Steps.{at_ok}
use Rattle.epic_gen.specs.Names.{asn, generator_key, master_of}
use Rattle.epic_gen.specs.Table.{full_name, generated_table, link_data, links_data, system_data, systems_data}
use Rattle.epic_gen.specs.Text.{children_text, cores_text, links_text, system_text, topology_text}
use Rattle.epic_gen.specs.Topology.{generated_network, link, settings, system}
use Rattle.epic_gen.proofs.Made.{master_bytes}
use Rattle.epic_gen.proofs.Printed.{text_printed}

-- ---- its bytes

ascii_cons : (x : ℕ) (xs : List ℕ) → x < 128 → IsAscii xs → IsAscii (x ∷ xs)
ascii_cons x xs low is zero = low
ascii_cons x xs low is (suc i) = is i

-- by computing
ascii_of : (xs : List ℕ) → list_all (λ b. nat_lt b 128) xs ≡ true → IsAscii xs
ascii_of [] is i = omega arith
ascii_of (x ∷ xs) is i =
    let (here, more) = and_parts (nat_lt x 128) (list_all (λ b. nat_lt b 128) xs) is in
    ascii_cons x xs (ltb-true x 128 here) (ascii_of xs more) i

digits_ascii : (bytes : List ℕ) → IsAscii (encode_lower bytes)
digits_ascii bytes = IsAscii-encode_with lower_digits bytes (ascii_of lower_digits refl)

system_ascii : (seed place : ℕ) (core : Bool) (name : List ℕ) → IsAscii name → IsAscii (system_text seed place core name)
unfolding system_text
system_ascii seed place core name is =
    let digits = encode_lower (master_of seed place) in
    let last = IsAscii-append name (codes "\"\n\n") is (ascii_of (codes "\"\n\n") refl) in
    let named = IsAscii-append (codes "\"\nname = \"1-ff00:0:") (name ++ codes "\"\n\n") (ascii_of (codes "\"\nname = \"1-ff00:0:") refl) last in
    let keyed = IsAscii-append digits (codes "\"\nname = \"1-ff00:0:" ++ (name ++ codes "\"\n\n")) (digits_ascii (master_of seed place)) named in
    let rest = codes "\nkey = \"" ++ (digits ++ (codes "\"\nname = \"1-ff00:0:" ++ (name ++ codes "\"\n\n"))) in
    let whole : IsAscii rest = IsAscii-append (codes "\nkey = \"") (digits ++ (codes "\"\nname = \"1-ff00:0:" ++ (name ++ codes "\"\n\n"))) (ascii_of (codes "\nkey = \"") refl) keyed in
    by core rest whole
  where
    by : (b : Bool) (rest : List ℕ) → IsAscii rest → IsAscii (codes "[[as]]\ncore = " ++ ((cond b (codes "true") (codes "false")) ++ rest))
    by true rest whole = IsAscii-append (codes "[[as]]\ncore = true") rest (ascii_of (codes "[[as]]\ncore = true") refl) whole
    by false rest whole = IsAscii-append (codes "[[as]]\ncore = false") rest (ascii_of (codes "[[as]]\ncore = false") refl) whole

text_ascii : (seed : ℕ) → IsAscii (topology_text seed)
unfolding topology_text cores_text children_text
text_ascii seed =
    let s0 = system_ascii seed 0 true (codes "110") (ascii_of (codes "110") refl) in
    let s1 = system_ascii seed 1 true (codes "120") (ascii_of (codes "120") refl) in
    let s2 = system_ascii seed 2 false (codes "111") (ascii_of (codes "111") refl) in
    let s3 = system_ascii seed 3 false (codes "112") (ascii_of (codes "112") refl) in
    let s4 = system_ascii seed 4 false (codes "121") (ascii_of (codes "121") refl) in
    let s5 = system_ascii seed 5 false (codes "122") (ascii_of (codes "122") refl) in
    IsAscii-append _ _ (IsAscii-append _ _ s0 s1)
    (IsAscii-append _ _ (IsAscii-append _ _ s2 (IsAscii-append _ _ s3 (IsAscii-append _ _ s4 s5))) (ascii_of links_text refl))

master_length : (seed place : ℕ) → length (master_of seed place) ≡ 16
unfolding master_of
master_length seed place = length-cmac generator_key _

links_short : length links_text ≤ 1000
links_short = omega arith

system_short : (seed place : ℕ) (core : Bool) (name : List ℕ) → length (system_text seed place core name) ≤ 100 + length name
unfolding system_text
system_short seed place core name =
    let digits = encode_lower (master_of seed place) in
    let key : length digits ≡ 32 = length-encode_with lower_digits (master_of seed place) ∙ ap (λ n. 2 * n) (master_length seed place) in
    let rest = digits ++ (codes "\"\nname = \"1-ff00:0:" ++ (name ++ codes "\"\n\n")) in
    let few : length rest ≤ 60 + length name = omega (arith, key, length-append digits (codes "\"\nname = \"1-ff00:0:" ++ (name ++ codes "\"\n\n")), length-append name (codes "\"\n\n")) in
    by core rest few
  where
    by : (b : Bool) (rest : List ℕ) → length rest ≤ 60 + length name
        → length (codes "[[as]]\ncore = " ++ ((cond b (codes "true") (codes "false")) ++ (codes "\nkey = \"" ++ rest))) ≤ 100 + length name
    by true rest few = omega (arith, few)
    by false rest few = omega (arith, few)

pub text_short : (seed : ℕ) → length (topology_text seed) ≤ 1048576
unfolding topology_text cores_text children_text
text_short seed =
    let s0 = system_text seed 0 true (codes "110") in
    let s1 = system_text seed 1 true (codes "120") in
    let s2 = system_text seed 2 false (codes "111") in
    let s3 = system_text seed 3 false (codes "112") in
    let s4 = system_text seed 4 false (codes "121") in
    let s5 = system_text seed 5 false (codes "122") in
    let few : length (s0 ++ s1) + length (s2 ++ (s3 ++ (s4 ++ s5))) ≤ 618 = omega (
      arith,
      length-append s0 s1,
      length-append s2 (s3 ++ (s4 ++ s5)),
      length-append s3 (s4 ++ s5),
      length-append s4 s5,
      system_short seed 0 true (codes "110"),
      system_short seed 1 true (codes "120"),
      system_short seed 2 false (codes "111"),
      system_short seed 3 false (codes "112"),
      system_short seed 4 false (codes "121"),
      system_short seed 5 false (codes "122"),
    ) in
    omega (arith, few, length-append (s0 ++ s1) ((s2 ++ (s3 ++ (s4 ++ s5))) ++ links_text), length-append (s2 ++ (s3 ++ (s4 ++ s5))) links_text, links_short)

-- ---- its table

document_read : (seed : ℕ) → document (topology_text seed) ≡ Ok (generated_table seed)
unfolding document
document_read seed =
    let utf8 : is_utf8 (topology_text seed) ≡ true = is_utf8-from_IsUtf8 (topology_text seed) (IsUtf8-from_ascii (topology_text seed) (text_ascii seed)) in
    let parsed : parse_document (topology_text seed) ≡ Some (generated_table seed) =
    parse_document-printed false (generated_table seed) (topology_text seed) (text_printed seed) (omega arith) refl refl in
    rw (utf8, parsed) refl

-- ---- its keys and names

master_read : (seed place : ℕ) → place < 256 → decode_sized (encode_lower (master_of seed place)) 16 ≡ Ok (master_of seed place)
unfolding master_of
master_read seed place low = decode_sized-encode_lower (master_of seed place) 16 (length-cmac generator_key _) (master_bytes seed place low)

module _ (n : Network) (seed place : ℕ) (name : List ℕ) (number : ℕ) (low : place < 256)
    (named : as_of (full_name name) ≡ Some (asn number).0) (new : has n (asn number) ≡ false) where
  system_read : (core : Bool) → next_system n (system_data seed place core name) ≡ Ok (system seed place (asn number) core)
  unfolding next_system text_at asn_at core_at master_at key_word
  system_read core = rw (named, master_read seed place low, new) refl

-- ---- steps

then_ok : {A B : Type 0} (r : Result A TopoError) (x : A) (f : A → Result B TopoError) → r ≡ Ok x → (r >>= f) ≡ f x
then_ok r x f is = ap (λ (q : Result _ TopoError). q >>= f) is

next_systems : (n : Network) (d : Data) (ds : Items) (s : System) (m : Network) → next_system n d ≡ Ok s
    → with_systems (with_system n s) ds ≡ Ok m → with_systems n (item d ds) ≡ Ok m
next_systems n d ds s m is more = then_ok (next_system n d) s (λ s. with_systems (with_system n s) ds) is ∙ more

next_links : (n : Network) (d : Data) (ds : Items) (l : Link) (m : Network) → next_link n d ≡ Ok l
    → with_links (with_link n l) ds ≡ Ok m → with_links n (item d ds) ≡ Ok m
next_links n d ds l m is more = then_ok (next_link n d) l (λ l. with_links (with_link n l) ds) is ∙ more

-- ---- its ASes and links

-- with the first of its ASes
ases : ℕ → ℕ → Network
unfolding generated_network
ases seed count = record { profile = settings; systems = take count (generated_network seed).systems; links = [] }

-- with all of them and the first of its links
linked : ℕ → ℕ → Network
unfolding generated_network
linked seed count = record {
  profile = settings;
  systems = (generated_network seed).systems;
  links = take count (generated_network seed).links;
}

as_110 : (seed : ℕ) → next_system (ases seed 0) (system_data seed 0 true (codes "110")) ≡ Ok (system seed 0 (asn 0x110) true)
unfolding ases generated_network has same_as as_from as_part_of groups_of low_groups_of
as_110 seed = system_read (ases seed 0) seed 0 (codes "110") 0x110 (omega arith) refl refl true

as_120 : (seed : ℕ) → next_system (ases seed 1) (system_data seed 1 true (codes "120")) ≡ Ok (system seed 1 (asn 0x120) true)
unfolding ases generated_network has same_as as_from as_part_of groups_of low_groups_of
as_120 seed = system_read (ases seed 1) seed 1 (codes "120") 0x120 (omega arith) refl refl true

as_111 : (seed : ℕ) → next_system (ases seed 2) (system_data seed 2 false (codes "111")) ≡ Ok (system seed 2 (asn 0x111) false)
unfolding ases generated_network has same_as as_from as_part_of groups_of low_groups_of
as_111 seed = system_read (ases seed 2) seed 2 (codes "111") 0x111 (omega arith) refl refl false

as_112 : (seed : ℕ) → next_system (ases seed 3) (system_data seed 3 false (codes "112")) ≡ Ok (system seed 3 (asn 0x112) false)
unfolding ases generated_network has same_as as_from as_part_of groups_of low_groups_of
as_112 seed = system_read (ases seed 3) seed 3 (codes "112") 0x112 (omega arith) refl refl false

as_121 : (seed : ℕ) → next_system (ases seed 4) (system_data seed 4 false (codes "121")) ≡ Ok (system seed 4 (asn 0x121) false)
unfolding ases generated_network has same_as as_from as_part_of groups_of low_groups_of
as_121 seed = system_read (ases seed 4) seed 4 (codes "121") 0x121 (omega arith) refl refl false

as_122 : (seed : ℕ) → next_system (ases seed 5) (system_data seed 5 false (codes "122")) ≡ Ok (system seed 5 (asn 0x122) false)
unfolding ases generated_network has same_as as_from as_part_of groups_of low_groups_of
as_122 seed = system_read (ases seed 5) seed 5 (codes "122") 0x122 (omega arith) refl refl false

-- the values of its ASes behind the first of them
abbrev ases_6 : ℕ → Items
ases_6 seed = no_items

abbrev ases_5 : ℕ → Items
ases_5 seed = item (system_data seed 5 false (codes "122")) (ases_6 seed)

abbrev ases_4 : ℕ → Items
ases_4 seed = item (system_data seed 4 false (codes "121")) (ases_5 seed)

abbrev ases_3 : ℕ → Items
ases_3 seed = item (system_data seed 3 false (codes "112")) (ases_4 seed)

abbrev ases_2 : ℕ → Items
ases_2 seed = item (system_data seed 2 false (codes "111")) (ases_3 seed)

abbrev ases_1 : ℕ → Items
ases_1 seed = item (system_data seed 1 true (codes "120")) (ases_2 seed)

-- and of its links
abbrev links_5 : Items
links_5 = no_items

abbrev links_4 : Items
links_4 = item (link_data (codes "child") (codes "121") 2 (codes "122") 1) links_5

abbrev links_3 : Items
links_3 = item (link_data (codes "child") (codes "120") 2 (codes "121") 1) links_4

abbrev links_2 : Items
links_2 = item (link_data (codes "child") (codes "111") 2 (codes "112") 1) links_3

abbrev links_1 : Items
links_1 = item (link_data (codes "child") (codes "110") 2 (codes "111") 1) links_2

systems_read : (seed : ℕ) → with_systems_of (ases seed 0) (value_at key.As (generated_table seed)) ≡ Ok (linked seed 0)
unfolding rows ases linked generated_network key_word
systems_read seed =
    next_systems (ases seed 0) (system_data seed 0 true (codes "110")) (ases_1 seed) (system seed 0 (asn 0x110) true) (linked seed 0) (as_110 seed)
    (next_systems (ases seed 1) (system_data seed 1 true (codes "120")) (ases_2 seed) (system seed 1 (asn 0x120) true) (linked seed 0) (as_120 seed)
    (next_systems (ases seed 2) (system_data seed 2 false (codes "111")) (ases_3 seed) (system seed 2 (asn 0x111) false) (linked seed 0) (as_111 seed)
    (next_systems (ases seed 3) (system_data seed 3 false (codes "112")) (ases_4 seed) (system seed 3 (asn 0x112) false) (linked seed 0) (as_112 seed)
    (next_systems (ases seed 4) (system_data seed 4 false (codes "121")) (ases_5 seed) (system seed 4 (asn 0x121) false) (linked seed 0) (as_121 seed)
    (next_systems (ases seed 5) (system_data seed 5 false (codes "122")) (ases_6 seed) (system seed 5 (asn 0x122) false) (linked seed 0) (as_122 seed) refl)))))

link_1 : (seed : ℕ) → next_link (linked seed 0) (link_data (codes "core") (codes "110") 1 (codes "120") 1) ≡ Ok (link Core (asn 0x110) 1 (asn 0x120) 1)
unfolding next_link kind_at end_at iface_at fitting text_at asn_at key_word linked generated_network has is_core neighbour keeps_core_rule same_as as_from as_part_of groups_of low_groups_of
link_1 seed = refl

link_2 : (seed : ℕ) → next_link (linked seed 1) (link_data (codes "child") (codes "110") 2 (codes "111") 1) ≡ Ok (link Parent (asn 0x110) 2 (asn 0x111) 1)
unfolding next_link kind_at end_at iface_at fitting text_at asn_at key_word linked generated_network has is_core neighbour keeps_core_rule same_as as_from as_part_of groups_of low_groups_of
link_2 seed = refl

link_3 : (seed : ℕ) → next_link (linked seed 2) (link_data (codes "child") (codes "111") 2 (codes "112") 1) ≡ Ok (link Parent (asn 0x111) 2 (asn 0x112) 1)
unfolding next_link kind_at end_at iface_at fitting text_at asn_at key_word linked generated_network has is_core neighbour keeps_core_rule same_as as_from as_part_of groups_of low_groups_of
link_3 seed = refl

link_4 : (seed : ℕ) → next_link (linked seed 3) (link_data (codes "child") (codes "120") 2 (codes "121") 1) ≡ Ok (link Parent (asn 0x120) 2 (asn 0x121) 1)
unfolding next_link kind_at end_at iface_at fitting text_at asn_at key_word linked generated_network has is_core neighbour keeps_core_rule same_as as_from as_part_of groups_of low_groups_of
link_4 seed = refl

link_5 : (seed : ℕ) → next_link (linked seed 4) (link_data (codes "child") (codes "121") 2 (codes "122") 1) ≡ Ok (link Parent (asn 0x121) 2 (asn 0x122) 1)
unfolding next_link kind_at end_at iface_at fitting text_at asn_at key_word linked generated_network has is_core neighbour keeps_core_rule same_as as_from as_part_of groups_of low_groups_of
link_5 seed = refl

links_read : (seed : ℕ) → with_links_of (linked seed 0) (value_at key.Link (generated_table seed)) ≡ Ok (generated_network seed)
unfolding rows linked generated_network key_word
links_read seed =
    next_links (linked seed 0) (link_data (codes "core") (codes "110") 1 (codes "120") 1) links_1 (link Core (asn 0x110) 1 (asn 0x120) 1) (generated_network seed) (link_1 seed)
    (next_links (linked seed 1) (link_data (codes "child") (codes "110") 2 (codes "111") 1) links_2 (link Parent (asn 0x110) 2 (asn 0x111) 1) (generated_network seed) (link_2 seed)
    (next_links (linked seed 2) (link_data (codes "child") (codes "111") 2 (codes "112") 1) links_3 (link Parent (asn 0x111) 2 (asn 0x112) 1) (generated_network seed) (link_3 seed)
    (next_links (linked seed 3) (link_data (codes "child") (codes "120") 2 (codes "121") 1) links_4 (link Parent (asn 0x120) 2 (asn 0x121) 1) (generated_network seed) (link_4 seed)
    (next_links (linked seed 4) (link_data (codes "child") (codes "121") 2 (codes "122") 1) links_5 (link Parent (asn 0x121) 2 (asn 0x122) 1) (generated_network seed) (link_5 seed) refl))))

profile_read : (seed : ℕ) → profile_of (value_at key.Profile (generated_table seed)) ≡ Ok settings
unfolding read_settings setting_at key_word
profile_read seed = refl

-- ---- the whole

pub text_read : (seed : ℕ) → topology (topology_text seed) ≡ Ok (generated_network seed)
unfolding topology ases
text_read seed =
    then_ok (document (topology_text seed)) (generated_table seed) _ (document_read seed)
    ∙ (then_ok (profile_of (value_at key.Profile (generated_table seed))) settings _ (profile_read seed)
    ∙ (then_ok (with_systems_of (ases seed 0) (value_at key.As (generated_table seed))) (linked seed 0) _ (systems_read seed)
    ∙ links_read seed))

pub network_lawful : (seed : ℕ) → IsTopology (generated_network seed)
network_lawful seed =
    at_ok IsTopology (topology (topology_text seed)) (generated_network seed) (text_read seed) (read_lawful (topology_text seed))

-- ---- what code reads

same_Ok : (r : Result Network TopoError) (n m : Network) → r ≡ Ok n → r ≡ Ok m → n ≡ m
same_Ok r n m one other = ap taken (sym one ∙ other)
  where
    taken : Result Network TopoError → Network
    taken (Ok x) = x
    taken (Err e) = n

pub read_as : (seed : ℕ) (text : List ℕ) (n : Network) → text ≡ topology_text seed → topology text ≡ Ok n → n ≡ generated_network seed
read_as seed text n is read = same_Ok (topology text) n (generated_network seed) read (ap topology is ∙ text_read seed)

pub read_no_fault : (seed : ℕ) (text : List ℕ) (kind : TopoKind) (k : TopoKey) (place : ℕ) → text ≡ topology_text seed
    → topology text ≡ Err (Bad kind k place) → ⊥
read_no_fault seed text kind k place is read = let other : Ok (generated_network seed) ≡ Err (Bad kind k place) = sym (ap topology is ∙ text_read seed) ∙ read in absurd (cc)
