-- The text of a generated topology is the one that is printed of its table.
use Rattle.std.proofs.Common.{◌≡◌, ℕ, ℤ, pos, zero, Bool, true, false, cond, List, [], ◌∷◌, ◌++◌, drop, refl, ap, sym, subst, ◌∙◌, ◌<◌, append_assoc, rules, arith}
use Rattle.std.specs.Prelude.{codes, FitsSigned, ⊤}
use Rattle.std.specs.Fmt.{digits as digits_of, signed_decimal}
use Rattle.std.specs.Int.{w64}
use Rattle.std.specs.List.{list_all}
use Rattle.hex.specs.Hex.{encode_lower}
use Rattle.toml_parser.specs.Lexical.{line_feed, quote}
use Rattle.toml_parser.specs.Strings.{Key}
use Rattle.toml_writer.specs.Text.{dotted_text, encoding_of, escaped, key_text, needs_escape, quotes_after, string_text}
use Rattle.toml.specs.Data.{Data, array, boolean, datetime, float, integer, string, table, Members}
use Rattle.toml.specs.Tables.{Definition, Expression, array_table, key_value, std_table}
use Rattle.toml.specs.Text.{IsDocumentText, IsLinesText, IsLineText, IsValueText, expressions, gap, header_close, header_open, pairs, section}
use Rattle.epic_gen.specs.Names.{master_of}
use Rattle.epic_gen.specs.Table.{full_name, generated_table, links_data, system_data, system_members, systems_data}
use Rattle.epic_gen.proofs.Made.{master_bytes}
use Rattle.epic_gen.proofs.Plain.{hex_plain, is_plain, plain_text}
use Rattle.epic_gen.specs.Text.{children_text, cores_text, links_text, system_text, topology_text}

-- ---- what is printed of strings, numbers and truth values

abbrev value_text : Data → List ℕ
value_text (string s) = string_text s
value_text (integer z) = signed_decimal z
value_text (boolean b) = cond b (codes "true") (codes "false")
value_text (float x) = []
value_text (datetime d) = []
value_text (array ds) = []
value_text (table ms) = []

abbrev IsSimple : Data → Type 0
IsSimple (string s) = ⊤
IsSimple (integer z) = FitsSigned w64 z
IsSimple (boolean b) = ⊤
IsSimple (float x) = ⊥
IsSimple (datetime d) = ⊥
IsSimple (array ds) = ⊥
IsSimple (table ms) = ⊥

value_is : (d : Data) → IsSimple d → IsValueText false d (value_text d)
value_is (string s) simple = refl
value_is (integer z) simple = (refl, simple)
value_is (boolean b) simple = refl
value_is (float x) simple = absurd simple
value_is (datetime d) simple = absurd simple
value_is (array ds) simple = absurd simple
value_is (table ms) simple = absurd simple

-- ---- and of lines

abbrev line_text : Bool → Key → Definition → List ℕ
line_text started key (key_value d) = dotted_text key ++ (codes " = " ++ (value_text d ++ line_feed ∷ []))
line_text started key std_table = gap started ++ (header_open false ++ (dotted_text key ++ header_close false))
line_text started key array_table = gap started ++ (header_open true ++ (dotted_text key ++ header_close true))

abbrev IsSimpleLine : Definition → Type 0
IsSimpleLine (key_value d) = IsSimple d
IsSimpleLine std_table = ⊤
IsSimpleLine array_table = ⊤

line_is : (started : Bool) (key : Key) (def : Definition) → IsSimpleLine def → IsLineText false started key def (line_text started key def)
line_is started key (key_value d) simple = (value_text d, refl, value_is d simple)
line_is started key std_table simple = refl
line_is started key array_table simple = refl

abbrev lines_text : Bool → List Expression → List ℕ
lines_text started [] = []
lines_text started (e ∷ es) = line_text started e.0 e.1 ++ lines_text true es

abbrev AreSimple : List Expression → Type 0
AreSimple [] = ⊤
AreSimple (e ∷ es) = IsSimpleLine e.1 × AreSimple es

lines_are : (started : Bool) (es : List Expression) → AreSimple es → IsLinesText false started es (lines_text started es)
lines_are started [] simple = refl
lines_are started (e ∷ es) (here, more) =
    (line_text started e.0 e.1, lines_text true es, refl, line_is started e.0 e.1 here, lines_are true es more)

-- ---- an AS

-- its lines
abbrev system_lines : ℕ → ℕ → Bool → List ℕ → List Expression
system_lines seed place core name = (([], codes "as"), array_table) ∷ pairs (system_members seed place core name)

behind : (a b : ℕ) (s rest : List ℕ) → ((s ++ a ∷ []) ++ b ∷ []) ++ rest ≡ s ++ a ∷ b ∷ rest
behind a b s rest = append_assoc (s ++ a ∷ []) (b ∷ []) rest ∙ append_assoc s (a ∷ []) (b ∷ rest)

module _ (seed place : ℕ) (name : List ℕ)
    (hex : string_text (encode_lower (master_of seed place)) ≡ quote ∷ encode_lower (master_of seed place) ++ quote ∷ [])
    (plain : string_text (full_name name) ≡ quote ∷ full_name name ++ quote ∷ []) where
  abbrev digits : List ℕ
  digits = encode_lower (master_of seed place)

  -- its key and its name
  abbrev key_line : List ℕ
  key_line = codes "key" ++ (codes " = " ++ (string_text digits ++ line_feed ∷ []))

  abbrev name_line : List ℕ
  name_line = codes "name" ++ (codes " = " ++ (string_text (full_name name) ++ line_feed ∷ []))

  key_and_name : (rest : List ℕ) → key_line ++ (name_line ++ line_feed ∷ rest)
      ≡ codes "key = \"" ++ (digits ++ (codes "\"\nname = \"1-ff00:0:" ++ (name ++ (codes "\"\n\n" ++ rest))))
  key_and_name rest =
      rw (hex, plain)
      (ap (λ xs. codes "key = \"" ++ xs)
      (behind quote line_feed digits _
      ∙ ap (λ xs. digits ++ (codes "\"\nname = \"1-ff00:0:" ++ xs)) (behind quote line_feed name (line_feed ∷ rest))))

  spread : (rest : List ℕ) → (digits ++ (codes "\"\nname = \"1-ff00:0:" ++ (name ++ codes "\"\n\n"))) ++ rest
      ≡ digits ++ (codes "\"\nname = \"1-ff00:0:" ++ (name ++ (codes "\"\n\n" ++ rest)))
  spread rest =
      append_assoc digits (codes "\"\nname = \"1-ff00:0:" ++ (name ++ codes "\"\n\n")) rest
      ∙ ap (λ xs. digits ++ (codes "\"\nname = \"1-ff00:0:" ++ xs)) (append_assoc name (codes "\"\n\n") rest)

  system_printed : (core : Bool) (key : Key) (es : List Expression)
      → lines_text false (system_lines seed place core name ++ (key, array_table) ∷ es)
      ≡ system_text seed place core name ++ lines_text false ((key, array_table) ∷ es)
  unfolding system_text key_text
  system_printed true key es =
      let rest = lines_text false ((key, array_table) ∷ es) in
      ap (λ xs. codes "[[as]]\ncore = true\n" ++ xs) (key_and_name rest)
      ∙ sym (ap (λ xs. codes "[[as]]\ncore = true\nkey = \"" ++ xs) (spread rest))
  system_printed false key es =
      let rest = lines_text false ((key, array_table) ∷ es) in
      ap (λ xs. codes "[[as]]\ncore = false\n" ++ xs) (key_and_name rest)
      ∙ sym (ap (λ xs. codes "[[as]]\ncore = false\nkey = \"" ++ xs) (spread rest))

-- ---- the whole

hex_text : (seed place : ℕ) → place < 256 → string_text (encode_lower (master_of seed place)) ≡ quote ∷ encode_lower (master_of seed place) ++ quote ∷ []
hex_text seed place low = plain_text (encode_lower (master_of seed place)) (hex_plain (master_of seed place) (master_bytes seed place low))

abbrev link_lines : List Expression
link_lines = section ([], codes "link") (array links_data)

links_printed : lines_text false link_lines ≡ links_text
unfolding digits_of key_text string_text encoding_of escaped needs_escape quotes_after
links_printed = refl

name_text : (name : List ℕ) → list_all is_plain (full_name name) ≡ true → string_text (full_name name) ≡ quote ∷ full_name name ++ quote ∷ []
name_text name is = plain_text (full_name name) is

-- the lines behind the header after each AS
abbrev lines_5 : List Expression
lines_5 = drop 1 link_lines

abbrev lines_4 : ℕ → List Expression
lines_4 seed = pairs (system_members seed 5 false (codes "122")) ++ (([], codes "link"), array_table) ∷ lines_5

abbrev lines_3 : ℕ → List Expression
lines_3 seed = pairs (system_members seed 4 false (codes "121")) ++ (([], codes "as"), array_table) ∷ lines_4 seed

abbrev lines_2 : ℕ → List Expression
lines_2 seed = pairs (system_members seed 3 false (codes "112")) ++ (([], codes "as"), array_table) ∷ lines_3 seed

abbrev lines_1 : ℕ → List Expression
lines_1 seed = pairs (system_members seed 2 false (codes "111")) ++ (([], codes "as"), array_table) ∷ lines_2 seed

abbrev lines_0 : ℕ → List Expression
lines_0 seed = pairs (system_members seed 1 true (codes "120")) ++ (([], codes "as"), array_table) ∷ lines_1 seed

whole_printed : (seed : ℕ) → lines_text false (expressions (generated_table seed))
    ≡ system_text seed 0 true (codes "110") ++ (system_text seed 1 true (codes "120")
    ++ (system_text seed 2 false (codes "111") ++ (system_text seed 3 false (codes "112")
    ++ (system_text seed 4 false (codes "121") ++ (system_text seed 5 false (codes "122") ++ links_text)))))
unfolding needs_escape
whole_printed seed =
    system_printed seed 0 (codes "110") (hex_text seed 0 (omega arith)) (name_text (codes "110") refl) true ([], codes "as") (lines_0 seed)
    ∙ ap (λ xs. system_text seed 0 true (codes "110") ++ xs)
    (system_printed seed 1 (codes "120") (hex_text seed 1 (omega arith)) (name_text (codes "120") refl) true ([], codes "as") (lines_1 seed)
    ∙ ap (λ xs. system_text seed 1 true (codes "120") ++ xs)
    (system_printed seed 2 (codes "111") (hex_text seed 2 (omega arith)) (name_text (codes "111") refl) false ([], codes "as") (lines_2 seed)
    ∙ ap (λ xs. system_text seed 2 false (codes "111") ++ xs)
    (system_printed seed 3 (codes "112") (hex_text seed 3 (omega arith)) (name_text (codes "112") refl) false ([], codes "as") (lines_3 seed)
    ∙ ap (λ xs. system_text seed 3 false (codes "112") ++ xs)
    (system_printed seed 4 (codes "121") (hex_text seed 4 (omega arith)) (name_text (codes "121") refl) false ([], codes "as") (lines_4 seed)
    ∙ ap (λ xs. system_text seed 4 false (codes "121") ++ xs)
    (system_printed seed 5 (codes "122") (hex_text seed 5 (omega arith)) (name_text (codes "122") refl) false ([], codes "link") lines_5
    ∙ ap (λ xs. system_text seed 5 false (codes "122") ++ xs) links_printed)))))

joined : (a b c d e f g : List ℕ) → (a ++ b) ++ ((c ++ (d ++ (e ++ f))) ++ g) ≡ a ++ (b ++ (c ++ (d ++ (e ++ (f ++ g)))))
joined a b c d e f g =
    append_assoc a b _
    ∙ ap (λ xs. a ++ (b ++ xs))
    (append_assoc c (d ++ (e ++ f)) g
    ∙ ap (λ xs. c ++ xs) (append_assoc d (e ++ f) g ∙ ap (λ xs. d ++ xs) (append_assoc e f g)))

pub text_printed : (seed : ℕ) → IsDocumentText false (generated_table seed) (topology_text seed)
unfolding topology_text cores_text children_text
text_printed seed =
    subst (λ text. IsLinesText false false (expressions (generated_table seed)) text)
    (whole_printed seed ∙ sym (joined
    (system_text seed 0 true (codes "110")) (system_text seed 1 true (codes "120")) (system_text seed 2 false (codes "111"))
    (system_text seed 3 false (codes "112")) (system_text seed 4 false (codes "121")) (system_text seed 5 false (codes "122")) links_text))
    (lines_are false (expressions (generated_table seed)) simple)
  where
    simple : AreSimple (expressions (generated_table seed))
    simple = search rules
