-- The line that the errors get.
use Rattle.std.specs.Prelude.{ℕ, List, codes, decimal}
use Rattle.epic_topo.specs.Words.{kind_word, key_word}
use Rattle.epic_topo.specs.declared.fault.TopoKey.{TopoKey}
use Rattle.epic_topo.specs.declared.fault.TopoKind.{TopoKind}
use Rattle.epic_text.specs.declared.script.ScriptKind.{ScriptKind}
use Rattle.epic_text.specs.declared.script.ScriptKind.TheVariants.{NotText, UnknownVerb, WordCount, BadWord, TooMany}
use Rattle.epic_record.specs.declared.fault.FileKind.{FileKind}
use Rattle.epic_record.specs.declared.fault.FileKind.TheVariants as file
use Rattle.epic_feed.specs.declared.damage.Damage.{Damage}
use Rattle.epic_feed.specs.Damages.{offset_of, word_of}
use Rattle.epic_app.specs.declared.judge_file.JudgedFile.{JudgedFile}
use Rattle.epic_app.specs.declared.judge_file.JudgedFile.TheVariants.{Ledger, Verdicts}
use Rattle.epic_app.specs.HopReport.{◌⊕◌}

abbrev pub words_line : List ℕ
words_line = codes "epic: words\n"

abbrev pub topology_line : TopoKind → TopoKey → ℕ → List ℕ
topology_line kind key item =
    codes "epic: topology " ⊕ (kind_word kind ⊕ (codes " " ⊕ (key_word key ⊕ (codes " " ⊕ (decimal item ⊕ codes "\n")))))

abbrev pub long_topology_line : List ℕ
long_topology_line = codes "epic: topology too-long text 0\n"

abbrev pub kind_text : ScriptKind → List ℕ
kind_text NotText = codes "not-text"
kind_text UnknownVerb = codes "unknown-verb"
kind_text WordCount = codes "word-count"
kind_text (BadWord word) = codes "bad-word " ⊕ decimal word
kind_text TooMany = codes "too-many"

abbrev pub named_line : ℕ → List ℕ → List ℕ
named_line line name = codes "epic: script " ⊕ (decimal line ⊕ (codes " " ⊕ (name ⊕ codes "\n")))

-- a script, or the file of `hop`, is refused at a line
abbrev pub fault_line : ℕ → ScriptKind → List ℕ
fault_line line kind = named_line line (kind_text kind)

abbrev pub too_long_line : List ℕ
too_long_line = codes "epic: script too-long\n"

abbrev pub read_line : List ℕ → List ℕ
read_line name = codes "epic: read " ⊕ (name ⊕ codes "\n")

-- the damage of a capture, and where it is
abbrev pub capture_line : Damage → List ℕ
capture_line damage =
    codes "epic: capture " ⊕ (word_of damage ⊕ (codes " " ⊕ (decimal (offset_of damage) ⊕ codes "\n")))

abbrev pub file_word : JudgedFile → List ℕ
file_word Ledger = codes "ledger"
file_word Verdicts = codes "verdicts"

abbrev pub file_kind_text : FileKind → List ℕ
file_kind_text file.NotText = codes "not-text"
file_kind_text file.UnknownVerb = codes "unknown-verb"
file_kind_text file.WordCount = codes "word-count"
file_kind_text (file.BadWord word) = codes "bad-word " ⊕ decimal word
file_kind_text file.BadPlace = codes "bad-place"
file_kind_text file.Missing = codes "missing"
file_kind_text file.Extra = codes "extra"
file_kind_text file.TooLong = codes "too-long"

abbrev pub named_file_line : JudgedFile → ℕ → List ℕ → List ℕ
named_file_line which line name =
    codes "epic: " ⊕ (file_word which ⊕ (codes " " ⊕ (decimal line ⊕ (codes " " ⊕ (name ⊕ codes "\n")))))

-- a file that is judged is refused at a line; 0 stands for the whole file
abbrev pub file_line : JudgedFile → ℕ → FileKind → List ℕ
file_line which line kind = named_file_line which line (file_kind_text kind)

abbrev pub write_line : List ℕ
write_line = codes "epic: write\n"

abbrev pub memory_line : List ℕ
memory_line = codes "epic: memory\n"
