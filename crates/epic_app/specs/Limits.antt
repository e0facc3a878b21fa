-- The limits of the program's input. The code's constants cite these numbers, or are pinned to them by the top call.
use Rattle.std.specs.Prelude.{◌≡◌, ℕ}
use Rattle.epic_num.specs.declared.moment.TheConstants.{MAX_MOMENT}
use Rattle.epic_text.specs.declared.script.TheConstants.{MAX_COMMANDS}
use Rattle.epic_app.specs.declared.judge_file.JudgedFile.{JudgedFile}
use Rattle.epic_app.specs.declared.judge_file.JudgedFile.TheVariants.{Ledger, Verdicts}

-- the bytes of a topology
abbrev pub topology_limit : ℕ
topology_limit = 1048576

-- the bytes of a script
abbrev pub script_limit : ℕ
script_limit = 16777216

-- the bytes of the file of `hop`
abbrev pub file_limit : ℕ
file_limit = 1048576

-- the bytes of a ledger file, and of a verdict file
abbrev pub limit_of : JudgedFile → ℕ
limit_of Ledger = 268435456
limit_of Verdicts = 67108864

-- A script has at most 524,288 commands, and no moment is later than the last whose second fits 32 bits.
pub record KeepsLimits : Type 0 where
  pub commands : MAX_COMMANDS ≡ 524288
  pub moment : MAX_MOMENT ≡ 4294967295999999
