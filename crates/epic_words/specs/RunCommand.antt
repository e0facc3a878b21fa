-- The words after `run`, as one simple command of clap. A new option adds one rule.
use Rattle.std.specs.Prelude.{Bool, true, List, [], ◌∷◌, Some, codes}
use Rattle.std.specs.List.{list_any}
use Rattle.clap.specs.Words.{App, Row, Rule, Text, fault_of, matches_of, new_app, new_rule}
use Rattle.clap.specs.Simple.{new_shape}
use Rattle.clap.specs.declared.builder.action.ArgAction.TheVariants.{Set, SetTrue}

-- a name that has to be there
abbrev pub positional : Text → Rule
positional id = record (new_rule id) { required = true; action = Some Set }

-- `--id NAME` or `--id=NAME`, once at most
abbrev pub option : Text → Rule
option id = record (new_rule id) { long = Some id; action = Some Set }

-- `--id`, once at most and without a value
abbrev pub flag : Text → Rule
flag id = record (new_rule id) { long = Some id; action = Some SetTrue }

-- `TOPOLOGY SCRIPT [--capture FILE] [--save FILE] [--ledger FILE] [--verdicts FILE] [--makers]
-- [--budget N] [--span N]`, without `--help` and `--version`
unfoldable pub run_command : App
run_command = record (new_app (codes "run")) {
  top = record (new_shape (codes "run")) {
    rules = positional (codes "topology") ∷ positional (codes "script")
        ∷ option (codes "capture") ∷ option (codes "save")
        ∷ option (codes "ledger") ∷ option (codes "verdicts")
        ∷ flag (codes "makers") ∷ option (codes "budget") ∷ option (codes "span") ∷ [];
    no_binary_name = true;
    disable_help_flag = true;
    disable_version_flag = true;
  };
}

-- clap has a fault to answer at these words
unfoldable pub is_refused : App → List Text → Bool
is_refused command words = list_any (λ kind. true) (fault_of command words)

-- what clap finds in words that it takes: the values of each argument
unfoldable pub rows_in : App → List Text → List Row
rows_in command words = matches_of command words
