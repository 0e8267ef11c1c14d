-- Claimed: what contracts promise to a reader rests on these words.
-- The command line as its parser sees it: which commands and arguments it has.
use Rattle.std.specs.Prelude.{ℕ, ◌∷◌, [], Some, true, codes}
use Rattle.clap.specs.Simple.{on_top}
use Rattle.clap.specs.Words.{App, Rule, Text, new_app, new_rule, with_rule, with_subcommand}
use Rattle.clap.specs.declared.builder.ArgAction.TheVariants.{Set, SetTrue}
use Rattle.clap.specs.declared.builder.value_parser.ValueParser.TheVariants.{Unsigned}

-- `--NAME N`, where N is a number in a range
abbrev pub number_rule : Text → ℕ → ℕ → Text → Rule
number_rule name least most default = record (new_rule name) {
  long = Some name;
  action = Some Set;
  value_names = 1;
  defaults = default ∷ [];
  parser = Some (Unsigned least most);
}

-- `--NAME`
abbrev pub flag_rule : Text → Rule
flag_rule name = record (new_rule name) { long = Some name; action = Some SetTrue }

-- `--NAME TEXT`
abbrev pub text_rule : Text → Rule
text_rule name = record (new_rule name) { long = Some name; action = Some Set; value_names = 1 }

-- a word that must be there
abbrev pub word_rule : Text → Rule
word_rule name = record (new_rule name) { action = Some Set; value_names = 1; required = true }

-- `[--workers N] [--lanes N] [--coarsen N] [--arena N]`, after the other arguments of a command
abbrev pub with_settings : App → App
with_settings app =
    with_rule (with_rule (with_rule (with_rule app
    (number_rule (codes "workers") 1 16 (codes "4")))
    (number_rule (codes "lanes") 1 64 (codes "8")))
    (number_rule (codes "coarsen") 0 65535 (codes "64")))
    (number_rule (codes "arena") 1 1048576 (codes "65536"))

-- `SETUP [--rows FILE]`
abbrev pub with_input : App → App
with_input app = with_rule (with_rule app (word_rule (codes "setup"))) (text_rule (codes "rows"))

-- `[--alone] [--progress] [--follow]`
abbrev pub with_running : App → App
with_running app =
    with_rule (with_rule (with_rule app
    (flag_rule (codes "alone")))
    (flag_rule (codes "progress")))
    (flag_rule (codes "follow"))

-- `run SETUP [--rows FILE] [--alone] [--progress] [--follow]`, with settings
unfoldable pub run_app : App
run_app = with_settings (with_running (with_input (new_app (codes "run"))))

-- `rows SETUP [--rows FILE] [--alone] [--progress] [--follow] [--table NAME] [--document]`, with settings
unfoldable pub rows_app : App
rows_app = with_settings (with_rule (with_rule (with_running (with_input (new_app (codes "rows"))))
    (text_rule (codes "table")))
    (flag_rule (codes "document")))

-- `filter SETUP`, with settings
unfoldable pub filter_app : App
filter_app = with_settings (with_rule (new_app (codes "filter"))
    (word_rule (codes "setup")))

-- `replicas SETUP [--rows FILE] REPORT [--progress]`, with settings
unfoldable pub replicas_app : App
replicas_app = with_settings (with_rule (with_rule (with_input (new_app (codes "replicas")))
    (word_rule (codes "report")))
    (flag_rule (codes "progress")))

-- `locks SETUP [--rows FILE]`, with settings
unfoldable pub locks_app : App
locks_app = with_settings (with_input (new_app (codes "locks")))

-- `check SETUP [--rows FILE]`, with settings
unfoldable pub check_app : App
check_app = with_settings (with_input (new_app (codes "check")))

-- the commands, of which one must be named; the words begin after the program's name
unfoldable pub calvin_app : App
calvin_app = with_subcommand (with_subcommand (with_subcommand (with_subcommand (with_subcommand (with_subcommand
    (on_top (λ s. record s {
      no_binary_name = true;
      subcommand_required = true;
      arg_required_else_help = true;
      has_version = true;
    }) (new_app (codes "calvin"))) run_app.top) rows_app.top) filter_app.top) replicas_app.top) locks_app.top)
    check_app.top
