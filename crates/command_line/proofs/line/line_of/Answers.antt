use Rattle.std.proofs.Common.{◌≡◌, Some, rules, sym}
use Rattle.clap.specs.Words.{found_of, rows_of, subcommand_rows_of}
use Rattle.command_line.specs.CommandLine.{Asks}
use Rattle.command_line.proofs.Options.{name_with_rows}
use Rattle.command_line.proofs.line.line_of.Goals as goal

pub returns-in_default-settings_of-clause-none : goal.returns-in_default-settings_of-clause-none
returns-in_default-settings_of-clause-none c = λ _ line asks.
    let found = found_of c.in-Some.found.now in
    let both : subcommand_rows_of c.args.matches.now ≡ Some (c.in-Some.name.now, rows_of found) = name_with_rows _ _ _ _ (sym c.in-Some.ensures.name) (sym c.in-Some.ensures.rows) in
    let asked : Asks c.in-Some.name.now (rows_of found) line = rw both at asks in
    c.settings_of.ensures.none (search rules) line.settings asked.settings
