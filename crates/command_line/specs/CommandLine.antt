-- Claimed: what contracts promise to a reader rests on these words.
-- What a command line asks for.
use Rattle.std.specs.Prelude.{◌≡◌, ℕ, List, [], Bool, true, false, Option, Some, None, option_map, codes, string_bytes, ⊤}
use Rattle.std.specs.Str.Parse.{IsNumeral, digits_value, without_leading_plus}
use Rattle.clap.specs.Words.{Row, Text, fault_of, first_of, one_of, subcommand_of}
use Rattle.command_line.specs.declared.command.Command.{Command}
use Rattle.command_line.specs.declared.command.Command.TheVariants.{Check, Filter, Locks, Replicas, Rows, Run}
use Rattle.command_line.specs.declared.command.Input.{Input}
use Rattle.command_line.specs.declared.command.Line.{Line}
use Rattle.command_line.specs.declared.command.Listing.{Listing}
use Rattle.command_line.specs.declared.command.Running.{Running}
use Rattle.command_line.specs.declared.line.LineFault.{LineFault}
use Rattle.command_line.specs.declared.line.LineFault.TheVariants.{NoMemory, Refused}
use Rattle.dispatcher.specs.declared.settings.Settings.{Settings}
use Rattle.command_line.specs.Words.{calvin_app}

-- the argument is this number in decimal
pub record IsNumber (rows : List Row) (id : Text) (n : ℕ) : Type 0 where
  pub text : Text
  pub given : one_of id rows ≡ Some text
  pub numeral : IsNumeral 10 (without_leading_plus text)
  pub value : n ≡ digits_value 10 (without_leading_plus text)

-- the flag is set or not
pub record IsFlag (rows : List Row) (id : Text) (flag : Bool) : Type 0 where
  pub set : one_of id rows ≡ Some (codes "true") → flag ≡ true
  pub unset : one_of id rows ≡ Some (codes "false") → flag ≡ false

-- rule: option.range
-- each option is a setting
pub record AreSettings (rows : List Row) (settings : Settings) : Type 0 where
  pub workers : IsNumber rows (codes "workers") settings.workers
  pub lanes : IsNumber rows (codes "lanes") settings.lanes
  pub threshold : IsNumber rows (codes "coarsen") settings.threshold
  pub arena : IsNumber rows (codes "arena") settings.arena

-- `SETUP [--rows FILE]`
pub record IsInput (rows : List Row) (input : Input) : Type 0 where
  pub setup_is : first_of (codes "setup") rows ≡ Some (string_bytes input.setup)
  pub rows_is : first_of (codes "rows") rows ≡ option_map string_bytes input.rows

-- `[--alone] [--progress] [--follow]`
pub record IsRunning (rows : List Row) (running : Running) : Type 0 where
  pub alone_is : IsFlag rows (codes "alone") running.alone
  pub progress_is : IsFlag rows (codes "progress") running.progress
  pub follow_is : IsFlag rows (codes "follow") running.follow

-- `[--table NAME] [--document]`
pub record IsListing (rows : List Row) (listing : Listing) : Type 0 where
  pub table_is : first_of (codes "table") rows ≡ option_map string_bytes listing.table
  pub document_is : IsFlag rows (codes "document") listing.document

-- the command, by its name and its arguments
pub record IsRun (word : Text) (rows : List Row) (input : Input) (running : Running) : Type 0 where
  pub name : word ≡ codes "run"
  pub input_is : IsInput rows input
  pub running_is : IsRunning rows running

-- `rows`
pub record IsRows (word : Text) (rows : List Row) (input : Input) (running : Running) (listing : Listing)
    : Type 0 where
  pub name : word ≡ codes "rows"
  pub input_is : IsInput rows input
  pub running_is : IsRunning rows running
  pub listing_is : IsListing rows listing

-- `filter SETUP`
pub record IsFilter (word : Text) (rows : List Row) (setup : Text) : Type 0 where
  pub name : word ≡ codes "filter"
  pub setup_is : first_of (codes "setup") rows ≡ Some setup

-- a command that has no arguments but its setup and rows
pub record IsOfInput (name word : Text) (rows : List Row) (input : Input) : Type 0 where
  pub name_is : word ≡ name
  pub input_is : IsInput rows input

-- `replicas`, with the path REPORT, and whether progress is asked for
pub record IsReplicas (word : Text) (rows : List Row) (input : Input) (progress : Bool) (report : Text) : Type 0 where
  pub name : word ≡ codes "replicas"
  pub input_is : IsInput rows input
  pub progress_is : IsFlag rows (codes "progress") progress
  pub report_is : first_of (codes "report") rows ≡ Some report

-- the words ask for this command
abbrev pub IsCommand : Text → List Row → Command → Type 0
IsCommand name rows (Run input running) = IsRun name rows input running
IsCommand name rows (Rows input running listing) = IsRows name rows input running listing
IsCommand name rows (Filter setup) = IsFilter name rows (string_bytes setup)
IsCommand name rows (Locks input) = IsOfInput (codes "locks") name rows input
IsCommand name rows (Check input) = IsOfInput (codes "check") name rows input
IsCommand name rows (Replicas input progress report) = IsReplicas name rows input progress (string_bytes report)

-- what the name and the arguments of a command ask for
pub record Asks (name : Text) (rows : List Row) (line : Line) : Type 0 where
  pub command : IsCommand name rows line.command
  pub settings : AreSettings rows line.settings

-- the words, as the parser cuts them into a command's name and its arguments, ask for the line
abbrev pub AsksFor : Option (Text × List Row) → Line → Type 0
AsksFor None line = ⊥
AsksFor (Some p) line = Asks p.0 p.1 line

-- the parser takes the words, and what it cuts them into asks for the line
abbrev pub IsAskedFor : List Text → Line → Type 0
IsAskedFor words line = (fault_of calvin_app words ≡ []) × AsksFor (subcommand_of calvin_app words) line

-- the words were refused, and no memory
abbrev pub IsRefused : LineFault → Type 0
IsRefused (Refused text) = ⊤
IsRefused NoMemory = ⊥
