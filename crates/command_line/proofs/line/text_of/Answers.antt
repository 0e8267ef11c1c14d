use Rattle.clap.specs.Words.{found_of}
use Rattle.command_line.proofs.Options.{none_read, text_read}
use Rattle.command_line.proofs.line.text_of.Goals as goal

pub returns-in_ok-from_str-in-Some : goal.returns-in_ok-from_str-in-Some
returns-in_ok-from_str-in-Some c = text_read (found_of c.args.matches.now) c.args.name.now _ c.in-Some.text.now c.in-Some.ensures c.in_ok-from_str-in-Some.ensures.ok

pub returns-in-None : goal.returns-in-None
returns-in-None c = none_read (found_of c.args.matches.now) c.args.name.now c.in-None.ensures
