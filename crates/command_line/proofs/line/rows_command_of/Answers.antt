use Rattle.std.proofs.Common.{refl, codes}
use Rattle.clap.specs.Words.{found_of, rows_of}
use Rattle.command_line.proofs.Options.{no_setup}
use Rattle.command_line.proofs.line.rows_command_of.Goals as goal

pub returns-in-None-clause-none : goal.returns-in-None-clause-none
returns-in-None-clause-none c = λ _ command asks.
    no_setup (rows_of (found_of c.args.matches.now)) (codes "rows") command ((rw c.in-None.is at c.in_ok-input.ensures.none) refl) asks

pub returns-in-Some-clause-some : goal.returns-in-Some-clause-some
returns-in-Some-clause-some c = record {
  name = refl;
  input_is = rw c.in-Some.is at c.in_ok-input.ensures.some;
  running_is = c.running_of-running.ensures;
  listing_is = c.in_ok-listing.ensures;
}
