use Rattle.std.proofs.Common.{refl, codes}
use Rattle.clap.specs.Words.{found_of, rows_of}
use Rattle.command_line.proofs.Options.{no_setup}
use Rattle.command_line.proofs.line.filter_of.Goals as goal

pub returns-in-None-clause-none : goal.returns-in-None-clause-none
returns-in-None-clause-none c = λ _ command asks.
    no_setup (rows_of (found_of c.args.matches.now)) (codes "filter") command (rw c.in-None.is at c.in_ok-setup.ensures) asks

pub returns-in-Some-clause-some : goal.returns-in-Some-clause-some
returns-in-Some-clause-some c = record {
  name = refl;
  setup_is = rw c.in-Some.is at c.in_ok-setup.ensures;
}
