use Rattle.std.proofs.Common.{◌≡◌, None, rules, refl, codes}
use Rattle.clap.specs.Words.{found_of, rows_of}
use Rattle.command_line.proofs.Options.{flag_read, no_report, no_setup}
use Rattle.command_line.proofs.line.replicas_of.Goals as goal

pub returns-in_default-clause-none : goal.returns-in_default-clause-none
returns-in_default-clause-none c = λ _ command asks.
    no_setup (rows_of (found_of c.args.matches.now)) (codes "replicas") command (c.in_ok-input.ensures.none (search rules)) asks

pub returns-in_default-2-clause-none : goal.returns-in_default-2-clause-none
returns-in_default-2-clause-none c = λ _ command asks.
    no_report (rows_of (found_of c.args.matches.now)) command (search rules) asks

pub returns-clause-some : goal.returns-clause-some
returns-clause-some c = record {
  name = refl;
  input_is = search rules;
  progress_is = flag_read (found_of c.args.matches.now) (codes "progress") _ c.get_flag-progress.ensures.value c.get_flag-progress.ensures.other;
  report_is = search rules;
}
