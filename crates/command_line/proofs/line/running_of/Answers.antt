use Rattle.std.proofs.Common.{codes}
use Rattle.clap.specs.Words.{found_of}
use Rattle.command_line.proofs.Options.{flag_read}
use Rattle.command_line.proofs.line.running_of.Goals as goal

pub returns : goal.returns
returns c =
    let found = found_of c.args.matches.now in
    record {
      alone_is = flag_read found (codes "alone") _ c.get_flag-alone.ensures.value c.get_flag-alone.ensures.other;
      progress_is = flag_read found (codes "progress") _ c.get_flag-progress.ensures.value c.get_flag-progress.ensures.other;
      follow_is = flag_read found (codes "follow") _ c.get_flag-follow.ensures.value c.get_flag-follow.ensures.other;
    }
