use Rattle.std.proofs.Common.{codes}
use Rattle.clap.specs.Words.{found_of}
use Rattle.command_line.proofs.Options.{flag_read}
use Rattle.command_line.proofs.line.listing_of.Goals as goal

pub returns : goal.returns
returns c = record {
  table_is = c.in_ok-table.ensures;
  document_is = flag_read (found_of c.args.matches.now) (codes "document") _ c.get_flag-document.ensures.value c.get_flag-document.ensures.other;
}
