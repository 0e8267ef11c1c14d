use Rattle.std.proofs.Common.{◌∙◌, sym}
use Rattle.requests.proofs.ProcLists.{named_used}
use Rattle.proclang.proofs.read_proc.has_proc.Goals as goal

pub returns : goal.returns
returns c = c.has.ensures ∙ sym (named_used c.args.name.now c.args.earlier.now.procs)
