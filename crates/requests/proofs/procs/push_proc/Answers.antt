use Rattle.std.proofs.Common.{◌∙◌}
use Rattle.requests.proofs.ProcLists.{proc_pushed}
use Rattle.requests.proofs.procs.push_proc.Goals as goal

pub returns-clause-pushed : goal.returns-clause-pushed
returns-clause-pushed c = (proc_pushed c.args.procs.now.entries c.insert.new.self.entries c.in_ok-name.name c.args.proc c.requires.keyed (c.in_ok-name.ensures.ok ∙ c.name.ensures) c.requires.fresh c.in_ok-insert.ensures.entries).0

pub returns-clause-keyed : goal.returns-clause-keyed
returns-clause-keyed c = (proc_pushed c.args.procs.now.entries c.insert.new.self.entries c.in_ok-name.name c.args.proc c.requires.keyed (c.in_ok-name.ensures.ok ∙ c.name.ensures) c.requires.fresh c.in_ok-insert.ensures.entries).1
