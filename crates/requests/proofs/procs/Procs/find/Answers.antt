use Rattle.requests.specs.ProcLists.{procs_of}
use Rattle.requests.proofs.ProcLists.{found_over}
use Rattle.requests.proofs.procs.Procs.find.Goals as goal

pub returns-clause-tables : goal.returns-clause-tables
returns-clause-tables c = rw (← c.self.view_is) (found_over c.self.inside.catalogue.value c.args.name.now (procs_of c.self.inside.procs.entries) c.find_proc.result c.self.invariant.procs.over c.find_proc.ensures)
