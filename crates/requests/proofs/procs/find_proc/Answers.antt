use Rattle.requests.proofs.ProcLists.{proc_found}
use Rattle.requests.proofs.procs.find_proc.Goals as goal

pub returns : goal.returns
returns c = proc_found c.args.procs.now c.args.name.now c.get.result c.requires c.get.ensures.value
