use Rattle.std.proofs.Common.{map, sym, ◌∙◌}
use Rattle.serde_json.specs.View.{view}
use Rattle.proclang_types.specs.Procedures.{proc_syntax}
use Rattle.proclang.specs.BrokenProcs.{procedures_faults}
use Rattle.proclang.specs.Procs.{procs_at}
use Rattle.proclang.proofs.FirstProcs.{procs_first, fault_first, fault_none, none_broken}
use Rattle.proclang.proofs.SaidProcs.{procs_found, procs_read}
use Rattle.proclang.proofs.procs.read_procs.Goals as goal

pub returns-in-Ok-clause-found : goal.returns-in-Ok-clause-found
returns-in-Ok-clause-found c = procs_found c.args.catalogue.now (view c.args.document.now) (map proc_syntax c.in-Ok.procs.procs) c.in-Ok.ensures.exact

pub returns-in-Ok-clause-only : goal.returns-in-Ok-clause-only
returns-in-Ok-clause-only c = λ ps says. sym (procs_read c.args.catalogue.now (view c.args.document.now) ps says) ∙ c.in-Ok.ensures.exact

pub returns-in-Err-clause-only : goal.returns-in-Err-clause-only
returns-in-Err-clause-only c = λ ps says known. sym (procs_read c.args.catalogue.now (view c.args.document.now) ps says) ∙ c.in-Err.ensures.exact known

pub returns-in-Err-clause-first : goal.returns-in-Err-clause-first
returns-in-Err-clause-first c = fault_first c.in-Err.fault (procs_at c.args.catalogue.now (view c.args.document.now)) (procedures_faults c.args.catalogue.now (view c.args.document.now)) c.in-Err.ensures.exact (procs_first c.args.catalogue.now (view c.args.document.now))

pub returns-in-Err-clause-none : goal.returns-in-Err-clause-none
returns-in-Err-clause-none c = fault_none c.in-Err.fault (procs_at c.args.catalogue.now (view c.args.document.now)) (procedures_faults c.args.catalogue.now (view c.args.document.now)) c.in-Err.ensures.exact (procs_first c.args.catalogue.now (view c.args.document.now))

pub returns-in-Ok-clause-unbroken : goal.returns-in-Ok-clause-unbroken
returns-in-Ok-clause-unbroken c = none_broken (map proc_syntax c.in-Ok.procs.procs) (procs_at c.args.catalogue.now (view c.args.document.now)) (procedures_faults c.args.catalogue.now (view c.args.document.now)) c.in-Ok.ensures.exact (procs_first c.args.catalogue.now (view c.args.document.now))
