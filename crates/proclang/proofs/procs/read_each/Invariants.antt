use Rattle.std.proofs.Common.{◌≡◌, drop, map}
use Rattle.serde_json.specs.View.{view}
use Rattle.proclang_types.specs.Procedures.{proc_syntax}
use Rattle.proclang_expressions.specs.Paths.{places}
use Rattle.proclang_expressions.specs.Walk.{each_from, appended}
use Rattle.proclang.specs.Procs.{proc_at, each_proc}
use Rattle.requests.specs.ProcLists.{AreOver}
use Rattle.proclang.proofs.procs.read_each.Given as goal

-- what the rest gives after the procedures so far
abbrev pub invariant-loop-index : goal.invariant-loop-index
invariant-loop-index l = record {
  rest : each_from (λ p before d. appended before (proc_at l.catalogue p before d)) (places l.path) l.index (map proc_syntax l.procs.procs) (map view (drop l.index l.values))
      ≡ each_proc l.catalogue (places l.path) (map view l.values);
  tables : l.procs.tables ≡ l.catalogue;
  over : AreOver l.catalogue l.procs.procs;
}
