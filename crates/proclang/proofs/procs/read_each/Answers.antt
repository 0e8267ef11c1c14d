use Rattle.std.proofs.Common.{◌∷◌, ◌++◌, [], map}
use Rattle.serde_json.specs.View.{view}
use Rattle.proclang_types.specs.Procedures.{proc_syntax}
use Rattle.proclang_expressions.specs.Paths.{places}
use Rattle.proclang.proofs.TypedProcs.{proc_fresh, not_named}
use Rattle.proclang.proofs.procs.read_each.Goals as goal

pub push-requires-clause-name : goal.push-requires-clause-name
push-requires-clause-name c = (proc_fresh c.args.catalogue.now (places c.args.path.now ++ c.loop-index.index ∷ []) (map proc_syntax c.loop-index.procs.procs) (view c.index-values-index.result) (proc_syntax c.in_ok-proc.proc) c.in_ok-proc.ensures.exact).0

pub push-requires-clause-fresh : goal.push-requires-clause-fresh
push-requires-clause-fresh c = not_named c.in_ok-proc.proc.name c.loop-index.procs.procs (proc_fresh c.args.catalogue.now (places c.args.path.now ++ c.loop-index.index ∷ []) (map proc_syntax c.loop-index.procs.procs) (view c.index-values-index.result) (proc_syntax c.in_ok-proc.proc) c.in_ok-proc.ensures.exact).1
