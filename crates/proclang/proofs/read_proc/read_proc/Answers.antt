use Rattle.std.proofs.Common.{string_bytes}
use Rattle.proclang_expressions.specs.Paths.{places}
use Rattle.proclang_forms.specs.ProcForms.{proc_parts_of}
use Rattle.proclang.specs.Procs.{parts_view}
use Rattle.proclang.proofs.TypedProcs.{parts_fit}
use Rattle.proclang.proofs.read_proc.read_proc.Goals as goal

pub new-requires : goal.new-requires
new-requires c = parts_fit c.args.catalogue.now (places c.args.path.now) (proc_parts_of c.in-Some.form) (string_bytes c.in_ok-name.name) (parts_view c.in_ok-parts.parts) c.in_ok-parts.ensures
