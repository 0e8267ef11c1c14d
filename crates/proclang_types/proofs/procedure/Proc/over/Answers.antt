use Rattle.std.proofs.Common.{subst, sym}
use Rattle.std.specs.Arc.{arc_value}
use Rattle.catalogue.specs.Schemas.{HaveSameSchema}
use Rattle.proclang_types.specs.Procedures.{ProcParts, proc_parts, proc_syntax}
use Rattle.proclang_types.proofs.SameSchema.{proc_fits}
use Rattle.proclang_types.proofs.procedure.Proc.over.Goals as goal

pub invariant_of-result : goal.invariant_of-result
invariant_of-result c =
    proc_fits c.self.inside.catalogue c.args.catalogue (subst (λ (p : ProcParts). HaveSameSchema p.tables c.args.catalogue) (sym c.self.view_is) c.requires)
    (proc_syntax (proc_parts c.self.inside.catalogue (arc_value c.self.inside.parts))) c.self.invariant
