use Rattle.std.proofs.Common.{◌≡◌, None, subst, sym}
use Rattle.requests.specs.ProcLists.{ProcsParts, proc_named}
use Rattle.requests.proofs.ProcLists.{map_pushed}
use Rattle.requests.proofs.procs.Procs.push.Goals as goal

pub invariant_of-self : goal.invariant_of-self
invariant_of-self c =
    map_pushed c.self.inside.catalogue.value c.self.inside.procs.entries c.push_proc.new.procs.entries c.args.proc c.push_proc.result c.self.invariant
    (subst (λ (v : ProcsParts). c.args.proc.tables ≡ v.tables) (sym c.self.view_is) c.requires.tables)
    c.requires.name
    (subst (λ (v : ProcsParts). proc_named v.procs c.args.proc.name ≡ None) (sym c.self.view_is) c.requires.fresh)
    c.push_proc.ensures.pushed c.push_proc.ensures.keyed c.push_proc.ensures.same
