use Rattle.std.proofs.Common.{inl, inr, refl}
use Rattle.calvin.specs.Inputs.{paths_of}
use Rattle.calvin.proofs.CommandRuns.{locks_at}
use Rattle.calvin.proofs.commands.locks.Goals as goal

pub returns-in-Err-plans_of : goal.returns-in-Err-plans_of
returns-in-Err-plans_of g c =
    inr (locks_at (g.F.Files.holds c.args.files.now) (paths_of c.args.input.now) _ _ _ _ _ _ c.in-Ok.document c.plans_of.result _ c.in-Ok.ensures.setup c.plans_of.ensures c.in-Err-plans_of.is (c.refused.ensures, refl))

pub returns-in-Ok-print : goal.returns-in-Ok-print
returns-in-Ok-print g c =
    inr (locks_at (g.F.Files.holds c.args.files.now) (paths_of c.args.input.now) _ _ _ _ _ _ c.in-Ok.document c.plans_of.result _ c.in-Ok.ensures.setup c.plans_of.ensures c.in-Ok-plans_of.is
    (inl (refl, rw c.deref.ensures at c.in-Ok-print.ensures.text)))

pub returns : goal.returns
returns g c =
    inr (locks_at (g.F.Files.holds c.args.files.now) (paths_of c.args.input.now) _ _ _ _ _ _ c.in-Ok.document c.plans_of.result _ c.in-Ok.ensures.setup c.plans_of.ensures c.in-Ok-plans_of.is
    (inr (inl (c.in-Err-print.ensures.status.0, rw c.deref.ensures at c.print.ensures.front, c.in-Err-print.ensures.status.1))))
