use Rattle.std.proofs.Common.{sym, subst, Option}
use Rattle.progress.specs.Accounts.{Account}
use Rattle.engine.specs.Stages.{IsToldSettled}
use Rattle.engine.proofs.Shown.{told_after}
use Rattle.engine.proofs.engine.Engine.resume_in.Goals as goal

pub invariant_of-self : goal.invariant_of-self
invariant_of-self g c =
    let call = c.resume_in-ended in
    let core = c.self.inside.core in
    let was = subst (λ (told : Option Account). IsToldSettled core told) (sym c.in-Some.ensures.value) c.self.invariant in
    told_after core call.new.self _ call.result c.in-Some.publisher call.new.listener.publisher c.into_publisher.result c.is_ok.result
    c.is_ok.ensures.value c.into_publisher.ensures was.ended call.ensures.done call.ensures.told call.ensures.onward
