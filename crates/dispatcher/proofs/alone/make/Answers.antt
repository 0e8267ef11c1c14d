use Rattle.std.proofs.Common.{◌≡◌, true, inl, inr, ap, ◌∙◌, subst}
use Rattle.scheduler_core.specs.declared.event.Event.{Event}
use Rattle.scheduler_core.specs.Events.{step}
use Rattle.scheduler.specs.Schedules.{phases_of}
use Rattle.scheduler.specs.Moments.{can_make}
use Rattle.dispatcher.proofs.Onward.{hears_nothing}
use Rattle.dispatcher.proofs.Steps.{admit_told, lend_told, run_told, settle_told}
use Rattle.dispatcher.proofs.alone.make.Goals as goal

pub tell-requires-clause-others : goal.tell-requires-clause-others
tell-requires-clause-others g c =
    let s = c.args.scheduler.now in
    (settle_told s c.step.new.self (g.L.Listener.account c.args.listener.now) c.step.ensures.work c.requires.told c.in-Settle.no
    (subst (λ (e : Event). can_make s e ≡ true) c.in-Settle.is c.requires.enabled)
    (c.in-Made.ensures.answer.1 ∙ ap (step s.work.first (phases_of s)) c.in-Settle.is)).1

pub returns-in-Admit : goal.returns-in-Admit
returns-in-Admit g c =
    let s = c.args.scheduler.now in
    let new = c.step.new.self in
    let a = g.L.Listener.account c.args.listener.now in
    let work = c.step.ensures.work in
    let made = c.in-Made.ensures.answer.1 in
    record {
      work = work;
      keeps = c.step.ensures.keeps;
      made = made;
      err = tt;
      told = (
        elim c.in-Admit.is [
          | inl e ↦ admit_told s new a work c.requires.told (made ∙ ap (step s.work.first (phases_of s)) e)
          | inr other ↦ elim other [
            | inl e ↦ lend_told s new a work c.requires.told e.0 (subst (λ (x : Event). can_make s x ≡ true) e.1 c.requires.enabled)
                (made ∙ ap (step s.work.first (phases_of s)) e.1)
            | inr e ↦ run_told s new a work c.requires.told e.0 (subst (λ (x : Event). can_make s x ≡ true) e.1 c.requires.enabled)
                (made ∙ ap (step s.work.first (phases_of s)) e.1)
          ]
        ],
        hears_nothing a,
      );
    }
