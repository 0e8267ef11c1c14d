-- Jobs that were lent can be settled.
use Rattle.std.proofs.Common.{◌≡◌, ◌-◌, Option, Some, None, slice_get, sym, ap, ◌∙◌, subst}
use Rattle.meaning.specs.declared.outcome.Outcome.{Outcome}
use Rattle.scheduler.specs.JobRuns.{JobOf, ComesOf}
use Rattle.scheduler.specs.declared.slot.Slot.TheVariants.{Lent}
use Rattle.scheduler.specs.Schedules.{Work, Schedule}
use Rattle.scheduler.specs.Jobs.{IsLentAt, LentJobsComeBack}

same_number : (job : JobOf) (o : Option Outcome) (back : JobOf) → ComesOf job o back → back.no ≡ job.no
same_number job None back e = ap (λ (j : JobOf). j.no) e
same_number job (Some outcome) back e = ap (λ (j : JobOf). j.no) e.0

pub comes_back : LentJobsComeBack
comes_back old new job done l c =
    let number : done.job.no ≡ job.no = same_number job done.outcome done.job c in
    let work : new.work ≡ old.work = ap (λ (s : Schedule). s.work) l.new_is in
    let place : job.no - old.work.first ≡ done.job.no - new.work.first = ap (λ k. k - old.work.first) (sym number) ∙ ap (λ (w : Work). done.job.no - w.first) (sym work) in
    record {
      out = subst (λ k. slice_get new.slots k ≡ Some Lent) place l.out;
      lent = job;
      was_lent = subst (λ k. IsLentAt new.work k job) place (subst (λ (w : Work). IsLentAt w (job.no - old.work.first) job) (sym work) l.lent);
      comes = c;
    }
