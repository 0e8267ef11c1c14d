-- Where a batch stops.
use Rattle.std.proofs.Common.{◌≡◌, ℕ, List, length, map, Option, Some, Result, Ok, Err, IfErr, refl, sym, ap, ◌∙◌, subst}
use Rattle.catalogue.specs.Shapes.{TableShape}
use Rattle.interp.specs.Entries.{entry_shape}
use Rattle.scheduler.specs.Schedules.{Schedule, Work, phases_of}
use Rattle.sequencer.specs.Attempts.{attempts_in}
use Rattle.dispatcher.specs.declared.refusal.Refusal.{Refusal}
use Rattle.dispatcher.specs.declared.refusal.Refusal.TheVariants.{Thread, Memory}
use Rattle.engine.specs.declared.stage.Begun.{Begun as BegunOf}
use Rattle.engine.specs.declared.stage.Stage.{Stage}
use Rattle.engine.specs.declared.stage.Stage.TheVariants.{Begun}
use Rattle.engine.specs.declared.ending.Ended.{Ended}
use Rattle.engine.specs.declared.working.Interruption.{Interruption}
use Rattle.engine.specs.Batches.{entries_of}
use Rattle.engine.specs.Engines.{Unfinished}
use Rattle.dispatcher.specs.Runs.{NoneIsOut, StaysSettled}
use Rattle.engine.specs.Executions.{WaitsIn}
use Rattle.engine.specs.Stages.{IsBegun, IsInterruptedStage, refusal_in, rows_in, unfinished_in, unfinished_of}
use Rattle.dispatcher.proofs.EmptyLanes.{none_kept}

by_thread : (ran : Result (Unit {0}) Refusal) → refusal_in ran ≡ Thread → ran ≡ Err Thread
by_thread (Ok done) e = absurd cc
by_thread (Err refusal) e = ap Err e

module _ (tables : List TableShape) (first : ℕ) (old : Stage) (b : BegunOf) (s : Schedule) (h : IsBegun tables first b) (start : b.scheduler.work.start ≡ rows_in (Some old))
    (same : Some (unfinished_of b) ≡ unfinished_in (Some old)) (work : s.work ≡ b.scheduler.work) (none : NoneIsOut (phases_of s)) (settled : StaysSettled (phases_of b.scheduler) (phases_of s)) where
  abbrev now : BegunOf
  now = record { attempts = b.attempts; scheduler = s }

  pub over : s.work.tables ≡ tables
  over = ap (λ (w : Work). w.tables) work ∙ h.schedule.over

  pub begun_on : IsBegun tables first now
  begun_on = record {
    from = h.from;
    schedule = record {
      over = over;
      numbered = ap (λ (w : Work). w.first) work ∙ h.schedule.numbered;
      entries = subst (λ (w : Work). map entry_shape w.entries ≡ entries_of w.start (attempts_in b.attempts)) (sym work) h.schedule.entries;
      plans = subst (λ (w : Work). length w.plans ≡ length w.entries) (sym work) h.schedule.plans;
    };
    rest = record { keeps = none_kept s none; none_out = none };
  }

  waits_on : WaitsIn (unfinished_in (Some old)) (Some (unfinished_of now))
  waits_on = subst (λ (u : Option Unfinished). WaitsIn u (Some (unfinished_of now))) same (record { attempts = refl; none_out = none; settled = settled })

  rows : s.work.start ≡ rows_in (Some old)
  rows = ap (λ (w : Work). w.start) work ∙ start

  pub stop_by : (refusal : Refusal) → (refusal ≡ Thread → s ≡ b.scheduler) → IsInterruptedStage tables first old (record { stage = Begun now; refusal = refusal })
  stop_by Memory nothing = record { fits = begun_on; rows = rows; batch = waits_on }
  stop_by Thread nothing = record {
    fits = begun_on;
    rows = rows;
    batch = ap (λ (t : Schedule). Some (unfinished_of (record { attempts = b.attempts; scheduler = t }))) (nothing refl) ∙ same;
  }

  pub stopped_so : (r : Result Ended Interruption) (ran : Result (Unit {0}) Refusal) → IfErr r (λ stop. stop.stage ≡ Begun now) → IfErr r (λ stop. stop.refusal ≡ refusal_in ran)
      → (ran ≡ Err Thread → s ≡ b.scheduler) → IfErr r (IsInterruptedStage tables first old)
  stopped_so (Ok ended) ran stage refusal nothing = tt
  stopped_so (Err stop) ran stage refusal nothing =
      subst (λ (st : Stage). IsInterruptedStage tables first old (record { stage = st; refusal = stop.refusal })) (sym stage)
      (subst (λ (r : Refusal). IsInterruptedStage tables first old (record { stage = Begun now; refusal = r })) (sym refusal) (stop_by (refusal_in ran) (λ e. nothing (by_thread ran e))))
