use Rattle.std.proofs.Common.{rules, ◌≡◌, map, sym, ap, ◌∙◌}
use Rattle.interp.specs.Entries.{entry_shape}
use Rattle.scheduler.specs.Schedules.{Schedule}
use Rattle.sequencer.specs.Attempts.{attempts_in}
use Rattle.engine.specs.Batches.{entries_of}
use Rattle.engine.proofs.beginning.begin.Goals as goal

pub returns-in-Ok-new-clause-schedule : goal.returns-in-Ok-new-clause-schedule
returns-in-Ok-new-clause-schedule c =
    let made = c.in-Ok-new.ensures.start in
    let entries : c.in-Ok-new.scheduler.work.entries ≡ c.in-Ok-prepare_attempts.entries.items = ap (λ (s : Schedule). s.work.entries) made in
    let start : c.in-Ok-new.scheduler.work.start ≡ c.args.store.rows = ap (λ (s : Schedule). s.work.start) made in
    record {
      over = search rules;
      numbered = search rules;
      entries = ap (map entry_shape) entries ∙ c.in-Ok-prepare_attempts.ensures.exact ∙ ap (λ db. entries_of db (attempts_in c.args.attempts.now)) (sym start);
      plans = search rules;
    }
