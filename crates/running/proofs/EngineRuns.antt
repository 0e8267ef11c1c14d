-- Runs of logs on an engine.
use Rattle.std.proofs.Common.{◌≡◌, ◌||◌, ℕ, List, [], Bool, true, false, Option, None, is_some, Result, Err, OnOk, refl, sym, ap, ◌∙◌, subst}
use Rattle.std.specs.Borrow.{GName}
use Rattle.std.specs.Option.{IfSome}
use Rattle.std.proofs.lemmas.Bool.{both_ways}
use Rattle.devices.specs.LineReader.{left_for}
use Rattle.batch_log.specs.declared.fault.LogFaultKind.TheVariants.{Memory}
use Rattle.batch_log.specs.declared.reader.LogReader.{LogReader}
use Rattle.batch_log.specs.Reader as readers
use Rattle.batch_log.specs.Reader.{failed_in, left_in, origin_of, source_of, unread}
use Rattle.engine.specs.Engines.{EngineParts, is_busy}
use Rattle.engine.specs.Executions.{KeepsSetting}
use Rattle.running.specs.declared.run_fault.RunFault.{RunFault}
use Rattle.running.specs.declared.run_fault.RunFault.TheVariants as runs
use Rattle.running.specs.Followed.{LeavesBetween}
use Rattle.running.specs.Reports.{rows_after}
use Rattle.running.specs.Runs.{device_with, Device, IsRunOfLog}
use Rattle.running.specs.Starts.{start_on}
use Rattle.running.proofs.RunEnds.{nothing_run}
use Rattle.running.proofs.Runs.{keeps_still}
use Rattle.running.specs.declared.reading.Ended.{Ended}
use Rattle.running.specs.declared.reading.Reading.{Reading}
use Rattle.running.specs.EngineRuns.{has_ended, IsEngineRun}
use Rattle.running.proofs.Seen.{first, is_feed, last, rest}

module _ {S K : Type 0} (left : S → Option (List ℕ)) (failed : S → Bool) (taken : K → Option (List ℕ)) (broken : K → Bool) (reading : Reading) where
  -- allocation failed before anything was read
  pub nothing_done : (engine : EngineParts) (source : S) (sink : K) (ended : Ended) → ended ≡ record { result = Err (runs.Log (record { kind = Memory; line = 0 })); feed = None } →
      IsEngineRun left failed taken broken reading engine engine source source sink sink ended
  nothing_done engine source sink ended is = subst (λ (e : Ended). IsEngineRun left failed taken broken reading engine engine source source sink sink e) (sym is) (record {
    run = nothing_run (runs.Log (record { kind = Memory; line = 0 })) (start_on engine reading.digest) (left_for reading.feed (left source)) (taken sink) (failed source) (broken sink) refl;
    setting = keeps_still engine;
    idle = tt;
    rows = tt;
    followed = λ e. absurd (both_ways false refl e);
    feed = λ e. absurd (both_ways false refl e);
  })

  -- a reader was made of the source, and given back
  pub of_reader : (old new : EngineParts) (begun given : S) (reader spent : LogReader S) (name : GName) (sink filled : K) (result : Result ℕ RunFault) (feed : Option ℕ) →
      origin_of reader ≡ record { name = name; is_feed = reading.feed } → source_of reader ≡ begun → unread left reader ≡ left_for reading.feed (left begun) → readers.has_ended reader ≡ false →
      origin_of spent ≡ origin_of reader → given ≡ source_of spent → is_some feed ≡ readers.has_ended spent →
      IsRunOfLog (start_on old reading.digest) (device_with (unread left reader) (failed_in failed reader)) (device_with (left_in left spent) (failed_in failed spent))
      (device_with (taken sink) (broken sink)) (device_with (taken filled) (broken filled)) result →
      KeepsSetting old new → OnOk result (is_busy new ≡ false) → OnOk result (IfSome (unread left reader) (λ log. new.rows ≡ rows_after (start_on old reading.digest) log)) →
      (readers.has_ended spent ≡ true → LeavesBetween (start_on old reading.digest) (unread left reader) (left_in left spent) (taken sink) (taken filled) new) →
      (readers.has_ended spent ≡ true → IfSome (left (source_of spent)) (λ bytes. bytes ≡ [])) →
      IsEngineRun left failed taken broken reading old new begun given sink filled (record { result = result; feed = feed })
  of_reader old new begun given reader spent name sink filled result feed same source unread_is goes_on still gives flag run setting idle rows followed ends =
      let before = first left failed reading.feed begun given reader spent name same source unread_is goes_on still gives in
      let later = last left failed reading.feed begun given reader spent name same source unread_is goes_on still gives in
      let rest_is = rest left failed reading.feed begun given reader spent name same source unread_is goes_on still gives in
      record {
        run = subst (λ (d : Device × Device). IsRunOfLog (start_on old reading.digest) d.0 d.1 (device_with (taken sink) (broken sink)) (device_with (taken filled) (broken filled)) result)
            (λ i. (before i, (later ∙ ap (λ b. device_with (left_for reading.feed (left given)) (b || failed given)) (sym flag)) i)) run;
        setting = setting;
        idle = idle;
        rows = subst (λ (o : Option (List ℕ)). OnOk result (IfSome o (λ log. new.rows ≡ rows_after (start_on old reading.digest) log))) unread_is rows;
        followed = λ e. subst (λ (d : Option (List ℕ) × Option (List ℕ)). LeavesBetween (start_on old reading.digest) d.0 d.1 (taken sink) (taken filled) new)
            (λ i. (unread_is i, rest_is i)) (followed (sym flag ∙ e));
        feed = λ e. (
          is_feed left failed reading.feed begun given reader spent name same source unread_is goes_on still gives (sym flag ∙ e),
          subst (λ (s : S). IfSome (left s) (λ bytes. bytes ≡ [])) (sym gives) (ends (sym flag ∙ e)),
        );
      }

  -- a log that is no feed
  pub of_log : (old new : EngineParts) (source spent : S) (sink filled : K) (ended : Ended) → reading.feed ≡ false → IsEngineRun left failed taken broken reading old new source spent sink filled ended →
      IsRunOfLog (start_on old reading.digest) (device_with (left source) (failed source)) (device_with (left spent) (failed spent)) (device_with (taken sink) (broken sink)) (device_with (taken filled) (broken filled)) ended.result
  of_log old new source spent sink filled ended none run =
      let goes_on : has_ended ended ≡ false = not_ended (has_ended ended) (λ e. (run.feed e).0) in
      subst (λ (d : Device × Device). IsRunOfLog (start_on old reading.digest) d.0 d.1 (device_with (taken sink) (broken sink)) (device_with (taken filled) (broken filled)) ended.result)
      (λ i. (device_with (left_for (none i) (left source)) (failed source), device_with (left_for (none i) (left spent)) (goes_on i || failed spent))) run.run
    where
      not_ended : (b : Bool) → (b ≡ true → reading.feed ≡ true) → b ≡ false
      not_ended true h = absurd (both_ways reading.feed none (h refl))
      not_ended false h = refl
