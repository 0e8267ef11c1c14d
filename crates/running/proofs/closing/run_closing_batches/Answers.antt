use Rattle.std.proofs.Common.{◌≡◌, ℕ, ◌+◌, ◌-◌, ◌∙◌, ◌≤◌, ◌<◌, length, refl, sym, arith, ap, subst}
use Rattle.std.proofs.Math.Bridge.{le_prop}
use Rattle.std.proofs.Math.Logic.{∥∥₁_elim, ∥∥₁_map}
use Rattle.engine.specs.Engines.{EngineParts}
use Rattle.running.specs.Reported.{IsAfterLog}
use Rattle.running.specs.Standings.{standing_of}
use Rattle.running.proofs.Closers.{HasClosed-cut, HasClosed-next, HasClosed-none, HasClosed-spent, HasClosed-uncarried}
use Rattle.running.proofs.Reported.{room_after_log, IsAfterLog-next}
use Rattle.running.proofs.RunEnds.{or_nothing}
use Rattle.running.proofs.closing.run_closing_batches.Goals as goal

pub loop-turn-init : goal.loop-turn-init
loop-turn-init g c = record {
  same = record { procs = refl; settings = refl; retries = refl };
  between = c.requires.between;
  sink_works = refl;
  closed = λ start ran before h. HasClosed-none _ _ _ _ _ _ _ (let same = h.retries_are in omega (arith, same)) h;
}

few_retries : (core old now : EngineParts) → core ≡ old → now.retries ≡ old.retries → core.retries ≤ 2 → now.retries ≤ 2
few_retries core old now e same few = let own = ap (λ (engine : EngineParts). engine.retries) e in omega (arith, own, same, few)

-- a turn less is left
one_less : (core old : EngineParts) (end turn : ℕ) → core ≡ old → end ≡ core.retries → turn < end → old.retries - turn ≡ (old.retries - (turn + 1)) + 1
one_less core old end turn e f below = let own = ap (λ (engine : EngineParts). engine.retries) e in omega (arith, own, f, below)

carries : (core now : EngineParts) (n : ℕ) → core ≡ now → n ≡ length core.carried → n ≡ length now.carried
carries core now n e f = f ∙ ap (λ (engine : EngineParts). length engine.carried) e

pub run_batch-requires-clause-due : goal.run_batch-requires-clause-due
run_batch-requires-clause-due g c =
    let now = g.E.BatchEngine.parts c.loop-turn.engine in
    let between = c.loop-turn.invariant.between in
    let few : now.retries ≤ 2 = few_retries _ _ now c.core.ensures c.loop-turn.invariant.same.retries c.retries-turn-end.ensures.few in
    record {
      over = rw c.new-none.ensures.items tt;
      few = rw c.new-none.ensures.items (omega arith);
      idle = between.idle;
      room = rw c.new-none.ensures.items (∥∥₁_elim between.log le_prop (room_after_log now.retries (standing_of now) few));
      digest_kept = between.digest_kept;
    }

pub loop-turn-preserved : goal.loop-turn-preserved
loop-turn-preserved g c =
    let now = g.E.BatchEngine.parts c.loop-turn.engine in
    let new = g.E.BatchEngine.parts c.run_batch.new.engine in
    let was = c.loop-turn.invariant in
    let same = c.in-Ok.ensures.same in
    let reported = rw c.new-none.ensures.items at c.in-Ok.ensures.reported.0 in
    record {
      same = record {
        procs = same.procs ∙ was.same.procs;
        settings = same.settings ∙ was.same.settings;
        retries = same.retries ∙ was.same.retries;
      };
      between = record {
        idle = reported.idle;
        digest_kept = reported.digest_kept;
        log = ∥∥₁_map was.between.log (λ log. subst (λ k. IsAfterLog k (standing_of new)) (sym same.retries) (IsAfterLog-next now.retries (standing_of now) (standing_of new) log reported.standing));
      };
      sink_works = c.in-Ok.ensures.fails ∙ sym (or_nothing _) ∙ was.sink_works;
      closed = λ start ran before h.
          HasClosed-next start _ _ _ ran now c.loop-turn.transcript before _ (was.closed start ran before h) (carries _ now _ c.core-in-loop-turn.ensures c.carried.ensures.same) c.if-carried-eq0.false
          (one_less _ _ _ _ c.core.ensures c.retries-turn-end.ensures.same c.loop-turn-test.true) new c.run_batch.new.transcript _ same.procs same.retries c.in-Ok.ensures.kept.1
          reported;
    }

pub returns-then-carried-eq0-clause-closed : goal.returns-then-carried-eq0-clause-closed
returns-then-carried-eq0-clause-closed g c = λ start ran before h. record {
  reported = HasClosed-uncarried _ _ _ _ _ _ _ _ (c.loop-turn.invariant.closed start ran before h) (carries _ (g.E.BatchEngine.parts c.loop-turn.engine) _ c.core-in-loop-turn.ensures c.carried.ensures.same) c.if-carried-eq0.true;
  stop = tt;
}

pub returns-in-Err-clause-closed : goal.returns-in-Err-clause-closed
returns-in-Err-clause-closed g c = λ start ran before h. record {
  reported = tt;
  stop = HasClosed-cut start _ _ _ ran (g.E.BatchEngine.parts c.loop-turn.engine) c.loop-turn.transcript before _ (c.loop-turn.invariant.closed start ran before h) (carries _ (g.E.BatchEngine.parts c.loop-turn.engine) _ c.core-in-loop-turn.ensures c.carried.ensures.same) c.if-carried-eq0.false
      (one_less _ _ _ _ c.core.ensures c.retries-turn-end.ensures.same c.loop-turn-test.true) _ c.in-Err.fault
      (rw c.new-none.ensures.items at c.run_batch.ensures.front);
}

spent : (core old : EngineParts) (end turn : ℕ) → core ≡ old → end ≡ core.retries → end ≤ turn → old.retries - turn ≡ 0
spent core old end turn e f above = let own = ap (λ (engine : EngineParts). engine.retries) e in omega (arith, own, f, above)

pub returns-clause-closed : goal.returns-clause-closed
returns-clause-closed g c = λ start ran before h. record {
  reported = HasClosed-spent _ _ _ _ _ _ _ (c.loop-turn.invariant.closed start ran before h) (spent _ _ _ _ c.core.ensures c.retries-turn-end.ensures.same c.loop-turn-test.false);
  stop = tt;
}
