use Rattle.std.proofs.Common.{◌≡◌, ℕ, ◌+◌, ◌-◌, ◌∙◌, ◌≤◌, ◌<◌, refl, sym, arith, subst}
use Rattle.std.proofs.Math.Bridge.{le_prop}
use Rattle.std.proofs.Math.Logic.{∥∥₁_elim, ∥∥₁_map}
use Rattle.running.specs.Reported.{IsAfterLog}
use Rattle.running.specs.Standings.{standing_of}
use Rattle.running.proofs.Reported.{room_after_log, IsAfterLog-next}
use Rattle.session.proofs.Closers.{closed_cut, closed_next, closed_none, none_left, none_may_come}
use Rattle.session.proofs.Growing.{begins_itself, begins_onward}
use Rattle.session.proofs.Runs.{front_keeps, keeps_setting}
use Rattle.session.proofs.Told.{keeps_itself, keeps_onward, run_keeps}
use Rattle.session.proofs.work.Work.close.Goals as goal

pub loop-turn-init : goal.loop-turn-init
loop-turn-init c = record {
  between = c.requires.between;
  setting = (record { procs = refl; settings = refl; retries = refl }, refl);
  closed = λ start log drained passed h. closed_none start drained passed h.ended _ _ (let same = h.reported.retries_are in omega (arith, same)) h.reported h.replied;
  kept = begins_itself _;
  replies = keeps_itself _;
}

-- a turn less is left
one_less : (now old end turn : ℕ) → now ≡ old → end ≡ now → turn < end → old - turn ≡ (old - (turn + 1)) + 1
one_less now old end turn e f below = omega (arith, e, f, below)

pub run-requires : goal.run-requires
run-requires c =
    let now = c.loop-turn.self.engine in
    let between = c.loop-turn.invariant.between in
    let same = c.loop-turn.invariant.setting.0.retries in
    let few = c.retries-turn-end.ensures.few in
    record {
      over = rw c.new.ensures.items tt;
      few = rw c.new.ensures.items (omega arith);
      idle = between.idle;
      room = rw c.new.ensures.items (∥∥₁_elim between.log le_prop (room_after_log now.retries (standing_of now) (omega (arith, same, few))));
      digest_kept = between.digest_kept;
    }

pub loop-turn-preserved : goal.loop-turn-preserved
loop-turn-preserved c =
    let was = c.loop-turn.invariant in
    let now = c.loop-turn.self.engine in
    let new = c.run.new.self.engine in
    let same = c.run.ensures.same in
    let reported = rw c.new.ensures.items at c.in-Ok.ensures.reported in
    record {
      between = record {
        idle = reported.idle;
        digest_kept = reported.digest_kept;
        log = ∥∥₁_map was.between.log (λ log. subst (λ k. IsAfterLog k (standing_of new)) (sym same.retries) (IsAfterLog-next now.retries (standing_of now) (standing_of new) log reported.standing));
      };
      setting = keeps_setting _ _ _ _ _ _ was.setting (same, c.run.ensures.form);
      closed = λ start log drained passed h.
          closed_next start drained passed h.ended _ _ _ c.loop-turn.self (was.closed start log drained passed h) c.carried.ensures.same c.if-carried-eq0.false
          (one_less _ _ _ _ was.setting.0.retries (c.retries-turn-end.ensures.same ∙ sym was.setting.0.retries) c.loop-turn-test.true) c.run.new.self same c.run.ensures.form reported
          (rw c.new.ensures.items at c.in-Ok.ensures.replied);
      kept = begins_onward _ _ _ was.kept (front_keeps _ _ _ c.run.ensures.front);
      replies = keeps_onward _ _ _ was.replies (run_keeps c.run.result _ _ _ c.run.ensures.replied c.run.ensures.unreplied);
    }

pub returns-then-carried-eq0-clause-whole : goal.returns-then-carried-eq0-clause-whole
returns-then-carried-eq0-clause-whole c = λ start log drained passed h.
    let closed = c.loop-turn.invariant.closed start log drained passed h in
    let all = none_left start drained passed h.ended _ _ c.loop-turn.self closed c.carried.ensures.same c.if-carried-eq0.true in
    record { ended = h.ended; whole = h.whole; reported = rw all at closed.reported; replied = rw all at closed.replied }

pub returns-in-Err-clause-fault : goal.returns-in-Err-clause-fault
returns-in-Err-clause-fault c = λ start log drained passed h.
    let was = c.loop-turn.invariant in
    closed_cut start drained passed h.ended _ _ _ c.loop-turn.self (was.closed start log drained passed h) c.carried.ensures.same c.if-carried-eq0.false
    (one_less _ _ _ _ was.setting.0.retries (c.retries-turn-end.ensures.same ∙ sym was.setting.0.retries) c.loop-turn-test.true) log c.run.new.self c.in-Err.fault h.whole c.in-Err.ensures.memory
    (rw c.new.ensures.items at c.run.ensures.front) c.in-Err.ensures.unreplied

pub returns-in-Err-clause-kept : goal.returns-in-Err-clause-kept
returns-in-Err-clause-kept c = begins_onward _ _ _ c.loop-turn.invariant.kept (front_keeps _ _ _ c.run.ensures.front)

pub returns-in-Err-clause-replies : goal.returns-in-Err-clause-replies
returns-in-Err-clause-replies c = keeps_onward _ _ _ c.loop-turn.invariant.replies (run_keeps c.run.result _ _ _ c.run.ensures.replied c.run.ensures.unreplied)

pub returns-in-Err-clause-setting : goal.returns-in-Err-clause-setting
returns-in-Err-clause-setting c = keeps_setting _ _ _ _ _ _ c.loop-turn.invariant.setting (c.run.ensures.same, c.run.ensures.form)

spent : (old end turn : ℕ) → end ≡ old → end ≤ turn → old - turn ≡ 0
spent old end turn e above = omega (arith, e, above)

pub returns-clause-whole : goal.returns-clause-whole
returns-clause-whole c = λ start log drained passed h.
    let closed = c.loop-turn.invariant.closed start log drained passed h in
    let all = none_may_come start drained passed h.ended _ c.loop-turn.self closed (spent _ _ _ c.retries-turn-end.ensures.same c.loop-turn-test.false) in
    record { ended = h.ended; whole = h.whole; reported = rw all at closed.reported; replied = rw all at closed.replied }
