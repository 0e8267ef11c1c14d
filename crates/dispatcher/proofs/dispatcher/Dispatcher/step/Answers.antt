use Rattle.dispatcher.proofs.Onward.{runs_twice, runs_unheard}
use Rattle.dispatcher.proofs.dispatcher.Dispatcher.step.Goals.{then-has_enough-via-then-has_enough, then-has_enough-via-else-has_enough+in_ok-admit_next+then-not-branch}
use Rattle.dispatcher.proofs.dispatcher.Dispatcher.step.Goals as goal

pub returns-in_err-hand_out_next-clause-runs : goal.returns-in_err-hand_out_next-clause-runs
returns-in_err-hand_out_next-clause-runs g c =
    let two = runs_twice c.args.scheduler.now c.take_in.new.scheduler c.hand_out_next.new.scheduler
    (g.L.Listener.account c.args.listener.now) (g.L.Listener.account c.take_in.new.listener) (g.L.Listener.account c.hand_out_next.new.listener) c.take_in.ensures.runs c.hand_out_next.ensures.runs in
    two

pub returns-then-branch-2-clause-runs : goal.returns-then-branch-2-clause-runs
returns-then-branch-2-clause-runs g c =
    let two = runs_twice c.args.scheduler.now c.take_in.new.scheduler c.hand_out_next.new.scheduler
    (g.L.Listener.account c.args.listener.now) (g.L.Listener.account c.take_in.new.listener) (g.L.Listener.account c.hand_out_next.new.listener) c.take_in.ensures.runs c.hand_out_next.ensures.runs in
    two

pub returns-in_err-run_in_place-clause-runs : goal.returns-in_err-run_in_place-clause-runs
returns-in_err-run_in_place-clause-runs g c =
    let two = runs_twice c.args.scheduler.now c.take_in.new.scheduler c.hand_out_next.new.scheduler
    (g.L.Listener.account c.args.listener.now) (g.L.Listener.account c.take_in.new.listener) (g.L.Listener.account c.hand_out_next.new.listener) c.take_in.ensures.runs c.hand_out_next.ensures.runs in
    let three = runs_twice c.args.scheduler.now c.hand_out_next.new.scheduler c.run_in_place.new.scheduler
    (g.L.Listener.account c.args.listener.now) (g.L.Listener.account c.hand_out_next.new.listener) (g.L.Listener.account c.run_in_place.new.listener) two c.run_in_place.ensures.runs in
    three

pub returns-then-branch-3-clause-runs : goal.returns-then-branch-3-clause-runs
returns-then-branch-3-clause-runs g c =
    let two = runs_twice c.args.scheduler.now c.take_in.new.scheduler c.hand_out_next.new.scheduler
    (g.L.Listener.account c.args.listener.now) (g.L.Listener.account c.take_in.new.listener) (g.L.Listener.account c.hand_out_next.new.listener) c.take_in.ensures.runs c.hand_out_next.ensures.runs in
    let three = runs_twice c.args.scheduler.now c.hand_out_next.new.scheduler c.run_in_place.new.scheduler
    (g.L.Listener.account c.args.listener.now) (g.L.Listener.account c.hand_out_next.new.listener) (g.L.Listener.account c.run_in_place.new.listener) two c.run_in_place.ensures.runs in
    three

pub returns-in_err-admit_next-clause-runs : goal.returns-in_err-admit_next-clause-runs
returns-in_err-admit_next-clause-runs g c =
    let two = runs_twice c.args.scheduler.now c.take_in.new.scheduler c.hand_out_next.new.scheduler
    (g.L.Listener.account c.args.listener.now) (g.L.Listener.account c.take_in.new.listener) (g.L.Listener.account c.hand_out_next.new.listener) c.take_in.ensures.runs c.hand_out_next.ensures.runs in
    let three = runs_twice c.args.scheduler.now c.hand_out_next.new.scheduler c.run_in_place.new.scheduler
    (g.L.Listener.account c.args.listener.now) (g.L.Listener.account c.hand_out_next.new.listener) (g.L.Listener.account c.run_in_place.new.listener) two c.run_in_place.ensures.runs in
    runs_twice c.args.scheduler.now c.run_in_place.new.scheduler c.admit_next.new.scheduler (g.L.Listener.account c.args.listener.now) (g.L.Listener.account c.run_in_place.new.listener) (g.L.Listener.account c.run_in_place.new.listener) three
    (runs_unheard c.run_in_place.new.scheduler c.admit_next.new.scheduler (g.L.Listener.account c.run_in_place.new.listener) c.admit_next.ensures.work c.admit_next.ensures.settled c.admit_next.ensures.none_settled c.run_in_place.ensures.runs.told)

pub returns-then-has_enough-clause-runs : goal.returns-then-has_enough-clause-runs
returns-then-has_enough-clause-runs g c =
    let two = runs_twice c.args.scheduler.now c.take_in.new.scheduler c.hand_out_next.new.scheduler
    (g.L.Listener.account c.args.listener.now) (g.L.Listener.account c.take_in.new.listener) (g.L.Listener.account c.hand_out_next.new.listener) c.take_in.ensures.runs c.hand_out_next.ensures.runs in
    let three = runs_twice c.args.scheduler.now c.hand_out_next.new.scheduler c.run_in_place.new.scheduler
    (g.L.Listener.account c.args.listener.now) (g.L.Listener.account c.hand_out_next.new.listener) (g.L.Listener.account c.run_in_place.new.listener) two c.run_in_place.ensures.runs in
    elim c.then-has_enough.branch [
      | then-has_enough-via-then-has_enough w ↦ rw w.scheduler-is three
      | then-has_enough-via-else-has_enough+in_ok-admit_next+then-not-branch w ↦ rw w.scheduler-is (runs_twice c.args.scheduler.now c.run_in_place.new.scheduler w.admit_next.new.scheduler (g.L.Listener.account c.args.listener.now) (g.L.Listener.account c.run_in_place.new.listener) (g.L.Listener.account c.run_in_place.new.listener) three
          (runs_unheard c.run_in_place.new.scheduler w.admit_next.new.scheduler (g.L.Listener.account c.run_in_place.new.listener) w.admit_next.ensures.work w.admit_next.ensures.settled w.admit_next.ensures.none_settled c.run_in_place.ensures.runs.told))
    ]

pub returns-clause-runs : goal.returns-clause-runs
returns-clause-runs g c =
    let two = runs_twice c.args.scheduler.now c.take_in.new.scheduler c.hand_out_next.new.scheduler
    (g.L.Listener.account c.args.listener.now) (g.L.Listener.account c.take_in.new.listener) (g.L.Listener.account c.hand_out_next.new.listener) c.take_in.ensures.runs c.hand_out_next.ensures.runs in
    let three = runs_twice c.args.scheduler.now c.hand_out_next.new.scheduler c.run_in_place.new.scheduler
    (g.L.Listener.account c.args.listener.now) (g.L.Listener.account c.hand_out_next.new.listener) (g.L.Listener.account c.run_in_place.new.listener) two c.run_in_place.ensures.runs in
    runs_twice c.args.scheduler.now c.run_in_place.new.scheduler c.admit_next.new.scheduler (g.L.Listener.account c.args.listener.now) (g.L.Listener.account c.run_in_place.new.listener) (g.L.Listener.account c.run_in_place.new.listener) three
    (runs_unheard c.run_in_place.new.scheduler c.admit_next.new.scheduler (g.L.Listener.account c.run_in_place.new.listener) c.admit_next.ensures.work c.admit_next.ensures.settled c.admit_next.ensures.none_settled c.run_in_place.ensures.runs.told)
