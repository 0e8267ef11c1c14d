use Rattle.std.proofs.Common.{ℕ, ◌+◌, refl, sym, subst, ap, ◌∙◌, arith}
use Rattle.hand_off.specs.declared.state.LaneState.TheVariants.{Finished}
use Rattle.hand_off.specs.Notes.{Misses}
use Rattle.hand_off.specs.Views.{looked, with_note}
use Rattle.hand_off.proofs.Looks.{none_missed, missed}
use Rattle.hand_off.proofs.Stands.{none_shown, shown_more}
use Rattle.hand_off.proofs.first_finished.Lanes+J+D+W+A.collect.Goals as goal

pub loop-lane-init : goal.loop-lane-init
loop-lane-init g c = let v = c.args.seat.now.me.0 in (c.requires, refl, none_missed Finished v.notes, none_shown g.W.Work.comes_of v)

pub loop-lane-preserved : goal.loop-lane-preserved
loop-lane-preserved g c = let none = c.in_default.ensures.none in let inv = c.loop-lane.invariant in let first = c.args.seat.now.me.0 in let lane : ℕ = c.loop-lane.lane in
    let more = ap (λ m. m.0.notes) none.2 in (
      c.collect_from.ensures.seat,
      ap (λ m. m.0) none.2 ∙ ap (λ v. with_note v lane none.0) inv.1 ∙ ap (looked first) (sym more),
      subst (Misses Finished (lane + 1) first.notes) (sym more) (missed Finished none.0 lane (lane + 1) first.notes c.loop-lane.seat.me.0.notes none.1 (omega arith) inv.2),
      shown_more g.W.Work.comes_of first c.loop-lane.seat.me.0 c.collect_from.new.seat.me.0.notes lane none.0 inv.1 inv.3 none.3 more,
    )

pub returns-in-Some-clause-shown : goal.returns-in-Some-clause-shown
returns-in-Some-clause-shown g c = let inv = c.loop-lane.invariant in let got = c.in-Some.ensures in
    shown_more g.W.Work.comes_of c.args.seat.now.me.0 c.loop-lane.seat.me.0 c.collect_from.new.seat.me.0.notes c.loop-lane.lane Finished inv.1 inv.3 got.shown (ap (λ m. m.0.notes) got.some.3)
