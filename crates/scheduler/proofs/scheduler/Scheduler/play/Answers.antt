use Rattle.std.proofs.Common.{◌≡◌, ◌<◌, ◌++◌, ◌∷◌, [], length, take, ◌∙◌, refl, sym, arith}
use Rattle.std.proofs.lemmas.List.{take_more, length-take-le}
use Rattle.scheduler_core.specs.declared.event.Event.TheVariants.{Admit}
use Rattle.scheduler.specs.Schedules.{log_of, phases_of}
use Rattle.scheduler.proofs.Played.{played_more, count_more, settles_more}
use Rattle.scheduler.proofs.scheduler.Scheduler.play.Goals as goal

pub loop-event-preserved : goal.loop-event-preserved
loop-event-preserved c =
    let i = c.loop-event.invariant in
    let less : c.loop-event.event-index < length c.args.events.now = omega arith in
    let w = c.args.self.now.work in
    let pushed : c.push.new.self.items ≡ c.loop-event.answers.items ++ c.step-answer.result ∷ [] = c.push.ensures.items ∙ rw c.if-is_err.ensures.negation refl in
    let counted : length (take c.loop-event.event-index c.args.events.now) ≡ length c.loop-event.answers.items = length-take-le c.loop-event.event-index c.args.events.now (omega (arith, less)) ∙ sym i.4 in
    let one = rw (i.2) at c.step-answer.ensures.answer in (
      rw (take_more c.args.events.now c.loop-event.event-index Admit less, pushed)
          (played_more w.arena w.first (log_of w) (phases_of c.args.self.now) (phases_of c.loop-event.self) (phases_of c.step-answer.new.self) (take c.loop-event.event-index c.args.events.now) c.loop-event.answers.items _ c.step-answer.result i.0 one),
      rw (take_more c.args.events.now c.loop-event.event-index Admit less, pushed)
          (settles_more (take c.loop-event.event-index c.args.events.now) c.loop-event.answers.items _ c.step-answer.result counted i.1 c.step-answer.ensures.memory),
      c.step-answer.ensures.work ∙ i.2,
      c.step-answer.ensures.keeps,
      count_more c.loop-event.answers.items c.push.new.self.items c.step-answer.result c.loop-event.event-index pushed i.4,
      omega (arith, c.push.ensures.capacity, i.5),
    )
