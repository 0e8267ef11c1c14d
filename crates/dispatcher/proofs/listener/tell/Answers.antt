use Rattle.std.proofs.Common.{sym, ap, ◌∙◌}
use Rattle.meaning.specs.Outcomes.{as_reply}
use Rattle.scheduler_core.specs.Phases.{is_settled}
use Rattle.scheduler.specs.Schedules.{phases_of}
use Rattle.dispatcher.proofs.Told.{at_number, tell_room, tell_counts, tell_none}
use Rattle.dispatcher.proofs.listener.tell.Goals as goal

pub hear-requires : goal.hear-requires
hear-requires g c =
    let s = c.args.scheduler.now in
    tell_room s c.args.no (as_reply c.in-Some.outcome.now)
    (ap is_settled (sym (at_number s.work.first c.args.no (phases_of s) c.requires.number)) ∙ sym c.in-Some.ensures.settled) c.in-Some.ensures.serial
    (g.L.Listener.account c.args.listener.now) c.requires.others

pub returns-in-Some-clause-told : goal.returns-in-Some-clause-told
returns-in-Some-clause-told g c =
    let s = c.args.scheduler.now in
    tell_counts s c.args.no (as_reply c.in-Some.outcome.now)
    (ap is_settled (sym (at_number s.work.first c.args.no (phases_of s) c.requires.number)) ∙ sym c.in-Some.ensures.settled) c.in-Some.ensures.serial
    (g.L.Listener.account c.args.listener.now) (g.L.Listener.account c.hear.new.self) c.requires.others c.hear.ensures

pub returns-in_default-clause-told : goal.returns-in_default-clause-told
returns-in_default-clause-told g c =
    let s = c.args.scheduler.now in
    tell_none s c.args.no (g.L.Listener.account c.args.listener.now)
    (ap is_settled (sym (at_number s.work.first c.args.no (phases_of s) c.requires.number)) ∙ sym c.in_default.ensures.settled) c.requires.others
