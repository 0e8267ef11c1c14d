use Rattle.std.proofs.Common.{refl, ◌∙◌}
use Rattle.lock_tree.proofs.Vacancies.{renumbered}
use Rattle.lock_tree.proofs.Chaining.{chained_noted, noted_still}
use Rattle.lock_tree.proofs.lines.Lines.make_room.Goals as goal

pub returns-in_err-reserve-clause-numbered : goal.returns-in_err-reserve-clause-numbered
returns-in_err-reserve-clause-numbered c = renumbered c.args.self.now (record c.args.self.now { numbers = c.reserve.new.self }) c.reserve.ensures.entries.2 c.requires.numbered

pub returns-in_err-reserve-clause-chained : goal.returns-in_err-reserve-clause-chained
returns-in_err-reserve-clause-chained c = λ e ok.
    let l = c.args.self.now in let now = record l { numbers = c.reserve.new.self } in
    (ok.0, chained_noted l now e.no refl (noted_still l now e.no refl (λ r n i a named there. c.reserve.ensures.entries.2 r ∙ named)) e.plan.value ok.0 e.head ok.1)

pub returns-clause-numbered : goal.returns-clause-numbered
returns-clause-numbered c = renumbered c.args.self.now (record c.args.self.now { numbers = c.reserve.new.self }) c.reserve.ensures.entries.2 c.requires.numbered

pub returns-clause-chained : goal.returns-clause-chained
returns-clause-chained c = λ e ok.
    let l = c.args.self.now in let now = record l { numbers = c.reserve.new.self } in
    (ok.0, chained_noted l now e.no refl (noted_still l now e.no refl (λ r n i a named there. c.reserve.ensures.entries.2 r ∙ named)) e.plan.value ok.0 e.head ok.1)
