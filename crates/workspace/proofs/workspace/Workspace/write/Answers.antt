use Rattle.std.proofs.Common.{ap, sym, Ok, Some}
use Rattle.values.specs.Database.{Database}
use Rattle.meaning.specs.Runs.{State}
use Rattle.workspace.proofs.Writes.{one_written, one_covered}
use Rattle.workspace.proofs.workspace.Workspace.write.Goals as goal

pub returns-clause-gives : goal.returns-clause-gives
returns-clause-gives c db =
    ap (λ (rows : Database). let left : State = record { rows = rows; variables = c.args.self.now.variables.items; steps = c.args.self.now.steps; reply = c.args.self.now.reply.items; accesses = c.args.self.now.accesses } in (Ok tt, left))
    (sym (one_written c.args.self.now.writes.entries c.insert.new.self.entries c.args.name (Some c.args.row) c.in_ok-insert.ensures.updates.0 db))

pub returns-clause-kept : goal.returns-clause-kept
returns-clause-kept c permit covered kept =
    one_covered permit c.args.self.now.writes.entries c.insert.new.self.entries c.args.name (Some c.args.row) c.in_ok-insert.ensures.updates.0 covered kept
