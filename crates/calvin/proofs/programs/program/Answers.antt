use Rattle.std.proofs.Common.{inl}
use Rattle.calvin.proofs.programs.program.Goals as goal

pub returns-in-Ok : goal.returns-in-Ok
returns-in-Ok g c = inl (c.in-Ok.line, c.in-Ok.ensures.line, c.command.ensures)
