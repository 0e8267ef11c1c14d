use Rattle.std.proofs.Common.{subst}
use Rattle.moved_rows.proofs.Calls.{IsSaid, call_over, call_value, line_is}
use Rattle.moved_rows.proofs.Setups.{start_procs}
use Rattle.moved_rows.proofs.laws.said_calls_are_of_the_tables.Goals as goal

pub returns-clause-over : goal.returns-clause-over
returns-clause-over c = λ text s start line call db said of e. call_over s.tables db call (subst (IsSaid s.tables) e (line_is s.tables start.procs.procs (start_procs text s start said of) line))

pub returns-clause-values : goal.returns-clause-values
returns-clause-values c = λ text s start line call db said of e. call_value s.tables db call (subst (IsSaid s.tables) e (line_is s.tables start.procs.procs (start_procs text s start said of) line))
