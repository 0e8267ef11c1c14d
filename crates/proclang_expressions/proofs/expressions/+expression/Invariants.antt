use Rattle.std.proofs.Common.{◌+◌, ◌*◌}
use Rattle.proclang_expressions.proofs.expressions.+expression.Given as goal

-- the levels that may still nest
abbrev pub decreases-read_expr : goal.decreases-read_expr
decreases-read_expr l = 2 * l.context.room

abbrev pub decreases-read_not : goal.decreases-read_not
decreases-read_not l = 2 * l.context.room + 1

abbrev pub decreases-read_binary : goal.decreases-read_binary
decreases-read_binary l = 2 * l.context.room + 1

abbrev pub decreases-read_exists : goal.decreases-read_exists
decreases-read_exists l = 2 * l.context.room + 1

abbrev pub decreases-read_count : goal.decreases-read_count
decreases-read_count l = 2 * l.context.room + 1

abbrev pub decreases-read_sum : goal.decreases-read_sum
decreases-read_sum l = 2 * l.context.room + 1
