use Rattle.std.proofs.Common.{◌≡◌, ◌+◌, ◌*◌, ◌-◌, [], drop, map, take, length}
use Rattle.serde_json.specs.View.{view}
use Rattle.proclang_types.specs.Views.{stmts_view}
use Rattle.proclang_expressions.specs.Paths.{places}
use Rattle.proclang_expressions.specs.Walk.{each_from}
use Rattle.proclang.specs.Statements.{next_statement, block_at}
use Rattle.proclang.proofs.read_block.+block.Given as goal

abbrev pub decreases-read_block : goal.decreases-read_block
decreases-read_block l = 4 * l.room

abbrev pub decreases-read_loop_block : goal.decreases-read_loop_block
decreases-read_loop_block l = 4 * l.room + 1

abbrev pub decreases-read_if : goal.decreases-read_if
decreases-read_if l = 4 * l.room + 2

abbrev pub decreases-read_for : goal.decreases-read_for
decreases-read_for l = 4 * l.room + 2

abbrev pub decreases-read_each : goal.decreases-read_each
decreases-read_each l = 4 * l.room + 2

abbrev pub decreases-read_statement : goal.decreases-read_statement
decreases-read_statement l = 4 * l.room + 3

-- what the rest gives after what is read so far, and that the variables from before the block are kept
abbrev pub invariant-read_block-loop-index : goal.invariant-read_block-loop-index
invariant-read_block-loop-index l = record {
  exact : each_from (next_statement l.catalogue (block_at l.catalogue (l.room - 1))) (places l.path) l.index (stmts_view l.block.items, l.scope) (map view (drop l.index l.values))
      ≡ each_from (next_statement l.catalogue (block_at l.catalogue (l.room - 1))) (places l.path) 0 ([], l.fn.scope) (map view l.values);
  scope : take (length l.fn.scope) l.scope ≡ l.fn.scope;
}
