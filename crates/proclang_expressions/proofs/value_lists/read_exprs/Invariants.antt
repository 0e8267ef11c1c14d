use Rattle.std.proofs.Common.{◌≡◌, ◌≤◌, ◌+◌, drop, length, map}
use Rattle.serde_json.specs.View.{view}
use Rattle.proclang_types.specs.Views.{expr_view}
use Rattle.proclang_expressions.specs.Paths.{places}
use Rattle.proclang_expressions.specs.Walk.{each_from, appended}
use Rattle.proclang_expressions.specs.Expressions.{statement_expr}
use Rattle.proclang_expressions.specs.Values.{exprs_at}
use Rattle.proclang_expressions.proofs.value_lists.read_exprs.Given as goal

-- what the rest gives after what is read so far, and how many these are
abbrev pub invariant-loop-index : goal.invariant-loop-index
invariant-loop-index l = record {
  many : length l.exprs.items ≡ l.index;
  few : l.index ≤ length l.values;
  rest : each_from (λ p before d. appended before (statement_expr l.catalogue p l.scope d)) (places l.path) (l.first + l.index) (map expr_view l.exprs.items) (map view (drop l.index l.values))
      ≡ exprs_at l.catalogue (places l.path) l.first l.scope (map view l.values);
}
