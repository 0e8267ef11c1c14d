use Rattle.std.proofs.Common.{◌≡◌, ◌∷◌, ◌++◌, Ok, sym, refl, ◌∙◌, ◌-◌, map, [], drop}
use Rattle.std.proofs.lemmas.List.{map_push}
use Rattle.std.proofs.lemmas.Result.{err_from_is_err_and}
use Rattle.std.proofs.Math.ListN.{drop_of_length-le}
use Rattle.serde_json.specs.View.{view}
use Rattle.proclang_types.specs.Views.{stmt_view, stmts_view}
use Rattle.proclang_expressions.specs.Paths.{places}
use Rattle.proclang_expressions.specs.Walk.{each_from}
use Rattle.proclang.specs.Statements.{next_statement, block_at}
use Rattle.proclang.proofs.Walk.{goes_on, stops}
use Rattle.proclang.proofs.Blocks.{next_is, next_fails, block_is, block_fails}
use Rattle.proclang.proofs.Extends.{statement_extends, keeps}
use Rattle.proclang.proofs.read_block.+block.Goals as goal

pub read_block-loop-index-preserved : goal.read_block-loop-index-preserved
read_block-loop-index-preserved t c = record {
  exact =
      let tables = c.args.catalogue.now in
      let block = block_at tables (c.args.room - 1) in
      let path = places c.args.path.now in
      let pushed : stmts_view c.push.new.self.items ≡ stmts_view c.loop-index.block.items ++ stmt_view c.in_ok-statement.statement ∷ [] = rw c.in_ok-push.ensures.items (map_push _ c.loop-index.block.items c.in_ok-statement.statement) in
      let read = next_is tables block (path ++ c.loop-index.index ∷ []) (stmts_view c.loop-index.block.items) c.loop-index.scope (view c.index-values-index.result) (stmt_view c.in_ok-statement.statement) c.read_statement.new.scope c.in_ok-statement.ensures in
      rw pushed (goes_on (next_statement tables block) path (stmts_view c.loop-index.block.items, c.loop-index.scope) (stmts_view c.loop-index.block.items ++ stmt_view c.in_ok-statement.statement ∷ [], c.read_statement.new.scope) c.in-Some.values.now c.loop-index.index c.index-values-index.result
      (each_from (next_statement tables block) path 0 ([], c.args.scope.now) (map view c.in-Some.values.now))
      c.loop-index-test.true c.index-values-index.is read c.loop-index.invariant.exact);
  scope = keeps c.args.scope.now c.loop-index.scope c.read_statement.new.scope c.loop-index.invariant.scope
      (statement_extends c.args.catalogue.now (block_at c.args.catalogue.now (c.args.room - 1)) (places c.args.path.now ++ c.loop-index.index ∷ []) c.loop-index.scope (view c.index-values-index.result) (stmt_view c.in_ok-statement.statement, c.read_statement.new.scope) c.in_ok-statement.ensures);
}

pub read_block-returns-clause-exact : goal.read_block-returns-clause-exact
read_block-returns-clause-exact t c =
    let at_end : drop c.loop-index.index c.in-Some.values.now ≡ [] = drop_of_length-le c.in-Some.values.now c.loop-index-test.false in
    let all : each_from (next_statement c.args.catalogue.now (block_at c.args.catalogue.now (c.args.room - 1))) (places c.args.path.now) 0 ([], c.args.scope.now) (map view c.in-Some.values.now) ≡ Ok (stmts_view c.loop-index.block.items, c.loop-index.scope) = sym c.loop-index.invariant.exact ∙ rw at_end refl in
    block_is c.args.catalogue.now c.args.room (places c.args.path.now) c.args.scope.now (view c.args.value.now) (map view c.in-Some.values.now) (stmts_view c.loop-index.block.items) c.loop-index.scope c.if-room-eq0.false (sym c.in-Some.ensures) c.in_ok-at_most.ensures all

pub read_block-returns-in_err-statement-clause-exact : goal.read_block-returns-in_err-statement-clause-exact
read_block-returns-in_err-statement-clause-exact t c =
    let tables = c.args.catalogue.now in
    let block = block_at tables (c.args.room - 1) in
    let path = places c.args.path.now in
    let ds = map view c.in-Some.values.now in
    let done = stmts_view c.loop-index.block.items in
    let fault = c.in_err-statement.field-0.0 in
    let p = err_from_is_err_and c.from_residual-in_err-statement.result c.from_residual-in_err-statement.ensures.1 in
    rw (p.1, p.2) (λ known.
    let read = next_fails tables block (path ++ c.loop-index.index ∷ []) done c.loop-index.scope (view c.index-values-index.result) fault (c.in_err-statement.ensures known) in
    let all = stops (next_statement tables block) path (done, c.loop-index.scope) c.in-Some.values.now c.loop-index.index c.index-values-index.result fault (each_from (next_statement tables block) path 0 ([], c.args.scope.now) ds)
    c.loop-index-test.true c.index-values-index.is read c.loop-index.invariant.exact in
    block_fails tables c.args.room path c.args.scope.now (view c.args.value.now) ds fault c.if-room-eq0.false (sym c.in-Some.ensures) c.in_ok-at_most.ensures all)
