use Rattle.std.proofs.Common.{◌≡◌, ◌∷◌, ◌++◌, [], arith}
use Rattle.setup.specs.Names.{HoldsNames}
use Rattle.setup.proofs.RowTokens.{row_is_listed, row_is_shorter}
use Rattle.setup.proofs.rows_by_tokens.listed_rows.Goals as goal

pub rows-smaller : goal.rows-smaller
rows-smaller c =
    let holds : HoldsNames c.rows.names c.deref.result.now = rw c.deref.ensures.value c.rows.invariant.3 in
    let row = c.in_ok-row.ensures.row holds in
    row_is_shorter c.args.catalogue.now c.deref.result.now c.in_ok-row.row c.take_end_array.new.self c.rows.reader c.take_row.new.reader c.rows-test.ensures.1 row

pub rows-preserved : goal.rows-preserved
rows-preserved c =
    let was = c.rows.invariant in
    let rows = c.rows.rows.items in
    let row = c.in_ok-row.row in
    let pushed : c.push.new.self.items ≡ rows ++ row ∷ [] = grind arith in
    let holds : HoldsNames c.rows.names c.deref.result.now = rw c.deref.ensures.value was.3 in
    let found = let h = c.in_ok-row.ensures.row holds in rw c.deref.ensures.value at h in
    let read = row_is_listed c.args.catalogue.now rows row c.args.reader.now c.rows.reader c.take_end_array.new.self c.take_row.new.reader was.0 was.1 c.rows-test.ensures.1 was.2 found in
    let named = let h = c.in_ok-row.ensures.names holds in rw c.deref.ensures.value at h in
    rw pushed (read.0, read.1, read.2, named)
