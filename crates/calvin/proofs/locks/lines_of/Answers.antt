use Rattle.std.proofs.Common.{◌≡◌, ◌∙◌, List, ap, map}
use Rattle.std.specs.FinMap.{empty}
use Rattle.row_store.specs.Stock.{with_rows}
use Rattle.sequencer.specs.Entries.{prepared}
use Rattle.interp.specs.Entries.{entry_shape}
use Rattle.sequencer.specs.Batches.{items_of, RequestItem}
use Rattle.calvin.proofs.FirstBatchEnds.{batch_entries}
use Rattle.calvin.proofs.locks.lines_of.Goals as goal

pub prepare-requires-clause-over : goal.prepare-requires-clause-over
prepare-requires-clause-over c = c.in-Ok.ensures.over c.args.setup.catalogue c.requires.tables

pub returns : goal.returns
returns c =
    let same : map entry_shape c.deref.result.now ≡ map (prepared (with_rows empty c.args.setup.rows.items)) c.args.requests.items =
    ap (map entry_shape) c.deref.ensures.value ∙ c.in_ok-entries.ensures.exact ∙ ap (λ db. map (λ item. prepared db item.request) (items_of c.in-Ok.batch)) c.in_ok-store.ensures.rows
    ∙ ap (λ (items : List RequestItem). map (λ item. prepared (with_rows empty c.args.setup.rows.items) item.request) items) c.in-Ok.ensures.items ∙ batch_entries (with_rows empty c.args.setup.rows.items) 0 c.args.requests.items in
    rw same at c.text_of.ensures
