use Rattle.std.proofs.Common.{sym, ap, ◌∙◌}
use Rattle.serde_json.specs.View.{view}
use Rattle.setup.specs.WithRows.{with_rows_document}
use Rattle.setup.proofs.SaidWithRows.{rows_replaced}
use Rattle.setup.proofs.reading.with_rows_document.Goals as goal

pub returns-in-Array : goal.returns-in-Array
returns-in-Array c =
    rows_replaced c.in-Array.elements c.with_rows.result c.args.rows c.with_rows.ensures ∙ ap (λ d. with_rows_document (view d) (view c.args.rows)) (sym c.in-Array.is)
