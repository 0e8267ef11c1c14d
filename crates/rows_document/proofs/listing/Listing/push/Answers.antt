use Rattle.std.proofs.Common.{refl}
use Rattle.rows_document.proofs.Listed.{row_listed}
use Rattle.rows_document.proofs.listing.Listing.push.Goals as goal

pub returns-clause-listed : goal.returns-clause-listed
returns-clause-listed c = λ tables table rows called so_far.
    row_listed tables table c.args.key c.args.row.now rows c.args.self.now (record { text = c.push_row.new.text; any = Rattle.std.proofs.Common.true }) c.args.head.now c.push_comma.new.text.items called so_far
    c.in_ok-push_comma.ensures c.in_ok-push_row.ensures.text refl
