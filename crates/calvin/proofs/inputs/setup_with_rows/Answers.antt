use Rattle.std.proofs.Common.{Some, refl}
use Rattle.calvin.specs.Inputs.{with_rows_at}
use Rattle.calvin.proofs.CommandRuns.{texts_read}
use Rattle.calvin.proofs.inputs.setup_with_rows.Goals as goal

pub returns-clause-setup : goal.returns-clause-setup
returns-clause-setup g c = (texts_read (g.F.Files.holds c.args.files.now) (with_rows_at c.args.path.now c.args.rows.now) c.in_ok-text.text.items (Some c.in_ok-rows.rows.items) c.read_setup_with_rows.result c.document_of.result
    (record { setup = c.in_ok-text.ensures.bytes; rows_are = (c.in_ok-rows.rows.items, c.in_ok-rows.ensures.bytes, refl) })
    (rw (c.deref.ensures.value, c.deref-2.ensures.value) at c.read_setup_with_rows.ensures.found) c.read_setup_with_rows.ensures.over (rw (c.deref.ensures.value, c.deref-2.ensures.value) at c.read_setup_with_rows.ensures.first)
    c.document_of.ensures.same c.document_of.ensures.status).0

pub returns-clause-status : goal.returns-clause-status
returns-clause-status g c = (texts_read (g.F.Files.holds c.args.files.now) (with_rows_at c.args.path.now c.args.rows.now) c.in_ok-text.text.items (Some c.in_ok-rows.rows.items) c.read_setup_with_rows.result c.document_of.result
    (record { setup = c.in_ok-text.ensures.bytes; rows_are = (c.in_ok-rows.rows.items, c.in_ok-rows.ensures.bytes, refl) })
    (rw (c.deref.ensures.value, c.deref-2.ensures.value) at c.read_setup_with_rows.ensures.found) c.read_setup_with_rows.ensures.over (rw (c.deref.ensures.value, c.deref-2.ensures.value) at c.read_setup_with_rows.ensures.first)
    c.document_of.ensures.same c.document_of.ensures.status).1
