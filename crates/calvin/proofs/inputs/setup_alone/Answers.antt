use Rattle.std.proofs.Common.{None, refl}
use Rattle.calvin.specs.Inputs.{alone_at}
use Rattle.calvin.proofs.CommandRuns.{texts_read}
use Rattle.calvin.proofs.inputs.setup_alone.Goals as goal

pub returns-clause-setup : goal.returns-clause-setup
returns-clause-setup g c = (texts_read (g.F.Files.holds c.args.files.now) (alone_at c.args.path.now) c.in_ok-text.text.items None c.read_setup.result c.document_of.result
    (record { setup = c.in_ok-text.ensures.bytes; rows_are = refl }) (rw c.deref.ensures.value at c.read_setup.ensures.found) c.read_setup.ensures.over (rw c.deref.ensures.value at c.read_setup.ensures.first)
    c.document_of.ensures.same c.document_of.ensures.status).0

pub returns-clause-status : goal.returns-clause-status
returns-clause-status g c = (texts_read (g.F.Files.holds c.args.files.now) (alone_at c.args.path.now) c.in_ok-text.text.items None c.read_setup.result c.document_of.result
    (record { setup = c.in_ok-text.ensures.bytes; rows_are = refl }) (rw c.deref.ensures.value at c.read_setup.ensures.found) c.read_setup.ensures.over (rw c.deref.ensures.value at c.read_setup.ensures.first)
    c.document_of.ensures.same c.document_of.ensures.status).1
