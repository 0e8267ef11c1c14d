use Rattle.proclang_types.specs.Procedures.{proc_syntax}
use Rattle.interp.proofs.Finding.{found_of_catalogue}
use Rattle.interp.proofs.reconnaissance.recon.Goals as goal

pub returns-clause-of_catalogue : goal.returns-clause-of_catalogue
returns-clause-of_catalogue g c =
    let proc = c.args.proc.now in
    let rows = g.V.RowView.rows c.args.view.now in
    found_of_catalogue proc.tables c.args.catalogue.now proc.body c.body.result.now.items c.args.args.now rows c.find_footprint.result c.requires.tables c.body.ensures.same
    (c.found_footprint_is_of_tables.ensures proc.tables (proc_syntax proc) c.args.args.now rows c.body.ensures.fits) c.find_footprint.ensures.found c.find_footprint.ensures.keys

pub returns-clause-stand_in : goal.returns-clause-stand_in
returns-clause-stand_in g c = λ kinds types.
    let proc = c.args.proc.now in
    c.stand_in_is_never_found.ensures proc.tables (proc_syntax proc) c.args.args.now (g.V.RowView.rows c.args.view.now) c.body.ensures.fits kinds types
