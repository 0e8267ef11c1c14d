use Rattle.interp.specs.Entries.{entry_shape}
use Rattle.interp.proofs.Everywhere.{everywhere_ok}
use Rattle.proclang_types.specs.Procedures.{proc_syntax}
use Rattle.interp.proofs.runs.run.Goals as goal

pub returns-clause-meaning : goal.returns-clause-meaning
returns-clause-meaning g c =
    let entry = entry_shape c.args.entry.now in
    everywhere_ok entry (g.V.RowView.rows c.args.view.now) c.run_here.result (c.stays_in_footprint.ensures entry) c.run_here.ensures.covered c.run_here.ensures.gives

pub returns-clause-stand_in : goal.returns-clause-stand_in
returns-clause-stand_in g c = λ db. c.stand_in_never_shows.ensures (proc_syntax c.args.entry.now.request.proc) (entry_shape c.args.entry.now) db c.is_call.ensures
