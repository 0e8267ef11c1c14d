use Rattle.std.proofs.Common.{◌≡◌, ◌++◌}
use Rattle.workspace.specs.Overlay.{applied}
use Rattle.workspace.specs.Scan.{by_key, referred, rows_in_part}
use Rattle.workspace.specs.Walks.{IsWalk, rows_ahead}
use Rattle.workspace.proofs.Counts.{count_ahead}
use Rattle.workspace.proofs.seen.rows_on_walk.Given as goal

-- the rows so far and those ahead are all
abbrev pub invariant-loop-key : goal.invariant-loop-key
invariant-loop-key g l =
    let tables = l.shown.permit.catalogue.now in
    let db = applied l.space.writes.entries (g.V.RowView.rows l.shown.view.now) in
    record {
      walk : IsWalk tables l.space.writes.entries (g.V.RowView.rows l.shown.view.now) l.table l.part l.walk;
      all : referred l.rows.items ++ by_key (rows_ahead tables l.table l.part l.walk.after db) ≡ rows_in_part tables l.table l.part db;
    }

abbrev pub decreases-loop-key : goal.decreases-loop-key
decreases-loop-key g l = count_ahead l.shown.permit.catalogue.now l.table l.part l.walk.after (applied l.space.writes.entries (g.V.RowView.rows l.shown.view.now))
