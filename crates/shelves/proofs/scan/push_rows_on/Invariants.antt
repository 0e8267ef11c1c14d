use Rattle.std.proofs.Common.{◌≡◌, ◌++◌}
use Rattle.workspace.specs.Scan.{referred}
use Rattle.shelves.specs.Places.{places_of}
use Rattle.shelves.specs.Scans.{rows_on}
use Rattle.shelves.proofs.scan.push_rows_on.Given as goal

-- with the rows at the places that are left the list is the whole one
abbrev pub invariant-loop-name : goal.invariant-loop-name
invariant-loop-name l =
    referred l.gathered.items ++ rows_on l.catalogue l.table l.part l.name-iterator
    ≡ referred l.fn.gathered.items ++ rows_on l.catalogue l.table l.part (places_of l.shelf.contents).entries
