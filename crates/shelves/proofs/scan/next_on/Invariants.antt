use Rattle.shelves.specs.Places.{places_of}
use Rattle.shelves.proofs.Scans.{IsLeft}
use Rattle.shelves.proofs.scan.next_on.Given as goal

-- each name ahead that has a row has it among the places that are left
abbrev pub invariant-loop-name : goal.invariant-loop-name
invariant-loop-name l = IsLeft l.catalogue l.table l.part l.after (places_of l.shelf.contents).entries l.name-iterator
