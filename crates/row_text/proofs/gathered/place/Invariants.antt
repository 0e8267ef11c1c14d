use Rattle.std.proofs.Common.{IsPermutation}
use Rattle.row_text.proofs.gathered.place.Given as goal

abbrev pub invariant-loop : goal.invariant-loop
invariant-loop l = IsPermutation l.initial.rows l.rows
