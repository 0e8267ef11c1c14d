use Rattle.std.proofs.Common.{◌≡◌, ◌≤◌, ◌-◌, length, take}
use Rattle.calvin.proofs.comparison.first_difference.Given as goal

-- the texts are the same up to here
abbrev pub invariant-places : goal.invariant-places
invariant-places l = record {
  same : take l.place l.text ≡ take l.place l.other;
  in_text : l.place ≤ length l.text;
  in_other : l.place ≤ length l.other;
}

abbrev pub decreases-places : goal.decreases-places
decreases-places l = length l.text - l.place
