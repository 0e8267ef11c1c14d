use Rattle.std.proofs.Common.{◌≤◌, length, string_bytes}
use Rattle.calvin.proofs.PlanTexts.{GoesOn}
use Rattle.calvin.proofs.locks.text_of.Given as goal

-- with the plans of the entries that are left the text is that of all
abbrev pub invariant-loop-place : goal.invariant-loop-place
invariant-loop-place l = record {
  few : l.place ≤ length l.entries;
  text : GoesOn l.catalogue l.settings l.entries l.place (string_bytes l.text);
}
