-- Claimed: what contracts promise to a reader rests on these words.
-- Report bytes that wait.
use Rattle.std.specs.Prelude.{ℕ, List, Bool}
use Rattle.session.specs.declared.report.Report.{Report}
use Rattle.session.specs.Pieces.{untaken}

-- the bytes that were written and not yet taken
abbrev pub waiting_in : Report → List ℕ
waiting_in report = untaken report.bytes

-- a write wanted memory
abbrev pub has_failed : Report → Bool
has_failed report = report.failed
