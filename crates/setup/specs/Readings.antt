-- Claimed: what contracts promise to a reader rests on these words.
-- What comes of reading a setup.
use Rattle.std.specs.Prelude.{◌≡◌, true, false, Result, Ok, IfOk, IfErr, OnOk}
use Rattle.documents.specs.Reading.{Reads}
use Rattle.requests.specs.ProcLists.{AreOver}
use Rattle.setup.specs.declared.document.SetupDocument.{SetupDocument}
use Rattle.setup.specs.declared.fault.SetupFault.{SetupFault}
use Rattle.setup.specs.Faults.{is_memory}
use Rattle.setup.specs.Setups.{SetupShape, setup_view}

-- What comes of reading a text or a document: the setup that it says (`says`) was read, or the first rule that it
-- breaks (`breaks`) was told, or allocation failed. `said` is the answer that reading from left to right gives.
pub record IsReading (says : SetupShape → Type 0) (breaks : SetupFault → Type 0) (said : Result SetupShape SetupFault)
    (result : Result SetupDocument SetupFault) : Type 0 where
  -- What is read is what is said, and each procedure is over the catalogue.
  pub found : IfOk result (λ s. says (setup_view s))
  pub over : IfOk result (λ s. AreOver s.setup.catalogue s.setup.procs.procs)
  -- A setup that is said is what is read, unless memory runs out.
  pub only : (s : SetupShape) → says s → Reads is_memory setup_view result (Ok s)
  -- The fault is that of the first rule that is broken.
  pub first : IfErr result (λ e. is_memory e ≡ false → breaks e)
  -- Where a setup is read no rule is broken, and where none is broken a setup is read, unless memory runs out.
  pub unbroken : OnOk result ((e : SetupFault) → breaks e → ⊥)
  pub none : ((e : SetupFault) → breaks e → ⊥) → IfErr result (λ e. is_memory e ≡ true)
  -- The answer is that of reading from left to right, unless memory runs out.
  pub exact : Reads is_memory setup_view result said
