-- Claimed: what contracts promise to a reader rests on these words.
-- Which faults say that allocation failed.
use Rattle.std.specs.Prelude.{Bool, true, false}
use Rattle.setup.specs.declared.fault.SetupFault.{SetupFault}
use Rattle.setup.specs.declared.fault.SetupFault.TheVariants.{Memory, Catalogue, Procedure}
use Rattle.catalogue.specs.Reading as catalogue
use Rattle.proclang_expressions.specs.Faults as procedures

-- the fault of a setup, of its catalogue or of its procedures is that allocation failed
abbrev pub is_memory : SetupFault → Bool
is_memory Memory = true
is_memory (Catalogue fault) = catalogue.is_memory fault
is_memory (Procedure fault) = procedures.is_memory fault
is_memory fault = false
