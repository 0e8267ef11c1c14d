-- Of the code: invariants and steps; no promise rests on these words.
-- What a step of a declaration gives, and how it may stop.
use Rattle.std.specs.Prelude.{◌≡◌, Result, Ok, Err, ⊤}
use Rattle.footprint.specs.declared.abort_code.AbortCode.{AbortCode}
use Rattle.footprint.specs.declared.declare.DeclarationFault.{DeclarationFault}
use Rattle.footprint.specs.declared.declare.DeclarationFault.TheVariants.{Memory, Abort}

-- it stopped with the abort, unless memory ran out
abbrev pub FaultsWith : {Y : Type 0} → DeclarationFault → Result Y AbortCode → Type 0
FaultsWith Memory meant = ⊤
FaultsWith (Abort code) meant = meant ≡ Err code

-- what a function answered is what is meant, unless memory ran out
abbrev pub EvaluatesTo : {Y : Type 0} → Result Y DeclarationFault → Result Y AbortCode → Type 0
EvaluatesTo (Ok x) meant = meant ≡ Ok x
EvaluatesTo (Err stop) meant = FaultsWith stop meant
