-- What the next line says.
use Rattle.std.proofs.Common.{◌≡◌, ℕ, ◌||◌, List, ◌∷◌, map, Bool, true, false, Result, ◌∙◌, ap}
use Rattle.devices.specs.Lines.{numbered_lines}
use Rattle.proclang_types.specs.Procedures.{ProcParts}
use Rattle.batch_log.specs.declared.fault.LogFaultKind.{LogFaultKind}
use Rattle.batch_log.specs.declared.line.LogLine.{LogLine}
use Rattle.batch_log.specs.Faults.{is_io, is_memory, IsOfLine}
use Rattle.batch_log.specs.Lines.{line_said, lines_said}

pub said_next : (procs : List ProcParts) (n m begun : ℕ) (line xs ys : List ℕ) (said : Result LogLine LogFaultKind) → line_said procs line ≡ said →
    numbered_lines n xs ≡ (begun, line) ∷ numbered_lines m ys → lines_said procs n xs ≡ (begun, said) ∷ lines_said procs m ys
said_next procs n m begun line xs ys said e q =
    ap (λ lines. map (λ l. (l.0, line_said procs l.1)) lines) q ∙ ap (λ s. (begun, s) ∷ lines_said procs m ys) e

no_memory : (a b : Bool) → (a || b) ≡ false → b ≡ false
no_memory true b e = absurd cc
no_memory false b e = e

pub of_line : (kind : LogFaultKind) → IsOfLine kind → is_memory kind ≡ false
of_line kind h = no_memory (is_io kind) (is_memory kind) h
