-- Which line a fault names.
use Rattle.std.proofs.Common.{◌≡◌, ℕ, ◌+◌, ◌||◌, List, [], ◌∷◌, ◌++◌, append_assoc, length, Bool, true, false, cond, Option, Some, None, refl, sym, ◌∙◌, ap, subst, arith}
use Rattle.std.specs.Io.KnownBytes.{Consumes, prepend_known}
use Rattle.devices.specs.Lines.{line_number, lines_of, newlines_in, next_number}
use Rattle.devices.specs.LineReader.{Position, position_after}
use Rattle.batch_log.specs.declared.fault.LogFaultKind.{LogFaultKind}
use Rattle.batch_log.specs.declared.fault.LogFaultKind.TheVariants.{NotJson, Shape, UnknownProc, Args, BatchTooLong, Io, Memory}
use Rattle.batch_log.specs.declared.fault.LogFault.{LogFault}
use Rattle.batch_log.specs.Faults.{is_io, IsOfLine, line_named}
use Rattle.batch_log.specs.Moves.{Moves}
use Rattle.running.specs.declared.run_fault.RunFault.{RunFault}
use Rattle.running.specs.declared.run_fault.RunFault.TheVariants as runs
use Rattle.running.specs.Transcripts.{IsOfMachine}
use Rattle.running.specs.Stops.{IfOfLine, IfOfMachine, IsLineOf, IsMachineFault, last_line}

-- ---- a fault of a line, or of a machine

not_both : (kind : LogFaultKind) → IsOfMachine kind → IsOfLine kind → ⊥
not_both NotJson m l = m
not_both Shape m l = m
not_both UnknownProc m l = m
not_both Args m l = m
not_both BatchTooLong m l = m
not_both Io m l = cc
not_both Memory m l = cc

pub not_of_line : (fault : RunFault) (line : ℕ) (P : LogFault → Type 0) → IsMachineFault line fault → IfOfLine fault P
not_of_line (runs.Log fault) line P h = λ of. absurd (not_both fault.kind h.0 of)
not_of_line (runs.Spawn at) line P h = tt

pub at_line : (fault : RunFault) (line : ℕ) (P : ℕ → Type 0) → IsMachineFault line fault → P line → IfOfMachine fault P
at_line (runs.Log fault) line P h p = λ _. subst P (sym h.1) p
at_line (runs.Spawn at) line P h p = subst P (sym h) p

-- ---- where a reader stands after the bytes that it took

abbrev pub nothing_taken : Position
nothing_taken = record { newlines = 0; begun = 0 }

none_plus : (n : ℕ) → 0 + n ≡ n
none_plus n = omega arith

pub newlines_after : (taken : List ℕ) → (position_after nothing_taken taken).newlines ≡ line_number (newlines_in taken)
newlines_after [] = refl
newlines_after (b ∷ rest) = ap line_number (none_plus (newlines_in (b ∷ rest)))

pub begun_after : (taken : List ℕ) → (position_after nothing_taken taken).begun ≡ last_line taken
begun_after [] = refl
begun_after (b ∷ rest) = ap line_number (none_plus (length (lines_of (b ∷ rest))))

pub next_of_number : (n : ℕ) → next_number (line_number n) ≡ next_number n
next_of_number n = omega arith

pub none_before : (left : Option (List ℕ)) → prepend_known [] left ≡ left
none_before None = refl
none_before (Some x) = refl

pub taken_and_came : (old left : Option (List ℕ)) (taken came : List ℕ) → Consumes old (prepend_known came left) taken → Consumes old left (taken ++ came)
taken_and_came None left taken came h = tt
taken_and_came (Some x) None taken came h = absurd h
taken_and_came (Some x) (Some y) taken came h = h ∙ sym (append_assoc taken came y)

line_by : (failed : Bool) (old left : Option (List ℕ)) (came : List ℕ) (p : Position) (line : ℕ) → line ≡ cond failed (next_number p.newlines) p.begun → (failed ≡ true → came ≡ []) →
    Moves old (prepend_known came left) nothing_taken p → IsLineOf failed old left line
line_by true old left came p line e spent m =
    let now : Option (List ℕ) → Type 0 = λ o. Consumes old o m.bytes in
    let newlines : p.newlines ≡ line_number (newlines_in m.bytes) = ap (λ (q : Position). q.newlines) m.takes.1 ∙ newlines_after m.bytes in (
      m.bytes,
      subst now (ap (λ c. prepend_known c left) (spent refl) ∙ none_before left) m.takes.0,
      e ∙ ap next_number newlines ∙ next_of_number (newlines_in m.bytes),
    )
line_by false old left came p line e spent m =
    let begun : p.begun ≡ last_line m.bytes = ap (λ (q : Position). q.begun) m.takes.1 ∙ begun_after m.bytes in
    (m.bytes, came, taken_and_came old left m.bytes came m.takes.0, e ∙ begun)

-- the line of the fault of a read, or of memory
pub line_of_fault : (kind : LogFaultKind) (failed : Bool) (old left : Option (List ℕ)) (came : List ℕ) (p : Position) (line : ℕ) → failed ≡ is_io kind → line ≡ line_named kind p → (is_io kind ≡ true → came ≡ []) →
    Moves old (prepend_known came left) nothing_taken p → IsLineOf failed old left line
line_of_fault kind failed old left came p line f e spent m = rw f (line_by (is_io kind) old left came p line e spent m)

-- the line of another fault: the one last begun
pub line_begun_is : (failed : Bool) (old left : Option (List ℕ)) (came : List ℕ) (p : Position) (line : ℕ) → failed ≡ false → line ≡ p.begun →
    Moves old (prepend_known came left) nothing_taken p → IsLineOf failed old left line
line_begun_is failed old left came p line f e m = rw f (line_by false old left came p line e (λ g. cc) m)

-- ---- which devices have failed

pub or_read : (a b new io : Bool) → new ≡ (a || io) → (new || b) ≡ ((a || b) || io)
or_read true true new io e = rw e refl
or_read true false new io e = rw e refl
or_read false true new true e = rw e refl
or_read false true new false e = rw e refl
or_read false false new true e = rw e refl
or_read false false new false e = rw e refl

pub or_write : (a b new io : Bool) → new ≡ (b || io) → (a || new) ≡ ((a || b) || io)
or_write true b new io e = refl
or_write false b new io e = e
