-- Laws of the batches of a log.
use Rattle.std.proofs.Common.{◌≡◌, List, [], ◌∷◌, ◌++◌, append_assoc, append-nil, map, Ok, Err, refl, sym, ◌∙◌, ap}
use Rattle.requests.specs.Requests as requests
use Rattle.batch_log.specs.declared.line.LogLine.{LogLine}
use Rattle.batch_log.specs.declared.line.LogLine.TheVariants.{Call, Cut}
use Rattle.batch_log.specs.Lines.{Lines}
use Rattle.batch_log.specs.Log.{batches_of, first_fault}
use Rattle.batch_log.specs.CutLaws.{with_cuts, Say, BatchesAreReadBack, EndIsACut, FaultIsNoCut}
use Rattle.batch_log.proofs.Batches.{Reads, Reads-none, Reads-step, NextBatch-step, NextBatch-last, Fault-step}

abbrev Calls : Type 0
Calls = List requests.Call

-- lines that say calls, and more after them
record After (whole tail : Lines) (before calls : Calls) (more : List LogLine) : Type 0 where
  rest : Lines
  reads : Reads whole (before ++ calls) (rest ++ tail)
  says : Say rest more

after_calls : (whole lines tail : Lines) (before calls : Calls) (more : List LogLine) → Reads whole before (lines ++ tail) → Say lines (map Call calls ++ more) → After whole tail before calls more
after_calls whole lines tail before [] more r s = record { rest = lines; reads = rw append-nil r; says = s }
after_calls whole [] tail before (c ∷ calls) more r s = absurd cc
after_calls whole (line ∷ lines) tail before (c ∷ calls) more r s =
    let first : line.1 ≡ Ok (Call c) = cc in
    let step : Reads whole (before ++ c ∷ []) (lines ++ tail) = Reads-step whole (line ∷ lines ++ tail) (lines ++ tail) before line.0 c line.1 first r refl in
    let then_ = after_calls whole lines tail (before ++ c ∷ []) calls more step (cc) in
    record { rest = then_.rest; reads = rw append_assoc at then_.reads; says = then_.says }

-- whole batches, and more after them
record IsAfter (whole tail : Lines) (batches : List Calls) (more : List LogLine) : Type 0 where
  rest : Lines
  batches_are : batches_of whole ≡ batches ++ batches_of (rest ++ tail)
  fault_is : first_fault whole ≡ first_fault (rest ++ tail)
  says : Say rest more

after_cut : (whole tail rest : Lines) (calls : Calls) (batches : List Calls) (more : List LogLine) → Reads whole calls (rest ++ tail) → Say rest (Cut ∷ with_cuts batches ++ more) →
    ((lines : Lines) → Say lines (with_cuts batches ++ more) → IsAfter (lines ++ tail) tail batches more) → IsAfter whole tail (calls ∷ batches) more
after_cut whole tail [] calls batches more r s each = absurd cc
after_cut whole tail (line ∷ rest) calls batches more r s each =
    let first : line.1 ≡ Ok Cut = cc in
    let next = NextBatch-step whole (line ∷ rest ++ tail) (rest ++ tail) calls line.0 r (ap (λ said. (line.0, said) ∷ (rest ++ tail)) first) in
    let later = each rest (cc) in
    record {
      rest = later.rest;
      batches_are = next.batches ∙ ap (λ bs. calls ∷ bs) later.batches_are;
      fault_is = next.fault ∙ later.fault_is;
      says = later.says;
    }

after_cuts : (batches : List Calls) (lines tail : Lines) (more : List LogLine) → Say lines (with_cuts batches ++ more) → IsAfter (lines ++ tail) tail batches more
after_cuts [] lines tail more s = record { rest = lines; batches_are = refl; fault_is = refl; says = s }
after_cuts (calls ∷ batches) lines tail more s =
    let said : Say lines (map Call calls ++ (Cut ∷ with_cuts batches ++ more)) = rw append_assoc at s in
    let after = after_calls (lines ++ tail) lines tail [] calls (Cut ∷ with_cuts batches ++ more) (Reads-none (lines ++ tail)) said in
    after_cut (lines ++ tail) tail after.rest calls batches more after.reads after.says (λ rest t. after_cuts batches rest tail more t)

no_lines : (lines : Lines) → Say lines [] → lines ≡ []
no_lines [] s = refl
no_lines (line ∷ lines) s = absurd cc

pub back : BatchesAreReadBack
back batches lines s =
    let later = after_cuts batches lines [] [] (rw append-nil s) in
    let none : later.rest ++ [] ≡ [] = append-nil later.rest ∙ no_lines later.rest later.says in (
      ap batches_of (sym (append-nil lines)) ∙ later.batches_are ∙ ap (λ l. batches ++ batches_of l) none ∙ append-nil batches,
      ap first_fault (sym (append-nil lines)) ∙ later.fault_is ∙ ap first_fault none,
    )

pub end : EndIsACut
end batches calls lines some s =
    let later = after_cuts batches lines [] (map Call calls) s in
    let after = after_calls (later.rest ++ []) later.rest [] [] calls [] (Reads-none (later.rest ++ [])) (rw append-nil later.says) in
    let none : after.rest ++ [] ≡ [] = append-nil after.rest ∙ no_lines after.rest after.says in
    let last = NextBatch-last (later.rest ++ []) (after.rest ++ []) calls some after.reads none in (
      ap batches_of (sym (append-nil lines)) ∙ later.batches_are ∙ ap (λ bs. batches ++ bs) last.batches,
      ap first_fault (sym (append-nil lines)) ∙ later.fault_is ∙ last.fault,
    )

pub fault : FaultIsNoCut
fault batches calls lines n kind rest s =
    let tail : Lines = (n, Err kind) ∷ rest in
    let later = after_cuts batches lines tail (map Call calls) s in
    let after = after_calls (later.rest ++ tail) later.rest tail [] calls [] (Reads-none (later.rest ++ tail)) (rw append-nil later.says) in
    let none : after.rest ++ tail ≡ tail = ap (λ l. l ++ tail) (no_lines after.rest after.says) in
    let first = Fault-step (later.rest ++ tail) (after.rest ++ tail) rest calls n kind (Err kind) refl after.reads none in
    (later.batches_are ∙ ap (λ bs. batches ++ bs) first.batches ∙ append-nil batches, later.fault_is ∙ first.first)
