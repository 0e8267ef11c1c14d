-- Procedures that a document says fit the tables.
use Rattle.std.proofs.Common.{◌≡◌, ℕ, ◌+◌, List, [], ◌∷◌, ◌++◌, Ok, subst}
use Rattle.std.specs.Prelude.{codes}
use Rattle.std.specs.List.{AllByRecursion}
use Rattle.serde_json.specs.Data.{Data}
use Rattle.documents.specs.Json.{versioned_list}
use Rattle.documents.specs.Reading.{formed}
use Rattle.documents.proofs.Steps.{bind_ok}
use Rattle.catalogue.specs.Shapes.{TableShape}
use Rattle.proclang_types.specs.Syntax.{ProcSyntax}
use Rattle.proclang_types.specs.Typing.{ProcFits}
use Rattle.proclang_expressions.specs.declared.fault.FaultKind.TheVariants.{Shape}
use Rattle.proclang_expressions.specs.declared.fault.ProcFault.TheVariants.{At}
use Rattle.proclang_expressions.specs.Walk.{each_from, appended, at_most}
use Rattle.proclang_expressions.proofs.TypedParts.{all_push}
use Rattle.proclang_forms.specs.ProcForms.{proc_form}
use Rattle.proclang.specs.Procs.{fresh_at, parts_at, proc_at, procs_at}
use Rattle.proclang.specs.Says.{SaysProcs}
use Rattle.proclang.proofs.SaidProcs.{procs_read}
use Rattle.proclang.proofs.TypedProcs.{parts_fit}

one_fits : (tables : List TableShape) (path : List ℕ) (before : List ProcSyntax) (d : Data) (p : ProcSyntax) → proc_at tables path before d ≡ Ok p → ProcFits tables p
unfolding proc_at
one_fits tables path before d p e =
    let form = bind_ok (formed (At Shape path) (proc_form d)) _ p e in
    let name = bind_ok (fresh_at (λ q. q.name) (path ++ 0 ∷ []) before form.0.name) _ p form.2 in
    let parts = bind_ok (parts_at tables path form.0) _ p name.2 in
    let made : ProcSyntax = record { name = form.0.name; params = parts.0.params; footprint = parts.0.footprint; body = parts.0.body } in
    let is : made ≡ p = (let h = parts.2 in cc) in
    subst (ProcFits tables) is (parts_fit tables path form.0 form.0.name parts.0 parts.1)

each_fits : (tables : List TableShape) (path : List ℕ) (place : ℕ) (before : List ProcSyntax) (ds : List Data) (all : List ProcSyntax) → AllByRecursion (ProcFits tables) before
    → each_from (λ p b d. appended b (proc_at tables p b d)) path place before ds ≡ Ok all → AllByRecursion (ProcFits tables) all
each_fits tables path place before [] all h e = let is : before ≡ all = cc in subst (AllByRecursion (ProcFits tables)) is h
each_fits tables path place before (d ∷ ds) all h e =
    let step = bind_ok (appended before (proc_at tables (path ++ place ∷ []) before d)) _ all e in
    let p = bind_ok (proc_at tables (path ++ place ∷ []) before d) _ step.0 step.1 in
    let is : before ++ p.0 ∷ [] ≡ step.0 = (let g = p.2 in cc) in
    each_fits tables path (place + 1) step.0 ds all
    (subst (AllByRecursion (ProcFits tables)) is (all_push (ProcFits tables) before p.0 h (one_fits tables (path ++ place ∷ []) before d p.0 p.1))) step.2

pub procs_fit : (tables : List TableShape) (d : Data) (ps : List ProcSyntax) → SaysProcs tables d ps → AllByRecursion (ProcFits tables) ps
unfolding procs_at
procs_fit tables d ps h =
    let ds = bind_ok (formed (At Shape []) (versioned_list (codes "procs") d)) _ ps (procs_read tables d ps h) in
    let few = bind_ok (at_most (2 ∷ []) 256 ds.0) _ ps ds.2 in
    each_fits tables (2 ∷ []) 0 [] ds.0 ps tt few.2
