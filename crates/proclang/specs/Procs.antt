-- Claimed: what contracts promise to a reader rests on these words.
-- Reading procedures into typed syntax, with the first fault that is met and its path.
use Rattle.std.specs.Prelude.{ℕ, List, [], ◌∷◌, ◌++◌, map, not, Result, Ok, codes, ⊤}
use Rattle.serde_json.specs.Data.{Data}
use Rattle.documents.specs.Json.{versioned_list}
use Rattle.documents.specs.Reading.{◌>>=◌, formed, rule}
use Rattle.catalogue.specs.Shapes.{TableShape}
use Rattle.catalogue.specs.Reading.{column_form, is_used}
use Rattle.proclang_types.specs.Syntax.{IntSyntax, EntrySyntax, row_entry, rows_entry, part_entry, table_entry, db_entry, FootprintSyntax, declared_by, found_by_recon, ParamShape, StmtSyntax, ProcSyntax}
use Rattle.proclang_types.specs.Procedures.{param_shape}
use Rattle.proclang_types.specs.Views.{footprint_view, stmts_view}
use Rattle.proclang.specs.declared.read_proc.Parts.{Parts}
use Rattle.proclang_expressions.specs.declared.fault.FaultKind.TheVariants.{Shape, DuplicateName}
use Rattle.proclang_expressions.specs.declared.fault.ProcFault.{ProcFault}
use Rattle.proclang_expressions.specs.declared.fault.ProcFault.TheVariants.{At}
use Rattle.proclang_forms.specs.declared.expr_forms.Section.TheVariants as sections
use Rattle.proclang_expressions.specs.Seen.{Seen, seen_of}
use Rattle.proclang_expressions.specs.Walk.{each_from, appended, at_most}
use Rattle.proclang_expressions.specs.Lookups.{declared_at, table_called}
use Rattle.proclang_expressions.specs.Expressions.{deepest, as_int, expr_at}
use Rattle.proclang.specs.Statements.{block_at}
use Rattle.proclang_forms.specs.ProcForms.{ProcDocument, proc_form, FootprintDocument, declared_parts, recon_parts, footprint_form, EntryDocument, row_parts, rows_parts, part_parts, table_parts, db_parts, entry_form}

-- ---- parameters

-- a name that none before it has
abbrev pub fresh_at : {X : Type 0} → (X → List ℕ) → List ℕ → List X → List ℕ → Result ⊤ ProcFault
fresh_at name_of path before name = do
  _ ← declared_at path name
  rule (not (is_used name_of name before)) (At DuplicateName path)

-- a parameter, after those before it
unfoldable pub param_at : List ℕ → List ParamShape → Data → Result ParamShape ProcFault
param_at path before d = do
  form ← formed (At Shape path) (column_form d)
  _ ← fresh_at (λ p. p.name) (path ++ 0 ∷ []) before form.0
  Ok (record { name = form.0; kind = form.1 })

abbrev pub each_param : List ℕ → List Data → Result (List ParamShape) ProcFault
each_param path ds = each_from (λ p before d. appended before (param_at p before d)) path 0 [] ds

-- at most 16 parameters
unfoldable pub params_at : List ℕ → List Data → Result (List ParamShape) ProcFault
params_at path ds = do
  _ ← at_most path 16 ds
  each_param path ds

-- ---- footprints

-- an Int expression over the parameters, which reads no rows
unfoldable pub int_at : List TableShape → List ℕ → List Seen → Data → Result IntSyntax ProcFault
int_at tables path scope d = do
  e ← expr_at sections.Footprint tables deepest path scope d
  as_int path e

unfoldable pub entry_of : List TableShape → List ℕ → List Seen → EntryDocument → Result EntrySyntax ProcFault
entry_of tables path scope (row_parts right table key) = do
  t ← table_called (path ++ 2 ∷ []) tables table
  k ← int_at tables (path ++ 3 ∷ []) scope key
  Ok (row_entry right t k)
entry_of tables path scope (rows_parts right table low high) = do
  t ← table_called (path ++ 2 ∷ []) tables table
  l ← int_at tables (path ++ 3 ∷ []) scope low
  h ← int_at tables (path ++ 4 ∷ []) scope high
  Ok (rows_entry right t l h)
entry_of tables path scope (part_parts right table part) = do
  t ← table_called (path ++ 2 ∷ []) tables table
  p ← int_at tables (path ++ 3 ∷ []) scope part
  Ok (part_entry right t p)
entry_of tables path scope (table_parts right table) = do
  t ← table_called (path ++ 2 ∷ []) tables table
  Ok (table_entry right t)
entry_of tables path scope (db_parts right) = Ok (db_entry right)

-- an entry of a footprint
unfoldable pub entry_at : List TableShape → List Seen → List ℕ → Data → Result EntrySyntax ProcFault
entry_at tables scope path d = do
  form ← formed (At Shape path) (entry_form d)
  entry_of tables path scope form

-- entries at the places from 1 on
abbrev pub each_entry : List TableShape → List ℕ → List Seen → List Data → Result (List EntrySyntax) ProcFault
each_entry tables path scope ds = each_from (λ p before e. appended before (entry_at tables scope p e)) path 1 [] ds

unfoldable pub footprint_from : List TableShape → List ℕ → List Seen → FootprintDocument
    → Result FootprintSyntax ProcFault
footprint_from tables path scope (declared_parts ds) = do
  _ ← at_most path 256 ds
  entries ← each_entry tables path scope ds
  Ok (declared_by entries)
footprint_from tables path scope recon_parts = Ok found_by_recon

-- a footprint: at most 256 entries, or that reconnaissance finds it
unfoldable pub footprint_at : List TableShape → List ℕ → List Seen → Data → Result FootprintSyntax ProcFault
footprint_at tables path scope d = do
  form ← formed (At Shape path) (footprint_form d)
  footprint_from tables path scope form

-- ---- procedures

-- what follows a procedure's name
pub record PartsSyntax : Type 0 where
  pub params : List ParamShape
  pub footprint : FootprintSyntax
  pub body : List StmtSyntax

abbrev pub parts_view : Parts → PartsSyntax
parts_view p = record {
  params = map param_shape p.params.items;
  footprint = footprint_view p.footprint;
  body = stmts_view p.body.items;
}

unfoldable pub parts_at : List TableShape → List ℕ → ProcDocument → Result PartsSyntax ProcFault
parts_at tables path form = do
  params ← params_at (path ++ 1 ∷ []) form.params
  footprint ← footprint_at tables (path ++ 2 ∷ []) (seen_of params) form.footprint
  body ← block_at tables deepest (path ++ 3 ∷ []) (seen_of params) form.body
  Ok (record { params = params; footprint = footprint; body = body })

-- a procedure read from left to right: its typed syntax, or its first fault and the path to it
unfoldable pub proc_at : List TableShape → List ℕ → List ProcSyntax → Data → Result ProcSyntax ProcFault
proc_at tables path before d = do
  form ← formed (At Shape path) (proc_form d)
  _ ← fresh_at (λ p. p.name) (path ++ 0 ∷ []) before form.name
  parts ← parts_at tables path form
  Ok (record { name = form.name; params = parts.params; footprint = parts.footprint; body = parts.body })

abbrev pub each_proc : List TableShape → List ℕ → List Data → Result (List ProcSyntax) ProcFault
each_proc tables path ds = each_from (λ p before e. appended before (proc_at tables p before e)) path 0 [] ds

-- the procedures that a document says over the tables of a catalogue, or its first fault
unfoldable pub procs_at : List TableShape → Data → Result (List ProcSyntax) ProcFault
procs_at tables d = do
  ds ← formed (At Shape []) (versioned_list (codes "procs") d)
  _ ← at_most (2 ∷ []) 256 ds
  each_proc tables (2 ∷ []) ds
