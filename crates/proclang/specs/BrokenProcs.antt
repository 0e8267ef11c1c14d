-- Claimed: what contracts promise to a reader rests on these words.
-- The faults of a document of procedures, each with its path, in the order in which rules are looked at: the first is
-- the one that is answered, and there is none where no rule is broken. Those after the first may follow from it, and be
-- of rules that the document keeps: a parameter whose type is refused is no variable, so a use of its name counts here
-- as that of an unknown one. No rule here depends on what reading gives.
use Rattle.std.specs.Prelude.{ℕ, ◌+◌, not, List, [], ◌∷◌, ◌++◌, Option, Some, None, option_map, codes}
use Rattle.std.specs.Option.{option_to_list}
use Rattle.serde_json.specs.Data.{Data}
use Rattle.documents.specs.FirstFault.{broken}
use Rattle.documents.specs.Json.{versioned_list}
use Rattle.catalogue.specs.Broken.{is_among}
use Rattle.values.specs.declared.value.ColType.{ColType}
use Rattle.values.specs.Names.{is_name}
use Rattle.catalogue.specs.Reading.{column_form}
use Rattle.catalogue.specs.Shapes.{TableShape}
use Rattle.proclang_types.specs.Syntax.{ParamShape}
use Rattle.proclang_expressions.specs.declared.fault.FaultKind.TheVariants.{Shape, DuplicateName}
use Rattle.proclang_expressions.specs.declared.fault.ProcFault.{ProcFault}
use Rattle.proclang_expressions.specs.declared.fault.ProcFault.TheVariants.{At}
use Rattle.proclang_forms.specs.declared.expr_forms.Section.TheVariants as sections
use Rattle.proclang_expressions.specs.BrokenExpressions.{not_int, in_expr}
use Rattle.proclang_expressions.specs.BrokenNames.{not_table}
use Rattle.proclang_expressions.specs.BrokenParts.{in_parts, too_many}
use Rattle.proclang.specs.BrokenStatements.{in_block}
use Rattle.proclang_expressions.specs.Expressions.{deepest}
use Rattle.proclang_forms.specs.ProcForms.{ProcDocument, proc_form, FootprintDocument, declared_parts, recon_parts, footprint_form, EntryDocument, row_parts, rows_parts, part_parts, table_parts, db_parts, entry_form}
use Rattle.proclang_expressions.specs.Seen.{Seen, seen_of}

-- those of each part in turn, the first at the place that is given, after the names that the parts before it give
abbrev pub in_named_parts : (Data → Option (List ℕ)) → (List ℕ → List (List ℕ) → Data → List ProcFault) → List ℕ → ℕ
    → List (List ℕ) → List Data → List ProcFault
in_named_parts named one path place names [] = []
in_named_parts named one path place names (d ∷ ds) =
    one (path ++ place ∷ []) names d ++ in_named_parts named one path (place + 1) (names ++ option_to_list (named d)) ds

-- a name obeys the rule, and none before it is the same
abbrev pub in_new_name : List ℕ → List (List ℕ) → List ℕ → List ProcFault
in_new_name path names name =
    broken (is_name name) (At Shape path) ++ broken (not (is_among name names)) (At DuplicateName path)

-- ---- parameters

abbrev pub name_of_param : Data → Option (List ℕ)
name_of_param d = option_map (λ (f : List ℕ × ColType). f.0) (column_form d)

abbrev pub in_param_form : List ℕ → List (List ℕ) → Option (List ℕ × ColType) → List ProcFault
in_param_form path names None = At Shape path ∷ []
in_param_form path names (Some f) = in_new_name (path ++ 0 ∷ []) names f.0

abbrev pub in_param : List ℕ → List (List ℕ) → Data → List ProcFault
in_param path names d = in_param_form path names (column_form d)

-- the rules that parameters break: at most 16, each with a name of its own
abbrev pub in_params : List ℕ → List Data → List ProcFault
in_params path ds = too_many path 16 ds ++ in_named_parts name_of_param in_param path 0 [] ds

-- the parameters that documents say
abbrev pub params_of_form : Option (List ℕ × ColType) → List ParamShape → List ParamShape
params_of_form None params = params
params_of_form (Some f) params = record { name = f.0; kind = f.1 } ∷ params

abbrev pub params_said : List Data → List ParamShape
params_said [] = []
params_said (d ∷ ds) = params_of_form (column_form d) (params_said ds)

-- ---- footprints

-- an Int expression over the parameters, which reads no rows
abbrev pub in_int : List TableShape → List ℕ → List Seen → Data → List ProcFault
in_int tables path scope d = in_expr sections.Footprint tables deepest path scope d ++ not_int path scope d

abbrev pub in_entry_form : List TableShape → List ℕ → List Seen → Option EntryDocument → List ProcFault
in_entry_form tables path scope None = At Shape path ∷ []
in_entry_form tables path scope (Some (row_parts right table key)) =
    not_table (path ++ 2 ∷ []) tables table ++ in_int tables (path ++ 3 ∷ []) scope key
in_entry_form tables path scope (Some (rows_parts right table low high)) =
    not_table (path ++ 2 ∷ []) tables table
    ++ (in_int tables (path ++ 3 ∷ []) scope low ++ in_int tables (path ++ 4 ∷ []) scope high)
in_entry_form tables path scope (Some (part_parts right table part)) =
    not_table (path ++ 2 ∷ []) tables table ++ in_int tables (path ++ 3 ∷ []) scope part
in_entry_form tables path scope (Some (table_parts right table)) = not_table (path ++ 2 ∷ []) tables table
in_entry_form tables path scope (Some (db_parts right)) = []

-- the rules that an entry of a footprint breaks
abbrev pub in_entry : List TableShape → List Seen → List ℕ → Data → List ProcFault
in_entry tables scope path d = in_entry_form tables path scope (entry_form d)

abbrev pub in_footprint_form : List TableShape → List ℕ → List Seen → Option FootprintDocument → List ProcFault
in_footprint_form tables path scope None = At Shape path ∷ []
in_footprint_form tables path scope (Some (declared_parts ds)) =
    too_many path 256 ds ++ in_parts (in_entry tables scope) path 1 ds
in_footprint_form tables path scope (Some recon_parts) = []

-- the rules that a footprint breaks
abbrev pub in_footprint : List TableShape → List ℕ → List Seen → Data → List ProcFault
in_footprint tables path scope d = in_footprint_form tables path scope (footprint_form d)

-- ---- procedures

abbrev pub name_of_proc : Data → Option (List ℕ)
name_of_proc d = option_map (λ (p : ProcDocument). p.name) (proc_form d)

abbrev pub in_proc_form : List TableShape → List ℕ → List (List ℕ) → Option ProcDocument → List ProcFault
in_proc_form tables path names None = At Shape path ∷ []
in_proc_form tables path names (Some form) =
    in_new_name (path ++ 0 ∷ []) names form.name
    ++ (in_params (path ++ 1 ∷ []) form.params
    ++ (in_footprint tables (path ++ 2 ∷ []) (seen_of (params_said form.params)) form.footprint
    ++ in_block tables deepest (path ++ 3 ∷ []) (seen_of (params_said form.params)) form.body))

-- the rules that a procedure breaks, after procedures of these names
abbrev pub in_proc : List TableShape → List ℕ → List (List ℕ) → Data → List ProcFault
in_proc tables path names d = in_proc_form tables path names (proc_form d)

-- the rules that procedures break: at most 256, and those of each
abbrev pub in_procs_form : List TableShape → Option (List Data) → List ProcFault
in_procs_form tables None = At Shape [] ∷ []
in_procs_form tables (Some ds) =
    too_many (2 ∷ []) 256 ds ++ in_named_parts name_of_proc (in_proc tables) (2 ∷ []) 0 [] ds

-- the faults of a document of procedures over the tables of a catalogue, the first of which is answered
abbrev pub procedures_faults : List TableShape → Data → List ProcFault
procedures_faults tables d = in_procs_form tables (versioned_list (codes "procs") d)
