-- The fault that reading procedures meets is the first rule that their document breaks.
use Rattle.std.proofs.Common.{◌≡◌, ◌⊎◌, inl, inr, ℕ, ◌+◌, Bool, true, false, ◌||◌, not, leb, List, [], ◌∷◌, ◌++◌, length, map, Option, Some, option_map, Result, Ok, Err, refl, sym, ap, ◌∙◌, subst, append_assoc}
use Rattle.std.specs.Prelude.{codes}
use Rattle.std.specs.Option.{option_to_list}
use Rattle.std.specs.Str.{bytes_eq}
use Rattle.std.proofs.lemmas.List.{append-nil, map-append}
use Rattle.serde_json.specs.Data.{Data}
use Rattle.documents.specs.FirstFault.{broken, first, IsFirst}
use Rattle.documents.specs.Json.{versioned_list}
use Rattle.documents.specs.Reading.{◌>>=◌, formed, rule}
use Rattle.documents.proofs.FirstFault.{bind_first, formed_first, ok_first, rule_first}
use Rattle.documents.proofs.Steps.{bind_ok, formed_ok}
use Rattle.catalogue.specs.Broken.{is_among}
use Rattle.values.specs.declared.value.ColType.{ColType}
use Rattle.values.specs.Names.{is_name}
use Rattle.catalogue.specs.Reading.{column_form, is_used}
use Rattle.catalogue.specs.Shapes.{TableShape}
use Rattle.catalogue.specs.Places.{table_named}
use Rattle.proclang_types.specs.Syntax.{row_entry, rows_entry, part_entry, table_entry, declared_by, ParamShape, ProcSyntax}
use Rattle.proclang_expressions.specs.declared.fault.FaultKind.TheVariants.{Shape, UnknownTable, DuplicateName, Limit}
use Rattle.proclang_expressions.specs.declared.fault.ProcFault.{ProcFault}
use Rattle.proclang_expressions.specs.declared.fault.ProcFault.TheVariants.{Memory, At}
use Rattle.proclang_expressions.specs.Faults.{is_memory}
use Rattle.proclang_expressions.specs.Seen.{Seen, seen_of}
use Rattle.proclang_expressions.specs.Walk.{each_from, appended, at_most}
use Rattle.proclang_expressions.specs.Lookups.{table_called}
use Rattle.proclang_expressions.specs.Expressions.{deepest, as_int, expr_at}
use Rattle.proclang.specs.Statements.{block_at}
use Rattle.proclang_forms.specs.ProcForms.{ProcDocument, proc_form, FootprintDocument, declared_parts, recon_parts, footprint_form, EntryDocument, row_parts, rows_parts, part_parts, table_parts, db_parts, entry_form}
use Rattle.proclang.specs.Procs.{fresh_at, param_at, each_param, params_at, int_at, entry_of, entry_at, each_entry, footprint_from, footprint_at, PartsSyntax, parts_at, proc_at, each_proc, procs_at}
use Rattle.proclang_expressions.specs.BrokenExpressions.{not_int, in_expr}
use Rattle.proclang_forms.specs.declared.expr_forms.Section.TheVariants as sections
use Rattle.proclang_expressions.specs.BrokenNames.{not_table}
use Rattle.proclang_expressions.specs.BrokenParts.{in_parts}
use Rattle.proclang.specs.BrokenStatements.{in_block}
use Rattle.proclang.specs.BrokenProcs.{in_named_parts, in_new_name, name_of_param, in_param_form, in_param, in_params, params_of_form, params_said, in_int, in_entry_form, in_entry, in_footprint_form, in_footprint, name_of_proc, in_proc_form, in_proc, in_procs_form, procedures_faults}
use Rattle.proclang_expressions.proofs.FirstNames.{found_first}
use Rattle.proclang_expressions.proofs.FirstTypes.{type_so, int_first}
use Rattle.proclang_expressions.proofs.FirstExpressions.{expr_first}
use Rattle.proclang_expressions.proofs.FirstParts.{parts_first}
use Rattle.proclang.proofs.FirstBlocks.{block_first}

-- ---- names

used_among : {X : Type 0} (name_of : X → List ℕ) (name : List ℕ) (xs : List X) → is_used name_of name xs ≡ is_among name (map name_of xs)
used_among name_of name [] = refl
used_among name_of name (x ∷ xs) = ap (λ (b : Bool). bytes_eq name (name_of x) || b) (used_among name_of name xs)

fresh_first : {X : Type 0} (name_of : X → List ℕ) (path : List ℕ) (before : List X) (name : List ℕ) → IsFirst (fresh_at name_of path before name) (in_new_name path (map name_of before) name)
fresh_first name_of path before name =
    rule_first (is_name name) (At Shape path) (λ _. rule (not (is_used name_of name before)) (At DuplicateName path)) (broken (not (is_among name (map name_of before))) (At DuplicateName path))
    (subst (λ (b : Bool). IsFirst (rule (not (is_used name_of name before)) (At DuplicateName path)) (broken (not b) (At DuplicateName path))) (used_among name_of name before)
    (last (not (is_used name_of name before))))
  where
    last : (b : Bool) → IsFirst (rule b (At DuplicateName path)) (broken b (At DuplicateName path))
    last true = refl
    last false = refl

-- parts one after another, each with a name
module _ {X : Type 0} (name_of : X → List ℕ) (one : List ℕ → List X → Data → Result X ProcFault) (named : Data → Option (List ℕ)) (faults : List ℕ → List (List ℕ) → Data → List ProcFault)
    (law : (path : List ℕ) (before : List X) (d : Data) → IsFirst (one path before d) (faults path (map name_of before) d))
    (name_law : (path : List ℕ) (before : List X) (d : Data) (x : X) → one path before d ≡ Ok x → named d ≡ Some (name_of x)) where
  named_first : (path : List ℕ) (place : ℕ) (before : List X) (ds : List Data) → IsFirst (each_from (λ p b d. appended b (one p b d)) path place before ds) (in_named_parts named faults path place (map name_of before) ds)
  named_first path place before [] = refl
  named_first path place before (d ∷ ds) =
      let p = path ++ place ∷ [] in
      bind_first (appended before (one p before d)) _ (faults p (map name_of before) d) (in_named_parts named faults path (place + 1) (map name_of before ++ option_to_list (named d)) ds)
      (ok_first (one p before d) (λ x. before ++ x ∷ []) (faults p (map name_of before) d) (law p before d)) (λ so_far so_far_is.
      let x = bind_ok (one p before d) _ so_far so_far_is in
      let is : before ++ x.0 ∷ [] ≡ so_far = (let h = x.2 in cc) in
      let names : map name_of so_far ≡ map name_of before ++ option_to_list (named d) =
      ap (map name_of) (sym is) ∙ map-append name_of before (x.0 ∷ []) ∙ ap (λ (o : Option (List ℕ)). map name_of before ++ option_to_list o) (sym (name_law p before d x.0 x.1)) in
      subst (λ (ns : List (List ℕ)). IsFirst (each_from (λ p b d. appended b (one p b d)) path (place + 1) so_far ds) (in_named_parts named faults path (place + 1) ns ds)) names (named_first path (place + 1) so_far ds))

-- ---- parameters

abbrev param_name : ParamShape → List ℕ
param_name p = p.name

param_first : (path : List ℕ) (before : List ParamShape) (d : Data) → IsFirst (param_at path before d) (in_param path (map param_name before) d)
unfolding param_at
param_first path before d = formed_first (At Shape path) (column_form d) _ (in_param_form path (map param_name before)) refl (λ f.
    ok_first (fresh_at param_name (path ++ 0 ∷ []) before f.0) (λ _. record { name = f.0; kind = f.1 }) (in_new_name (path ++ 0 ∷ []) (map param_name before) f.0)
    (fresh_first param_name (path ++ 0 ∷ []) before f.0))

-- what is read is what its document says
param_so : (path : List ℕ) (before : List ParamShape) (d : Data) (p : ParamShape) → param_at path before d ≡ Ok p → (f : List ℕ × ColType) × (column_form d ≡ Some f) × (record { name = f.0; kind = f.1 } ≡ p)
unfolding param_at
param_so path before d p e =
    let form = bind_ok (formed (At Shape path) (column_form d)) _ p e in
    let fresh = bind_ok (fresh_at param_name (path ++ 0 ∷ []) before form.0.0) _ p form.2 in
    (form.0, formed_ok (At Shape path) (column_form d) form.0 form.1, (let h = fresh.2 in cc))

param_name_so : (path : List ℕ) (before : List ParamShape) (d : Data) (p : ParamShape) → param_at path before d ≡ Ok p → name_of_param d ≡ Some (param_name p)
param_name_so path before d p e =
    let f = param_so path before d p e in
    ap (option_map (λ (f : List ℕ × ColType). f.0)) f.1 ∙ ap (λ (q : ParamShape). Some q.name) f.2

params_first : (path : List ℕ) (ds : List Data) → IsFirst (params_at path ds) (in_params path ds)
unfolding params_at
params_first path ds =
    rule_first (leb (length ds) 16) (At Limit path) (λ _. each_param path ds) (in_named_parts name_of_param in_param path 0 [] ds)
    (named_first param_name param_at name_of_param in_param param_first param_name_so path 0 [] ds)

said_with : (d : Data) (ds : List Data) (p : ParamShape) → ((f : List ℕ × ColType) × (column_form d ≡ Some f) × (record { name = f.0; kind = f.1 } ≡ p)) → p ∷ params_said ds ≡ params_said (d ∷ ds)
said_with d ds p f = ap (λ (q : ParamShape). q ∷ params_said ds) (sym f.2) ∙ ap (λ (o : Option (List ℕ × ColType)). params_of_form o (params_said ds)) (sym f.1)

each_param_so : (path : List ℕ) (place : ℕ) (before : List ParamShape) (ds : List Data) (all : List ParamShape) → each_from (λ p b d. appended b (param_at p b d)) path place before ds ≡ Ok all → all ≡ before ++ params_said ds
each_param_so path place before [] all e = let is : before ≡ all = cc in sym is ∙ sym (append-nil before)
each_param_so path place before (d ∷ ds) all e =
    let q = path ++ place ∷ [] in
    let step = bind_ok (appended before (param_at q before d)) _ all e in
    let x = bind_ok (param_at q before d) _ step.0 step.1 in
    let is : before ++ x.0 ∷ [] ≡ step.0 = (let h = x.2 in cc) in
    let f = param_so q before d x.0 x.1 in
    let said : x.0 ∷ params_said ds ≡ params_said (d ∷ ds) = said_with d ds x.0 f in
    each_param_so path (place + 1) step.0 ds all step.2 ∙ ap (λ (ps : List ParamShape). ps ++ params_said ds) (sym is) ∙ append_assoc before (x.0 ∷ []) (params_said ds) ∙ ap (λ (ps : List ParamShape). before ++ ps) said

params_so : (path : List ℕ) (ds : List Data) (params : List ParamShape) → params_at path ds ≡ Ok params → params ≡ params_said ds
unfolding params_at
params_so path ds params e =
    let few = bind_ok (at_most path 16 ds) _ params e in
    each_param_so path 0 [] ds params few.2

-- ---- footprints

int_expr_first : (tables : List TableShape) (path : List ℕ) (scope : List Seen) (d : Data) → IsFirst (int_at tables path scope d) (in_int tables path scope d)
unfolding int_at
int_expr_first tables path scope d =
    bind_first (expr_at sections.Footprint tables deepest path scope d) (as_int path) (in_expr sections.Footprint tables deepest path scope d) (not_int path scope d) (expr_first sections.Footprint tables deepest path scope d) (λ e e_is.
    int_first path scope d e (type_so sections.Footprint tables deepest path scope d e e_is))

entry_of_first : (tables : List TableShape) (path : List ℕ) (scope : List Seen) (form : EntryDocument) → IsFirst (entry_of tables path scope form) (in_entry_form tables path scope (Some form))
unfolding entry_of
entry_of_first tables path scope (row_parts right table key) =
    bind_first (table_called (path ++ 2 ∷ []) tables table) _ (not_table (path ++ 2 ∷ []) tables table) (in_int tables (path ++ 3 ∷ []) scope key) (found_first (At UnknownTable (path ++ 2 ∷ [])) (table_named tables table)) (λ t _.
    ok_first (int_at tables (path ++ 3 ∷ []) scope key) (λ k. row_entry right t k) (in_int tables (path ++ 3 ∷ []) scope key) (int_expr_first tables (path ++ 3 ∷ []) scope key))
entry_of_first tables path scope (rows_parts right table low high) =
    let lows = in_int tables (path ++ 3 ∷ []) scope low in
    let highs = in_int tables (path ++ 4 ∷ []) scope high in
    bind_first (table_called (path ++ 2 ∷ []) tables table) _ (not_table (path ++ 2 ∷ []) tables table) (lows ++ highs) (found_first (At UnknownTable (path ++ 2 ∷ [])) (table_named tables table)) (λ t _.
    bind_first (int_at tables (path ++ 3 ∷ []) scope low) _ lows highs (int_expr_first tables (path ++ 3 ∷ []) scope low) (λ l _.
    ok_first (int_at tables (path ++ 4 ∷ []) scope high) (λ h. rows_entry right t l h) highs (int_expr_first tables (path ++ 4 ∷ []) scope high)))
entry_of_first tables path scope (part_parts right table part) =
    bind_first (table_called (path ++ 2 ∷ []) tables table) _ (not_table (path ++ 2 ∷ []) tables table) (in_int tables (path ++ 3 ∷ []) scope part) (found_first (At UnknownTable (path ++ 2 ∷ [])) (table_named tables table)) (λ t _.
    ok_first (int_at tables (path ++ 3 ∷ []) scope part) (λ p. part_entry right t p) (in_int tables (path ++ 3 ∷ []) scope part) (int_expr_first tables (path ++ 3 ∷ []) scope part))
entry_of_first tables path scope (table_parts right table) =
    ok_first (table_called (path ++ 2 ∷ []) tables table) (λ t. table_entry right t) (not_table (path ++ 2 ∷ []) tables table) (found_first (At UnknownTable (path ++ 2 ∷ [])) (table_named tables table))
entry_of_first tables path scope (db_parts right) = refl

entry_first : (tables : List TableShape) (scope : List Seen) (path : List ℕ) (d : Data) → IsFirst (entry_at tables scope path d) (in_entry tables scope path d)
unfolding entry_at
entry_first tables scope path d = formed_first (At Shape path) (entry_form d) (entry_of tables path scope) (in_entry_form tables path scope) refl (λ f. entry_of_first tables path scope f)

footprint_of_first : (tables : List TableShape) (path : List ℕ) (scope : List Seen) (form : FootprintDocument) → IsFirst (footprint_from tables path scope form) (in_footprint_form tables path scope (Some form))
unfolding footprint_from
footprint_of_first tables path scope (declared_parts ds) =
    rule_first (leb (length ds) 256) (At Limit path) (λ _. each_entry tables path scope ds >>= λ es. Ok (declared_by es)) (in_parts (in_entry tables scope) path 1 ds)
    (ok_first (each_entry tables path scope ds) (λ es. declared_by es) (in_parts (in_entry tables scope) path 1 ds)
    (parts_first (λ p b e. entry_at tables scope p e) (in_entry tables scope) (λ p b e. entry_first tables scope p e) path 1 [] ds))
footprint_of_first tables path scope recon_parts = refl

footprint_first : (tables : List TableShape) (path : List ℕ) (scope : List Seen) (d : Data) → IsFirst (footprint_at tables path scope d) (in_footprint tables path scope d)
unfolding footprint_at
footprint_first tables path scope d = formed_first (At Shape path) (footprint_form d) (footprint_from tables path scope) (in_footprint_form tables path scope) refl (λ f. footprint_of_first tables path scope f)

-- ---- procedures

parts_are_first : (tables : List TableShape) (path : List ℕ) (form : ProcDocument) → IsFirst (parts_at tables path form)
    (in_params (path ++ 1 ∷ []) form.params ++ (in_footprint tables (path ++ 2 ∷ []) (seen_of (params_said form.params)) form.footprint ++ in_block tables deepest (path ++ 3 ∷ []) (seen_of (params_said form.params)) form.body))
unfolding parts_at
parts_are_first tables path form =
    let scope = seen_of (params_said form.params) in
    let footprint = in_footprint tables (path ++ 2 ∷ []) scope form.footprint in
    let body = in_block tables deepest (path ++ 3 ∷ []) scope form.body in
    bind_first (params_at (path ++ 1 ∷ []) form.params) _ (in_params (path ++ 1 ∷ []) form.params) (footprint ++ body) (params_first (path ++ 1 ∷ []) form.params) (λ params params_are.
    let said : params ≡ params_said form.params = params_so (path ++ 1 ∷ []) form.params params params_are in
    rest params said)
  where
    rest : (params : List ParamShape) → params ≡ params_said form.params → IsFirst {A = PartsSyntax}
        (footprint_at tables (path ++ 2 ∷ []) (seen_of params) form.footprint >>= λ footprint. block_at tables deepest (path ++ 3 ∷ []) (seen_of params) form.body >>= λ body. Ok (record { params = params; footprint = footprint; body = body }))
        (in_footprint tables (path ++ 2 ∷ []) (seen_of (params_said form.params)) form.footprint ++ in_block tables deepest (path ++ 3 ∷ []) (seen_of (params_said form.params)) form.body)
    rest params said =
        let scope = seen_of (params_said form.params) in
        rw said (bind_first (footprint_at tables (path ++ 2 ∷ []) scope form.footprint) _ (in_footprint tables (path ++ 2 ∷ []) scope form.footprint) (in_block tables deepest (path ++ 3 ∷ []) scope form.body)
        (footprint_first tables (path ++ 2 ∷ []) scope form.footprint) (λ footprint _.
        ok_first (block_at tables deepest (path ++ 3 ∷ []) scope form.body) (λ body. record { params = params_said form.params; footprint = footprint; body = body }) (in_block tables deepest (path ++ 3 ∷ []) scope form.body)
        (block_first tables deepest (path ++ 3 ∷ []) scope form.body)))

abbrev proc_name : ProcSyntax → List ℕ
proc_name p = p.name

abbrev made_proc : List ℕ → PartsSyntax → ProcSyntax
made_proc name parts = record { name = name; params = parts.params; footprint = parts.footprint; body = parts.body }

proc_first : (tables : List TableShape) (path : List ℕ) (before : List ProcSyntax) (d : Data) → IsFirst (proc_at tables path before d) (in_proc tables path (map proc_name before) d)
unfolding proc_at
proc_first tables path before d = formed_first (At Shape path) (proc_form d) _ (in_proc_form tables path (map proc_name before)) refl (λ form.
    bind_first (fresh_at proc_name (path ++ 0 ∷ []) before form.name) _ (in_new_name (path ++ 0 ∷ []) (map proc_name before) form.name) _ (fresh_first proc_name (path ++ 0 ∷ []) before form.name) (λ _ _.
    ok_first (parts_at tables path form) (made_proc form.name) _ (parts_are_first tables path form)))

proc_name_so : (tables : List TableShape) (path : List ℕ) (before : List ProcSyntax) (d : Data) (p : ProcSyntax) → proc_at tables path before d ≡ Ok p → name_of_proc d ≡ Some (proc_name p)
unfolding proc_at
proc_name_so tables path before d p e =
    let form = bind_ok (formed (At Shape path) (proc_form d)) _ p e in
    let fresh = bind_ok (fresh_at proc_name (path ++ 0 ∷ []) before form.0.name) _ p form.2 in
    let parts = bind_ok (parts_at tables path form.0) _ p fresh.2 in
    let is : made_proc form.0.name parts.0 ≡ p = (let h = parts.2 in cc) in
    ap (option_map (λ (f : ProcDocument). f.name)) (formed_ok (At Shape path) (proc_form d) form.0 form.1) ∙ ap (λ (q : ProcSyntax). Some q.name) is

-- the first rule that is broken, or none is
pub procs_first : (tables : List TableShape) (d : Data) → IsFirst (procs_at tables d) (procedures_faults tables d)
unfolding procs_at
procs_first tables d = formed_first (At Shape []) (versioned_list (codes "procs") d) _ (in_procs_form tables) refl (λ ds.
    rule_first (leb (length ds) 256) (At Limit (2 ∷ [])) (λ _. each_proc tables (2 ∷ []) ds) (in_named_parts name_of_proc (in_proc tables) (2 ∷ []) 0 [] ds)
    (named_first proc_name (proc_at tables) name_of_proc (in_proc tables) (proc_first tables) (proc_name_so tables) (2 ∷ []) 0 [] ds))

-- ---- a fault that was answered

fault_of : {A : Type 0} (e : ProcFault) (r : Result A ProcFault) (fs : List ProcFault) → IsFirst r fs → r ≡ Err e → first fs ≡ Some e
fault_of {A} e r fs i h = subst (λ (q : Result A ProcFault). IsFirst q fs) h i

pub none_broken : {A : Type 0} (x : A) (r : Result A ProcFault) (fs : List ProcFault) → r ≡ Ok x → IsFirst r fs → fs ≡ []
none_broken {A} x r fs h i = subst (λ (q : Result A ProcFault). IsFirst q fs) h i

pub fault_first : {A : Type 0} (e : ProcFault) (r : Result A ProcFault) (fs : List ProcFault) → (is_memory e ≡ false → r ≡ Err e) → IsFirst r fs → (e ≡ Memory) ⊎ (first fs ≡ Some e)
fault_first Memory r fs h i = inl refl
fault_first (At kind path) r fs h i = inr (fault_of (At kind path) r fs i (h refl))

pub fault_none : {A : Type 0} (e : ProcFault) (r : Result A ProcFault) (fs : List ProcFault) → (is_memory e ≡ false → r ≡ Err e) → IsFirst r fs → fs ≡ [] → e ≡ Memory
fault_none e r fs h i none = elim (fault_first e r fs h i) [ inl m ↦ m | inr f ↦ absurd (let g = sym (ap first none) ∙ f in cc) ]
