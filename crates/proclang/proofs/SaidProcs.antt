-- What is read are the procedures that the document says, and such procedures are read.
use Rattle.std.proofs.Common.{◌≡◌, ℕ, ◌+◌, Bool, true, false, not, List, [], ◌∷◌, ◌++◌, map, Some, Result, Ok, refl, sym, ap, ◌∙◌, subst, append_assoc}
use Rattle.std.specs.Prelude.{⊤, codes}
use Rattle.std.specs.List.{AllByRecursion, IsDistinct}
use Rattle.std.specs.Str.{bytes_eq}
use Rattle.std.proofs.lemmas.List.{append-nil}
use Rattle.serde_json.specs.Data.{Data}
use Rattle.documents.specs.Json.{versioned_list}
use Rattle.documents.specs.Reading.{formed, rule}
use Rattle.documents.proofs.Said.{versioned_said, versioned_again}
use Rattle.documents.proofs.Steps.{bind_ok, rule_ok, formed_ok}
use Rattle.catalogue.specs.Places.{table_named}
use Rattle.values.specs.Names.{is_name}
use Rattle.catalogue.specs.Reading.{column_form, is_used}
use Rattle.catalogue.specs.Rules.{Says}
use Rattle.catalogue.specs.Shapes.{TableShape}
use Rattle.catalogue.proofs.Forms.{column_said, column_again}
use Rattle.catalogue.proofs.Named.{distinct_push, unused}
use Rattle.proclang_types.specs.Syntax.{IntSyntax, int, EntrySyntax, row_entry, rows_entry, part_entry, table_entry, db_entry, FootprintSyntax, declared_by, found_by_recon, ParamShape, StmtSyntax, ProcSyntax}
use Rattle.proclang_expressions.specs.declared.fault.FaultKind.TheVariants.{Shape, UnknownTable, DuplicateName}
use Rattle.proclang_expressions.specs.declared.fault.ProcFault.{ProcFault}
use Rattle.proclang_expressions.specs.declared.fault.ProcFault.TheVariants.{At}
use Rattle.proclang_forms.specs.declared.expr_forms.Section.TheVariants as sections
use Rattle.proclang_expressions.specs.Seen.{Seen, seen_of}
use Rattle.proclang_expressions.specs.Walk.{each_from, appended, at_most}
use Rattle.proclang_expressions.specs.Lookups.{table_called}
use Rattle.proclang_expressions.specs.Expressions.{deepest, expr_at}
use Rattle.proclang.specs.Statements.{block_at}
use Rattle.proclang_forms.specs.ProcForms.{ProcDocument, proc_form, FootprintDocument, declared_parts, recon_parts, footprint_form, EntryDocument, row_parts, rows_parts, part_parts, table_parts, db_parts, entry_form}
use Rattle.proclang.specs.Procs.{fresh_at, param_at, params_at, int_at, entry_of, entry_at, each_entry, footprint_from, footprint_at, PartsSyntax, parts_at, proc_at, procs_at}
use Rattle.proclang_expressions.specs.SaysExpressions.{SaysExpr, SaysFootprintInt}
use Rattle.proclang.specs.SaysStatements.{SaysBlock}
use Rattle.proclang.specs.Says.{SaysParam, SaysParams, SaysEntryForm, SaysEntry, SaysFootprint, SaysProc, SaysProcs}
use Rattle.proclang_expressions.proofs.SaidExpressions.{int_found, expr_found, expr_read}
use Rattle.proclang_expressions.proofs.SaidParts.{few_found, few_again, parts_found, parts_read}
use Rattle.proclang.proofs.SaidBlocks.{block_found, block_read}
use Rattle.proclang_forms.specs.Spells.{SpellsFootprint}
use Rattle.proclang_forms.proofs.SpelledProcs.{entry_said, entry_again, footprint_said, footprint_again, proc_said, proc_again}

ok_is : {A : Type 0} (x y : A) → ◌≡◌ {A = Result A ProcFault} (Ok x) (Ok y) → x ≡ y
ok_is x y e = cc

-- ---- names

rule_found : (b : Bool) (fault : ProcFault) (r : ⊤) → rule b fault ≡ Ok r → b ≡ true
rule_found true fault r h = refl
rule_found false fault r h = absurd cc

not_found : (b : Bool) → not b ≡ true → b ≡ false
not_found false h = refl
not_found true h = absurd cc

fresh_found : {X : Type 0} (name_of : X → List ℕ) (path : List ℕ) (before : List X) (name : List ℕ) (r : ⊤) → fresh_at name_of path before name ≡ Ok r → (is_name name ≡ true) × (is_used name_of name before ≡ false)
fresh_found name_of path before name r h =
    let named = rule_ok (is_name name) (At Shape path) (λ _. rule (not (is_used name_of name before)) (At DuplicateName path)) r h in
    (named.0, not_found (is_used name_of name before) (rule_found (not (is_used name_of name before)) (At DuplicateName path) r named.1))

fresh_again : {X : Type 0} (name_of : X → List ℕ) (path : List ℕ) (before : List X) (name : List ℕ) → is_name name ≡ true → is_used name_of name before ≡ false → fresh_at name_of path before name ≡ Ok tt
fresh_again name_of path before name named fresh = rw (named, fresh) refl

-- parts one after another, each with a name that none before it has
module _ {X : Type 0} (name_of : X → List ℕ) (one : List ℕ → List X → Data → Result X ProcFault) (SaysOne : Data → X → Type 0) where
  pub record NamesFound (before : List X) (ds : List Data) (all : List X) : Type 0 where
    pub new : List X
    pub is : all ≡ before ++ new
    pub says : Says SaysOne ds new
    pub named : AllByRecursion (λ name. is_name name ≡ true) (map name_of new)
    pub distinct : IsDistinct bytes_eq (map name_of all)

  pub named_found : ((path : List ℕ) (before : List X) (d : Data) (x : X) → one path before d ≡ Ok x → SaysOne d x × (is_name (name_of x) ≡ true) × (is_used name_of (name_of x) before ≡ false))
      → (path : List ℕ) (place : ℕ) (before : List X) (ds : List Data) (all : List X) → IsDistinct bytes_eq (map name_of before) → each_from (λ p b d. appended b (one p b d)) path place before ds ≡ Ok all → NamesFound before ds all
  named_found law path place before [] all distinct e =
      let is : before ≡ all = cc in
      record { new = []; is = sym is ∙ sym (append-nil before); says = tt; named = tt; distinct = subst (λ (xs : List X). IsDistinct bytes_eq (map name_of xs)) is distinct }
  named_found law path place before (d ∷ ds) all distinct e =
      let p = path ++ place ∷ [] in
      let step = bind_ok (appended before (one p before d)) _ all e in
      let x = bind_ok (one p before d) _ step.0 step.1 in
      let is : before ++ x.0 ∷ [] ≡ step.0 = (let g = x.2 in cc) in
      let one_is = law p before d x.0 x.1 in
      let others = named_found law path (place + 1) step.0 ds all (subst (λ (xs : List X). IsDistinct bytes_eq (map name_of xs)) is (distinct_push name_of before x.0 distinct one_is.2)) step.2 in
      record {
        new = x.0 ∷ others.new;
        is = others.is ∙ ap (λ (xs : List X). xs ++ others.new) (sym is) ∙ append_assoc before (x.0 ∷ []) others.new;
        says = (one_is.0, others.says);
        named = (one_is.1, others.named);
        distinct = others.distinct;
      }

  pub named_read : ((path : List ℕ) (before : List X) (d : Data) (x : X) → SaysOne d x → is_name (name_of x) ≡ true → is_used name_of (name_of x) before ≡ false → one path before d ≡ Ok x)
      → (path : List ℕ) (place : ℕ) (before : List X) (ds : List Data) (xs : List X) → Says SaysOne ds xs → AllByRecursion (λ name. is_name name ≡ true) (map name_of xs) → IsDistinct bytes_eq (map name_of (before ++ xs))
      → each_from (λ p b d. appended b (one p b d)) path place before ds ≡ Ok (before ++ xs)
  named_read law path place before [] [] says named distinct = ap (λ (ys : List X). Ok ys) (sym (append-nil before))
  named_read law path place before [] (x ∷ xs) says named distinct = absurd says
  named_read law path place before (d ∷ ds) [] says named distinct = absurd says
  named_read law path place before (d ∷ ds) (x ∷ xs) says named distinct =
      let fresh = unused name_of before x xs distinct in
      let together : (before ++ x ∷ []) ++ xs ≡ before ++ x ∷ xs = append_assoc before (x ∷ []) xs in
      rw (law (path ++ place ∷ []) before d x says.0 named.0 fresh)
      (named_read law path (place + 1) (before ++ x ∷ []) ds xs says.1 named.1 (subst (λ (ys : List X). IsDistinct bytes_eq (map name_of ys)) (sym together) distinct) ∙ ap (λ (ys : List X). Ok ys) together)

-- ---- parameters

abbrev param_name : ParamShape → List ℕ
param_name p = p.name

param_found : (path : List ℕ) (before : List ParamShape) (d : Data) (p : ParamShape) → param_at path before d ≡ Ok p → SaysParam d p × (is_name (param_name p) ≡ true) × (is_used param_name (param_name p) before ≡ false)
unfolding param_at
param_found path before d p e =
    let form = bind_ok (formed (At Shape path) (column_form d)) _ p e in
    let fresh = bind_ok (fresh_at param_name (path ++ 0 ∷ []) before form.0.0) _ p form.2 in
    let is : record { name = form.0.0; kind = form.0.1 } ≡ p = (let h = fresh.2 in cc) in
    let names = fresh_found param_name (path ++ 0 ∷ []) before form.0.0 fresh.0 fresh.1 in
    subst (λ (x : ParamShape). SaysParam d x × (is_name (param_name x) ≡ true) × (is_used param_name (param_name x) before ≡ false)) is
    (column_said d form.0.0 form.0.1 (formed_ok (At Shape path) (column_form d) form.0 form.1), names.0, names.1)

param_read : (path : List ℕ) (before : List ParamShape) (d : Data) (p : ParamShape) → SaysParam d p → is_name (param_name p) ≡ true → is_used param_name (param_name p) before ≡ false → param_at path before d ≡ Ok p
unfolding param_at
param_read path before d p says named fresh =
    let form : column_form d ≡ Some (p.name, p.kind) = ap column_form says.1 ∙ column_again p.name says.0 p.kind says.2 in
    rw (form, fresh_again param_name (path ++ 0 ∷ []) before p.name named fresh) refl

params_found : (path : List ℕ) (ds : List Data) (params : List ParamShape) → params_at path ds ≡ Ok params → SaysParams ds params
unfolding params_at IsDistinct
params_found path ds params e =
    let few = bind_ok (at_most path 16 ds) _ params e in
    let all = named_found param_name param_at SaysParam param_found path 0 [] ds params tt few.2 in
    let are : all.new ≡ params = sym all.is in
    record {
      few = few_found path 16 ds few.0 few.1;
      are = subst (Says SaysParam ds) are all.says;
      names = record { named = subst (λ (ps : List ParamShape). AllByRecursion (λ name. is_name name ≡ true) (map param_name ps)) are all.named; distinct = all.distinct };
    }

params_read : (path : List ℕ) (ds : List Data) (params : List ParamShape) → SaysParams ds params → params_at path ds ≡ Ok params
unfolding params_at
params_read path ds params h =
    rw (few_again path 16 ds h.few) (named_read param_name param_at SaysParam param_read path 0 [] ds params h.are h.names.named h.names.distinct)

-- ---- footprints

int_expr_found : (tables : List TableShape) (path : List ℕ) (scope : List Seen) (d : Data) (x : IntSyntax) → int_at tables path scope d ≡ Ok x → SaysFootprintInt tables scope d x
unfolding int_at
int_expr_found tables path scope d x e =
    let expr = bind_ok (expr_at sections.Footprint tables deepest path scope d) _ x e in
    subst (SaysExpr sections.Footprint tables deepest scope d) (int_found path expr.0 x expr.2) (expr_found sections.Footprint tables deepest path scope d expr.0 expr.1)

int_expr_read : (tables : List TableShape) (path : List ℕ) (scope : List Seen) (d : Data) (x : IntSyntax) → SaysFootprintInt tables scope d x → int_at tables path scope d ≡ Ok x
unfolding int_at
int_expr_read tables path scope d x h = rw (expr_read sections.Footprint tables deepest path scope d (int x) h) refl

table_found : (path : List ℕ) (tables : List TableShape) (name : List ℕ) (t : ℕ) → table_called path tables name ≡ Ok t → table_named tables name ≡ Some t
table_found path tables name t e = formed_ok (At UnknownTable path) (table_named tables name) t e

entry_form_found : (tables : List TableShape) (path : List ℕ) (scope : List Seen) (form : EntryDocument) (e : EntrySyntax) → entry_of tables path scope form ≡ Ok e → SaysEntryForm tables scope form e
unfolding entry_of
entry_form_found tables path scope (row_parts right table key) e h =
    let t = bind_ok (table_called (path ++ 2 ∷ []) tables table) _ e h in
    let k = bind_ok (int_at tables (path ++ 3 ∷ []) scope key) _ e t.2 in
    (t.0, k.0, table_found (path ++ 2 ∷ []) tables table t.0 t.1, int_expr_found tables (path ++ 3 ∷ []) scope key k.0 k.1, sym (ok_is (row_entry right t.0 k.0) e k.2))
entry_form_found tables path scope (rows_parts right table low high) e h =
    let t = bind_ok (table_called (path ++ 2 ∷ []) tables table) _ e h in
    let l = bind_ok (int_at tables (path ++ 3 ∷ []) scope low) _ e t.2 in
    let k = bind_ok (int_at tables (path ++ 4 ∷ []) scope high) _ e l.2 in
    (t.0, l.0, k.0, table_found (path ++ 2 ∷ []) tables table t.0 t.1, int_expr_found tables (path ++ 3 ∷ []) scope low l.0 l.1, int_expr_found tables (path ++ 4 ∷ []) scope high k.0 k.1, sym (ok_is (rows_entry right t.0 l.0 k.0) e k.2))
entry_form_found tables path scope (part_parts right table part) e h =
    let t = bind_ok (table_called (path ++ 2 ∷ []) tables table) _ e h in
    let p = bind_ok (int_at tables (path ++ 3 ∷ []) scope part) _ e t.2 in
    (t.0, p.0, table_found (path ++ 2 ∷ []) tables table t.0 t.1, int_expr_found tables (path ++ 3 ∷ []) scope part p.0 p.1, sym (ok_is (part_entry right t.0 p.0) e p.2))
entry_form_found tables path scope (table_parts right table) e h =
    let t = bind_ok (table_called (path ++ 2 ∷ []) tables table) _ e h in
    (t.0, table_found (path ++ 2 ∷ []) tables table t.0 t.1, sym (ok_is (table_entry right t.0) e t.2))
entry_form_found tables path scope (db_parts right) e h = sym (ok_is (db_entry right) e h)

entry_form_read : (tables : List TableShape) (path : List ℕ) (scope : List Seen) (form : EntryDocument) (e : EntrySyntax) → SaysEntryForm tables scope form e → entry_of tables path scope form ≡ Ok e
unfolding entry_of
entry_form_read tables path scope (row_parts right table key) e h = rw (h.2, int_expr_read tables (path ++ 3 ∷ []) scope key h.1 h.3) (ap (λ (x : EntrySyntax). Ok x) (sym h.4))
entry_form_read tables path scope (rows_parts right table low high) e h = rw (h.3, int_expr_read tables (path ++ 3 ∷ []) scope low h.1 h.4, int_expr_read tables (path ++ 4 ∷ []) scope high h.2 h.5) (ap (λ (x : EntrySyntax). Ok x) (sym h.6))
entry_form_read tables path scope (part_parts right table part) e h = rw (h.2, int_expr_read tables (path ++ 3 ∷ []) scope part h.1 h.3) (ap (λ (x : EntrySyntax). Ok x) (sym h.4))
entry_form_read tables path scope (table_parts right table) e h = rw h.1 (ap (λ (x : EntrySyntax). Ok x) (sym h.2))
entry_form_read tables path scope (db_parts right) e h = ap (λ (x : EntrySyntax). Ok x) (sym h)

entry_found : (tables : List TableShape) (scope : List Seen) (path : List ℕ) (d : Data) (e : EntrySyntax) → entry_at tables scope path d ≡ Ok e → SaysEntry tables scope d e
unfolding entry_at
entry_found tables scope path d e h =
    let form = bind_ok (formed (At Shape path) (entry_form d)) _ e h in
    (form.0, entry_said d form.0 (formed_ok (At Shape path) (entry_form d) form.0 form.1), entry_form_found tables path scope form.0 e form.2)

entry_read : (tables : List TableShape) (scope : List Seen) (path : List ℕ) (d : Data) (e : EntrySyntax) → SaysEntry tables scope d e → entry_at tables scope path d ≡ Ok e
unfolding entry_at
entry_read tables scope path d e h = rw (entry_again d h.0 h.1) (entry_form_read tables path scope h.0 e h.2)

footprint_parts_found : (tables : List TableShape) (path : List ℕ) (scope : List Seen) (d : Data) (form : FootprintDocument) (f : FootprintSyntax) → SpellsFootprint d form → footprint_from tables path scope form ≡ Ok f → SaysFootprint tables scope d f
unfolding footprint_from
footprint_parts_found tables path scope d (declared_parts ds) f spells e =
    let few = bind_ok (at_most path 256 ds) _ f e in
    let es = bind_ok (each_entry tables path scope ds) _ f few.2 in
    let all = parts_found (λ p b x. entry_at tables scope p x) (SaysEntry tables scope) (λ p b x y h. entry_found tables scope p x y h) path 1 [] ds es.0 es.1 in
    subst (SaysFootprint tables scope d) (ok_is (declared_by es.0) f es.2)
    (ds, spells, few_found path 256 ds few.0 few.1, subst (Says (SaysEntry tables scope) ds) (sym all.1) all.2)
footprint_parts_found tables path scope d recon_parts f spells e = subst (SaysFootprint tables scope d) (ok_is found_by_recon f e) spells

footprint_found : (tables : List TableShape) (path : List ℕ) (scope : List Seen) (d : Data) (f : FootprintSyntax) → footprint_at tables path scope d ≡ Ok f → SaysFootprint tables scope d f
unfolding footprint_at
footprint_found tables path scope d f e =
    let form = bind_ok (formed (At Shape path) (footprint_form d)) _ f e in
    footprint_parts_found tables path scope d form.0 f (footprint_said d form.0 (formed_ok (At Shape path) (footprint_form d) form.0 form.1)) form.2

footprint_read : (tables : List TableShape) (path : List ℕ) (scope : List Seen) (d : Data) (f : FootprintSyntax) → SaysFootprint tables scope d f → footprint_at tables path scope d ≡ Ok f
unfolding footprint_at footprint_from
footprint_read tables path scope d (declared_by es) h =
    rw (footprint_again d (declared_parts h.0) h.1, few_again path 256 h.0 h.2, parts_read (λ p b x. entry_at tables scope p x) (SaysEntry tables scope) (λ p b x y g. entry_read tables scope p x y g) path 1 [] h.0 es h.3) refl
footprint_read tables path scope d found_by_recon h = rw (footprint_again d recon_parts h) refl

-- ---- procedures

abbrev proc_name : ProcSyntax → List ℕ
proc_name p = p.name

abbrev made_proc : List ℕ → PartsSyntax → ProcSyntax
made_proc name parts = record { name = name; params = parts.params; footprint = parts.footprint; body = parts.body }

abbrev made_parts : List ParamShape → FootprintSyntax → List StmtSyntax → PartsSyntax
made_parts params footprint body = record { params = params; footprint = footprint; body = body }

record SaysParts (tables : List TableShape) (form : ProcDocument) (parts : PartsSyntax) : Type 0 where
  params : SaysParams form.params parts.params
  footprint : SaysFootprint tables (seen_of parts.params) form.footprint parts.footprint
  body : SaysBlock tables deepest (seen_of parts.params) form.body parts.body

parts_are_found : (tables : List TableShape) (path : List ℕ) (form : ProcDocument) (parts : PartsSyntax) → parts_at tables path form ≡ Ok parts → SaysParts tables form parts
unfolding parts_at
parts_are_found tables path form parts e =
    let params = bind_ok (params_at (path ++ 1 ∷ []) form.params) _ parts e in
    let footprint = bind_ok (footprint_at tables (path ++ 2 ∷ []) (seen_of params.0) form.footprint) _ parts params.2 in
    let body = bind_ok (block_at tables deepest (path ++ 3 ∷ []) (seen_of params.0) form.body) _ parts footprint.2 in
    let is : made_parts params.0 footprint.0 body.0 ≡ parts = ok_is (made_parts params.0 footprint.0 body.0) parts body.2 in
    let made : SaysParts tables form (made_parts params.0 footprint.0 body.0) = record {
      params = params_found (path ++ 1 ∷ []) form.params params.0 params.1;
      footprint = footprint_found tables (path ++ 2 ∷ []) (seen_of params.0) form.footprint footprint.0 footprint.1;
      body = block_found tables deepest (path ++ 3 ∷ []) (seen_of params.0) form.body body.0 body.1;
    } in
    subst (SaysParts tables form) is made

proc_found : (tables : List TableShape) (path : List ℕ) (before : List ProcSyntax) (d : Data) (p : ProcSyntax) → proc_at tables path before d ≡ Ok p → SaysProc tables d p × (is_name (proc_name p) ≡ true) × (is_used proc_name (proc_name p) before ≡ false)
unfolding proc_at
proc_found tables path before d p e =
    let form = bind_ok (formed (At Shape path) (proc_form d)) _ p e in
    let fresh = bind_ok (fresh_at proc_name (path ++ 0 ∷ []) before form.0.name) _ p form.2 in
    let parts = bind_ok (parts_at tables path form.0) _ p fresh.2 in
    let is : made_proc form.0.name parts.0 ≡ p = ok_is (made_proc form.0.name parts.0) p parts.2 in
    let names = fresh_found proc_name (path ++ 0 ∷ []) before form.0.name fresh.0 fresh.1 in
    let says = parts_are_found tables path form.0 parts.0 parts.1 in
    let made : SaysProc tables d (made_proc form.0.name parts.0) = record {
      form = form.0;
      is_form = proc_said d form.0 (formed_ok (At Shape path) (proc_form d) form.0 form.1);
      name = refl;
      params = says.params;
      footprint = says.footprint;
      body = says.body;
    } in
    subst (λ (x : ProcSyntax). SaysProc tables d x × (is_name (proc_name x) ≡ true) × (is_used proc_name (proc_name x) before ≡ false)) is (made, names.0, names.1)

proc_read : (tables : List TableShape) (path : List ℕ) (before : List ProcSyntax) (d : Data) (p : ProcSyntax) → SaysProc tables d p → is_name (proc_name p) ≡ true → is_used proc_name (proc_name p) before ≡ false → proc_at tables path before d ≡ Ok p
unfolding proc_at parts_at
proc_read tables path before d p says named fresh =
    rw (
      proc_again d says.form says.is_form,
      says.name,
      fresh_again proc_name (path ++ 0 ∷ []) before p.name named fresh,
      params_read (path ++ 1 ∷ []) says.form.params p.params says.params,
      footprint_read tables (path ++ 2 ∷ []) (seen_of p.params) says.form.footprint p.footprint says.footprint,
      block_read tables deepest (path ++ 3 ∷ []) (seen_of p.params) says.form.body p.body says.body,
    ) refl

-- what is read are the procedures that the document says
pub procs_found : (tables : List TableShape) (d : Data) (ps : List ProcSyntax) → procs_at tables d ≡ Ok ps → SaysProcs tables d ps
unfolding procs_at IsDistinct
procs_found tables d ps e =
    let ds = bind_ok (formed (At Shape []) (versioned_list (codes "procs") d)) _ ps e in
    let few = bind_ok (at_most (2 ∷ []) 256 ds.0) _ ps ds.2 in
    let all = named_found proc_name (proc_at tables) (SaysProc tables) (proc_found tables) (2 ∷ []) 0 [] ds.0 ps tt few.2 in
    let form = versioned_said (codes "procs") d ds.0 (formed_ok (At Shape []) (versioned_list (codes "procs") d) ds.0 ds.1) in
    let are : all.new ≡ ps = sym all.is in
    record {
      version = form.0;
      list = ds.0;
      is_form = form.1;
      is_version = form.2;
      few = few_found (2 ∷ []) 256 ds.0 few.0 few.1;
      are = subst (Says (SaysProc tables) ds.0) are all.says;
      names = record { named = subst (λ (xs : List ProcSyntax). AllByRecursion (λ name. is_name name ≡ true) (map proc_name xs)) are all.named; distinct = all.distinct };
    }

-- procedures that the document says are read
pub procs_read : (tables : List TableShape) (d : Data) (ps : List ProcSyntax) → SaysProcs tables d ps → procs_at tables d ≡ Ok ps
unfolding procs_at
procs_read tables d ps h =
    let form : versioned_list (codes "procs") d ≡ Some h.list = ap (versioned_list (codes "procs")) h.is_form ∙ versioned_again (codes "procs") h.version h.list h.is_version in
    rw (form, few_again (2 ∷ []) 256 h.list h.few) (named_read proc_name (proc_at tables) (SaysProc tables) (proc_read tables) (2 ∷ []) 0 [] h.list ps h.are h.names.named h.names.distinct)
