-- A procedure that is read fits the catalogue, and its name is a new one that obeys the rule.
use Rattle.std.proofs.Common.{◌≡◌, ℕ, ◌+◌, Bool, true, false, not, List, [], ◌∷◌, ◌++◌, map, Ok, Option, Some, None, is_some, refl, sym, ap, subst, ◌∙◌}
use Rattle.std.specs.List.{AllByRecursion, IsDistinct}
use Rattle.std.specs.Str.{bytes_eq}
use Rattle.serde_json.specs.Data.{Data}
use Rattle.documents.specs.Reading.{formed, rule}
use Rattle.documents.proofs.Steps.{bind_ok}
use Rattle.values.specs.declared.value.ColType.{ColType}
use Rattle.catalogue.specs.Shapes.{TableShape}
use Rattle.values.specs.Names.{is_name}
use Rattle.catalogue.specs.Reading.{is_used}
use Rattle.catalogue.proofs.Named.{distinct_push}
use Rattle.proclang_types.specs.Syntax.{IntSyntax, EntrySyntax, row_entry, rows_entry, part_entry, table_entry, db_entry, FootprintSyntax, declared_by, found_by_recon, ParamShape, ProcSyntax, block_of}
use Rattle.proclang_types.specs.Procedures.{ProcParts, proc_syntax}
use Rattle.proclang_types.specs.Typing.{IntFits, AsksNoRows, EntryFits, FootprintFits, BlockFits, kinds_of, ProcFits}
use Rattle.proclang_expressions.specs.declared.fault.FaultKind.TheVariants.{Shape, DuplicateName}
use Rattle.proclang_expressions.specs.declared.fault.ProcFault.{ProcFault}
use Rattle.proclang_expressions.specs.declared.fault.ProcFault.TheVariants.{At}
use Rattle.proclang_forms.specs.declared.expr_forms.Section.TheVariants as sections
use Rattle.proclang_expressions.specs.Seen.{Seen, seen_of, seen_kinds}
use Rattle.proclang_expressions.specs.Walk.{each_from, appended, at_most}
use Rattle.proclang_expressions.specs.Lookups.{declared_at, table_called}
use Rattle.proclang_expressions.specs.Expressions.{deepest, expr_at}
use Rattle.proclang.specs.Statements.{block_at}
use Rattle.proclang_forms.specs.ProcForms.{ProcDocument, proc_form, FootprintDocument, declared_parts, recon_parts, footprint_form, EntryDocument, row_parts, rows_parts, part_parts, table_parts, db_parts, entry_form}
use Rattle.proclang.specs.Procs.{fresh_at, params_at, int_at, entry_of, entry_at, each_entry, footprint_from, footprint_at, PartsSyntax, parts_at, proc_at, each_proc}
use Rattle.requests.specs.ProcLists.{AreOver, AreProcs, proc_named}
use Rattle.requests.proofs.ProcLists.{named_used}
use Rattle.proclang_expressions.proofs.TypedExpressions.{table_there, int_fits, expr_fits}
use Rattle.proclang_expressions.proofs.FootprintExpressions.{int_plain, expr_plain}
use Rattle.proclang_expressions.proofs.TypedParts.{all_push, each_keeps}
use Rattle.proclang.proofs.TypedBlocks.{block_fits}

-- parameters are seen with their types
kinds_seen : (params : List ParamShape) → seen_kinds (seen_of params) ≡ kinds_of params
kinds_seen [] = refl
kinds_seen (p ∷ ps) = ap (λ (ks : List ColType). p.kind ∷ ks) (kinds_seen ps)

-- an expression of a footprint fits, and asks for no rows
number_fits : (tables : List TableShape) (path : List ℕ) (scope : List Seen) (d : Data) (e : IntSyntax) → int_at tables path scope d ≡ Ok e → IntFits tables (seen_kinds scope) e × AsksNoRows e
unfolding int_at
number_fits tables path scope d e r =
    let x = bind_ok (expr_at sections.Footprint tables deepest path scope d) _ e r in
    (int_fits tables (seen_kinds scope) path x.0 e (expr_fits sections.Footprint tables deepest path scope d x.0 x.1) x.2, int_plain path x.0 e (expr_plain tables deepest path scope d x.0 x.1) x.2)

entry_fits : (tables : List TableShape) (path : List ℕ) (scope : List Seen) (f : EntryDocument) (e : EntrySyntax) → entry_of tables path scope f ≡ Ok e → EntryFits tables (seen_kinds scope) e
unfolding entry_of
entry_fits tables path scope (row_parts right table key) e r =
    let t = bind_ok (table_called (path ++ 2 ∷ []) tables table) _ e r in
    let k = bind_ok (int_at tables (path ++ 3 ∷ []) scope key) _ e t.2 in
    let is : row_entry right t.0 k.0 ≡ e = (let h = k.2 in cc) in
    let fits = number_fits tables (path ++ 3 ∷ []) scope key k.0 k.1 in
    subst (EntryFits tables (seen_kinds scope)) is (table_there tables (path ++ 2 ∷ []) table t.0 t.1, fits.0, fits.1)
entry_fits tables path scope (rows_parts right table low high) e r =
    let t = bind_ok (table_called (path ++ 2 ∷ []) tables table) _ e r in
    let l = bind_ok (int_at tables (path ++ 3 ∷ []) scope low) _ e t.2 in
    let k = bind_ok (int_at tables (path ++ 4 ∷ []) scope high) _ e l.2 in
    let is : rows_entry right t.0 l.0 k.0 ≡ e = (let h = k.2 in cc) in
    let first = number_fits tables (path ++ 3 ∷ []) scope low l.0 l.1 in
    let last = number_fits tables (path ++ 4 ∷ []) scope high k.0 k.1 in
    subst (EntryFits tables (seen_kinds scope)) is (table_there tables (path ++ 2 ∷ []) table t.0 t.1, first.0, first.1, last.0, last.1)
entry_fits tables path scope (part_parts right table part) e r =
    let t = bind_ok (table_called (path ++ 2 ∷ []) tables table) _ e r in
    let p = bind_ok (int_at tables (path ++ 3 ∷ []) scope part) _ e t.2 in
    let is : part_entry right t.0 p.0 ≡ e = (let h = p.2 in cc) in
    let fits = number_fits tables (path ++ 3 ∷ []) scope part p.0 p.1 in
    subst (EntryFits tables (seen_kinds scope)) is (table_there tables (path ++ 2 ∷ []) table t.0 t.1, fits.0, fits.1)
entry_fits tables path scope (table_parts right table) e r =
    let t = bind_ok (table_called (path ++ 2 ∷ []) tables table) _ e r in
    let is : table_entry right t.0 ≡ e = (let h = t.2 in cc) in
    subst (EntryFits tables (seen_kinds scope)) is (table_there tables (path ++ 2 ∷ []) table t.0 t.1)
entry_fits tables path scope (db_parts right) e r =
    let is : db_entry right ≡ e = cc in
    subst (EntryFits tables (seen_kinds scope)) is tt

footprint_parts_fit : (tables : List TableShape) (path : List ℕ) (scope : List Seen) (form : FootprintDocument) (f : FootprintSyntax) → footprint_from tables path scope form ≡ Ok f → FootprintFits tables (seen_kinds scope) f
unfolding footprint_from entry_at
footprint_parts_fit tables path scope (declared_parts ds) f e =
    let few = bind_ok (at_most path 256 ds) _ f e in
    let es = bind_ok (each_entry tables path scope ds) _ f few.2 in
    let is : declared_by es.0 ≡ f = (let h = es.2 in cc) in
    subst (FootprintFits tables (seen_kinds scope)) is
    (each_keeps (EntryFits tables (seen_kinds scope)) (λ p before x. entry_at tables scope p x)
    (λ p before x y h. let form = bind_ok (formed (At Shape p) (entry_form x)) _ y h in entry_fits tables p scope form.0 y form.2) path 1 [] ds es.0 tt es.1)
footprint_parts_fit tables path scope recon_parts f e =
    let is : found_by_recon ≡ f = cc in
    subst (FootprintFits tables (seen_kinds scope)) is tt

footprint_fits : (tables : List TableShape) (path : List ℕ) (scope : List Seen) (d : Data) (f : FootprintSyntax) → footprint_at tables path scope d ≡ Ok f → FootprintFits tables (seen_kinds scope) f
unfolding footprint_at
footprint_fits tables path scope d f e =
    let form = bind_ok (formed (At Shape path) (footprint_form d)) _ f e in
    footprint_parts_fit tables path scope form.0 f form.2

-- what follows a procedure's name fits
pub parts_fit : (tables : List TableShape) (path : List ℕ) (form : ProcDocument) (name : List ℕ) (p : PartsSyntax) → parts_at tables path form ≡ Ok p → ProcFits tables (record { name = name; params = p.params; footprint = p.footprint; body = p.body })
unfolding parts_at
parts_fit tables path form name p e =
    let params = bind_ok (params_at (path ++ 1 ∷ []) form.params) _ p e in
    let foot = bind_ok (footprint_at tables (path ++ 2 ∷ []) (seen_of params.0) form.footprint) _ p params.2 in
    let body = bind_ok (block_at tables deepest (path ++ 3 ∷ []) (seen_of params.0) form.body) _ p foot.2 in
    let made : PartsSyntax = record { params = params.0; footprint = foot.0; body = body.0 } in
    let is : made ≡ p = (let h = body.2 in cc) in
    let entries : FootprintFits tables (kinds_of params.0) foot.0 = rw kinds_seen at (footprint_fits tables (path ++ 2 ∷ []) (seen_of params.0) form.footprint foot.0 foot.1) in
    let block : BlockFits tables (kinds_of params.0) (block_of body.0) = rw kinds_seen at (block_fits tables deepest (path ++ 3 ∷ []) (seen_of params.0) form.body body.0 body.1) in
    subst (λ (q : PartsSyntax). ProcFits tables (record { name = name; params = q.params; footprint = q.footprint; body = q.body })) is (record { footprint = entries; body = block })

not_false : (b : Bool) → not b ≡ true → b ≡ false
not_false true e = absurd cc
not_false false e = refl

-- a name that none before it has, and that obeys the rule
pub fresh_is : {X : Type 0} (name_of : X → List ℕ) (path : List ℕ) (before : List X) (name : List ℕ) → fresh_at name_of path before name ≡ Ok tt → (is_name name ≡ true) × (is_used name_of name before ≡ false)
fresh_is name_of path before name e =
    let rule_kept = bind_ok (declared_at path name) _ tt e in
    (named (At Shape path) (is_name name) rule_kept.1, not_false (is_used name_of name before) (named (At DuplicateName path) (not (is_used name_of name before)) rule_kept.2))
  where
    named : (f : ProcFault) (b : Bool) → rule b f ≡ Ok tt → b ≡ true
    named f true h = refl
    named f false h = absurd cc

-- the name of a procedure that is read is new and obeys the rule
pub proc_fresh : (tables : List TableShape) (path : List ℕ) (before : List ProcSyntax) (d : Data) (p : ProcSyntax) → proc_at tables path before d ≡ Ok p → (is_name p.name ≡ true) × (is_used (λ q. q.name) p.name before ≡ false)
unfolding proc_at
proc_fresh tables path before d p e =
    let form = bind_ok (formed (At Shape path) (proc_form d)) _ p e in
    let name = bind_ok (fresh_at (λ q. q.name) (path ++ 0 ∷ []) before form.0.name) _ p form.2 in
    let parts = bind_ok (parts_at tables path form.0) _ p name.2 in
    let is : form.0.name ≡ p.name = (let h = parts.2 in cc) in
    rw (← is) (fresh_is (λ q. q.name) (path ++ 0 ∷ []) before form.0.name name.1)

-- names so far
pub record AreNamed (ps : List ProcSyntax) : Type 0 where
  pub names : AllByRecursion (λ p. is_name p.name ≡ true) ps
  pub distinct : IsDistinct bytes_eq (map (λ p. p.name) ps)

-- the names of procedures that are read obey the rule, and no two are the same
pub each_named : (tables : List TableShape) (path : List ℕ) (place : ℕ) (before : List ProcSyntax) (ds : List Data) (all : List ProcSyntax) → AreNamed before
    → each_from (λ p b d. appended b (proc_at tables p b d)) path place before ds ≡ Ok all → AreNamed all
each_named tables path place before [] all h e = let is : before ≡ all = cc in subst AreNamed is h
each_named tables path place before (d ∷ ds) all h e =
    let step = bind_ok (appended before (proc_at tables (path ++ place ∷ []) before d)) _ all e in
    let p = bind_ok (proc_at tables (path ++ place ∷ []) before d) _ step.0 step.1 in
    let is : before ++ p.0 ∷ [] ≡ step.0 = (let g = p.2 in cc) in
    let new = proc_fresh tables (path ++ place ∷ []) before d p.0 p.1 in
    each_named tables path (place + 1) step.0 ds all
    (subst AreNamed is (record { names = all_push (λ q. is_name q.name ≡ true) before p.0 h.names new.0; distinct = distinct_push (λ q. q.name) before p.0 h.distinct new.1 })) step.2

names_seen : (ps : List ProcParts) → AllByRecursion (λ p. is_name p.name ≡ true) (map proc_syntax ps) → AllByRecursion (λ p. is_name p.name ≡ true) ps
names_seen [] h = tt
names_seen (p ∷ ps) h = (h.0, names_seen ps h.1)

same_names : (ps : List ProcParts) → map (λ p. p.name) (map proc_syntax ps) ≡ map (λ p. p.name) ps
same_names [] = refl
same_names (p ∷ ps) = ap (λ (ns : List (List ℕ)). p.name ∷ ns) (same_names ps)

-- procedures that are read, as they lie in memory
pub procs_sound : (tables : List TableShape) (path : List ℕ) (ds : List Data) (ps : List ProcParts) → each_proc tables path ds ≡ Ok (map proc_syntax ps) → AreOver tables ps → AreProcs tables ps
unfolding IsDistinct
procs_sound tables path ds ps e over =
    let named = each_named tables path 0 [] ds (map proc_syntax ps) (record { names = tt; distinct = tt }) e in
    record { over = over; names = names_seen ps named.names; distinct = rw (← same_names ps) named.distinct }

-- no procedure has a name that isn't used
pub not_named : (name : List ℕ) (ps : List ProcParts) → is_used (λ p. p.name) name (map proc_syntax ps) ≡ false → proc_named ps name ≡ None
not_named name ps e = none (proc_named ps name) (sym (named_used name ps) ∙ e)
  where
    none : (o : Option ProcParts) → is_some o ≡ false → o ≡ None
    none None e = refl
    none (Some p) e = absurd cc
