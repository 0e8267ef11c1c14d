-- A footprint that was found is one of the catalogue.
use Rattle.std.proofs.Common.{◌≡◌, List, sym, subst, Result, Ok, Err, IfOk, OnOk}
use Rattle.std.specs.List.{All}
use Rattle.values.specs.declared.value.Value.{Value}
use Rattle.catalogue.specs.Shapes.{TableShape}
use Rattle.values.specs.Database.{Database}
use Rattle.proclang_types.specs.declared.statement.Stmt.{Stmt}
use Rattle.proclang_types.specs.Views.{stmts_view}
use Rattle.footprint.specs.Rights.{FootprintOf}
use Rattle.footprint.specs.OfCatalogue.{IsFootprintOf}
use Rattle.meaning.specs.Runs.{Access}
use Rattle.meaning.specs.Reconnaissance.{HasKey, accesses_of, found_footprint, FindsOfTables}

found_of : {E : Type 0} (catalogue : List TableShape) (body : List Stmt) (arguments : List Value) (db : Database) (r : Result FootprintOf E)
    → FindsOfTables catalogue (stmts_view body) arguments db
    → IfOk r (λ footprint. footprint ≡ found_footprint catalogue (stmts_view body) arguments db)
    → OnOk r (All (λ (access : Access). HasKey access.0) (accesses_of catalogue (stmts_view body) arguments db))
    → IfOk r (λ footprint. IsFootprintOf catalogue footprint)
found_of catalogue body arguments db (Ok footprint) law found keys = subst (IsFootprintOf catalogue) (sym found) (law keys)
found_of catalogue body arguments db (Err e) law found keys = tt

pub found_of_catalogue : {E : Type 0} (tables catalogue : List TableShape) (body items : List Stmt) (arguments : List Value) (db : Database) (r : Result FootprintOf E)
    → tables ≡ catalogue → items ≡ body → FindsOfTables tables (stmts_view body) arguments db
    → IfOk r (λ footprint. footprint ≡ found_footprint catalogue (stmts_view items) arguments db)
    → OnOk r (All (λ (access : Access). HasKey access.0) (accesses_of catalogue (stmts_view items) arguments db))
    → IfOk r (λ footprint. IsFootprintOf catalogue footprint)
found_of_catalogue tables catalogue body items arguments db r over same law found keys =
    found_of catalogue items arguments db r
    (subst (λ (ts : List TableShape). FindsOfTables ts (stmts_view items) arguments db) over
    (subst (λ (stmts : List Stmt). FindsOfTables tables (stmts_view stmts) arguments db) (sym same) law))
    found keys
