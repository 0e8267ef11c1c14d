-- The statements of a block.
use Rattle.std.proofs.Common.{◌≡◌, ℕ, zero, suc, ◌-◌, List, [], ◌∷◌, ◌++◌, Some, Ok, Err, refl, arith}
use Rattle.serde_json.specs.Data.{Data}
use Rattle.documents.specs.Json.{elements}
use Rattle.catalogue.specs.Shapes.{TableShape}
use Rattle.proclang_types.specs.Syntax.{StmtSyntax}
use Rattle.proclang_expressions.specs.declared.fault.ProcFault.{ProcFault}
use Rattle.proclang_expressions.specs.Seen.{Seen}
use Rattle.proclang_expressions.specs.Walk.{each_from, at_most}
use Rattle.proclang.specs.Statements.{BlockReader, statement_at, next_statement, block_at}

pub next_is : (tables : List TableShape) (block : BlockReader) (path : List ℕ) (done : List StmtSyntax) (scope : List Seen) (d : Data) (s : StmtSyntax) (after : List Seen)
    → statement_at tables block path scope d ≡ Ok (s, after) → next_statement tables block path (done, scope) d ≡ Ok (done ++ s ∷ [], after)
next_is tables block path done scope d s after h = rw h refl

pub block_is : (tables : List TableShape) (room : ℕ) (path : List ℕ) (scope : List Seen) (d : Data) (ds : List Data) (done : List StmtSyntax) (after : List Seen) → (room ≡ 0 → ⊥) → elements d ≡ Some ds → at_most path 1024 ds ≡ Ok tt
    → each_from (next_statement tables (block_at tables (room - 1))) path 0 ([], scope) ds ≡ Ok (done, after) → block_at tables room path scope d ≡ Ok done
unfolding block_at
block_is tables zero path scope d ds done after some e f h = absurd (some refl)
block_is tables (suc room) path scope d ds done after some e f h =
    let less : suc room - 1 ≡ room = omega arith in
    let all : each_from (next_statement tables (block_at tables room)) path 0 ([], scope) ds ≡ Ok (done, after) = rw less at h in
    rw (e, f, all) refl

pub next_fails : (tables : List TableShape) (block : BlockReader) (path : List ℕ) (done : List StmtSyntax) (scope : List Seen) (d : Data) (e : ProcFault)
    → statement_at tables block path scope d ≡ Err e → next_statement tables block path (done, scope) d ≡ Err e
next_fails tables block path done scope d e h = rw h refl

pub block_fails : (tables : List TableShape) (room : ℕ) (path : List ℕ) (scope : List Seen) (d : Data) (ds : List Data) (e : ProcFault) → (room ≡ 0 → ⊥) → elements d ≡ Some ds → at_most path 1024 ds ≡ Ok tt
    → each_from (next_statement tables (block_at tables (room - 1))) path 0 ([], scope) ds ≡ Err e → block_at tables room path scope d ≡ Err e
unfolding block_at
block_fails tables zero path scope d ds e some f g h = absurd (some refl)
block_fails tables (suc room) path scope d ds e some f g h =
    let less : suc room - 1 ≡ room = omega arith in
    let all : each_from (next_statement tables (block_at tables room)) path 0 ([], scope) ds ≡ Err e = rw less at h in
    rw (f, g, all) refl
