-- Claimed: what contracts promise to a reader rests on these words.
-- A procedure as contracts see it: its parts, and the tables that it speaks of.
use Rattle.std.specs.Prelude.{ℕ, List, map, string_bytes}
use Rattle.catalogue.specs.Shapes.{TableShape}
use Rattle.proclang_types.specs.declared.procedure.Param.{Param}
use Rattle.proclang_types.specs.declared.procedure.Parts.{Parts}
use Rattle.proclang_types.specs.declared.statement.Stmt.{Stmt}
use Rattle.proclang_types.specs.declared.statement.ProcFootprint.{ProcFootprint}
use Rattle.proclang_types.specs.Syntax.{ParamShape, ProcSyntax}
use Rattle.proclang_types.specs.Views.{stmts_view, footprint_view}

-- a procedure: the tables that it is over, its name, its parameters, its footprint and its body
pub record ProcParts : Type 0 where
  pub tables : List TableShape
  pub name : List ℕ
  pub params : List ParamShape
  pub footprint : ProcFootprint
  pub body : List Stmt

-- a parameter's name and type
abbrev pub param_shape : Param → ParamShape
param_shape p = record { name = string_bytes p.name; kind = p.kind }

-- a procedure's parts as they lie in memory, over tables
abbrev pub proc_parts : List TableShape → Parts → ProcParts
proc_parts tables parts = record {
  tables = tables;
  name = string_bytes parts.name;
  params = map param_shape parts.params.items;
  footprint = parts.footprint;
  body = parts.body.items;
}

-- a procedure's typed syntax
abbrev pub proc_syntax : ProcParts → ProcSyntax
proc_syntax p =
    record { name = p.name; params = p.params; footprint = footprint_view p.footprint; body = stmts_view p.body }
