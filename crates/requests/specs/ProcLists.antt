-- Claimed: what contracts promise to a reader rests on these words.
-- Procedures by name, in declared order.
use Rattle.std.specs.Prelude.{◌≡◌, ℕ, List, map, String, string_bytes, Option, find, true}
use Rattle.std.specs.List.{AllByRecursion, IsDistinct}
use Rattle.std.specs.Str.{bytes_eq}
use Rattle.std.specs.declared.alloc.Global.{Global}
use Rattle.values.specs.Names.{is_name}
use Rattle.catalogue.specs.Shapes.{TableShape}
use Rattle.proclang_types.specs.Procedures.{ProcParts}

-- procedures, and the tables that they speak of
pub record ProcsParts : Type 0 where
  pub tables : List TableShape
  pub procs : List ProcParts

-- each over those tables
abbrev pub AreOver : List TableShape → List ProcParts → Type 0
AreOver tables procs = AllByRecursion (λ p. p.tables ≡ tables) procs

-- each over those tables, each with a name that obeys the rule, and no two of one name
pub record AreProcs (tables : List TableShape) (procs : List ProcParts) : Type 0 where
  pub over : AreOver tables procs
  pub names : AllByRecursion (λ p. is_name p.name ≡ true) procs
  pub distinct : IsDistinct bytes_eq (map (λ p. p.name) procs)

-- the procedure of that name
abbrev pub proc_named : List ProcParts → List ℕ → Option ProcParts
proc_named procs name = find (λ p. bytes_eq name p.name) procs

-- a procedure over other tables, else as it is
abbrev pub over_tables : List TableShape → ProcParts → ProcParts
over_tables tables p = record p { tables = tables }

-- all of them over other tables
abbrev pub procs_over : List TableShape → ProcsParts → ProcsParts
procs_over tables procs = record { tables = tables; procs = map (over_tables tables) procs.procs }

-- ---- as they lie in memory

abbrev pub NamedProc : Type 0
NamedProc = String Global × ProcParts

abbrev pub proc_of : NamedProc → ProcParts
proc_of e = e.1

abbrev pub procs_of : List NamedProc → List ProcParts
procs_of entries = map proc_of entries

-- each is under its name
abbrev pub AreKeyed : List NamedProc → Type 0
AreKeyed entries = AllByRecursion (λ e. string_bytes e.0 ≡ (proc_of e).name) entries

pub record IsProcMap (tables : List TableShape) (entries : List NamedProc) : Type 0 where
  pub keyed : AreKeyed entries
  pub procs : AreProcs tables (procs_of entries)
