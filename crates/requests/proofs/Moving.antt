-- Procedures that are moved to other tables, one after another.
use Rattle.std.proofs.Common.{◌≡◌, ℕ, Bool, true, false, cond, ◌||◌, List, [], ◌∷◌, ◌++◌, map, Option, Some, None, is_some, refl, sym, ap, subst, ◌∙◌}
use Rattle.std.proofs.lemmas.List.{append_assoc, append-nil}
use Rattle.std.specs.Str.{bytes_eq}
use Rattle.std.specs.List.{AllByRecursion, IsDistinct}
use Rattle.values.specs.Names.{is_name}
use Rattle.catalogue.specs.Reading.{is_used}
use Rattle.catalogue.specs.Shapes.{TableShape}
use Rattle.catalogue.proofs.Named.{unused}
use Rattle.proclang_types.specs.Procedures.{ProcParts}
use Rattle.requests.specs.ProcLists.{ProcsParts, AreProcs, over_tables, procs_over, proc_named}

abbrev name_of : ProcParts → List ℕ
name_of p = p.name

none_at : (b : Bool) (name : List ℕ) (p : ProcParts) (ps : List ProcParts) → b || is_used name_of name ps ≡ false → (is_used name_of name ps ≡ false → proc_named ps name ≡ None) → cond b (Some p) (proc_named ps name) ≡ None
none_at true name p ps e rest = absurd (cc)
none_at false name p ps e rest = rest e

none_named : (name : List ℕ) (ps : List ProcParts) → is_used name_of name ps ≡ false → proc_named ps name ≡ None
none_named name [] e = refl
none_named name (p ∷ ps) e = none_at (bytes_eq name p.name) name p ps e (none_named name ps)

names_moved : (tables : List TableShape) (xs : List ProcParts) (p : ProcParts) (ys : List ProcParts) → map name_of ((xs ++ over_tables tables p ∷ []) ++ ys) ≡ map name_of (xs ++ p ∷ ys)
names_moved tables [] p ys = refl
names_moved tables (x ∷ xs) p ys = ap (λ (ns : List (List ℕ)). x.name ∷ ns) (names_moved tables xs p ys)

-- some of them are moved, and the others are left
pub record IsMoving (tables : List TableShape) (procs : ProcsParts) (done : ProcsParts) (left : List ProcParts) : Type 0 where
  pub all : done.procs ++ map (over_tables tables) left ≡ map (over_tables tables) procs.procs
  pub tables_are : done.tables ≡ tables
  pub over : AllByRecursion (λ p. p.tables ≡ procs.tables) left
  pub names : AllByRecursion (λ p. is_name p.name ≡ true) left
  pub distinct : IsDistinct bytes_eq (map name_of (done.procs ++ left))

pub begins : (tables : List TableShape) (procs done : ProcsParts) → AreProcs procs.tables procs.procs → done ≡ record { tables = tables; procs = [] } → IsMoving tables procs done procs.procs
begins tables procs done are is = record {
  all = ap (λ (d : ProcsParts). d.procs ++ map (over_tables tables) procs.procs) is;
  tables_are = ap (λ (d : ProcsParts). d.tables) is;
  over = are.over;
  names = are.names;
  distinct = subst (λ (d : ProcsParts). IsDistinct bytes_eq (map name_of (d.procs ++ procs.procs))) (sym is) are.distinct;
}

pub next_fresh : (tables : List TableShape) (procs done : ProcsParts) (p : ProcParts) (left : List ProcParts) → IsMoving tables procs done (p ∷ left) → proc_named done.procs p.name ≡ None
next_fresh tables procs done p left m = none_named p.name done.procs (unused name_of done.procs p left m.distinct)

pub goes_on : (tables : List TableShape) (procs done new : ProcsParts) (p : ProcParts) (left : List ProcParts) → IsMoving tables procs done (p ∷ left)
    → new ≡ record { tables = done.tables; procs = done.procs ++ over_tables tables p ∷ [] } → IsMoving tables procs new left
goes_on tables procs done new p left m is = record {
  all = ap (λ (d : ProcsParts). d.procs ++ map (over_tables tables) left) is ∙ append_assoc done.procs (over_tables tables p ∷ []) (map (over_tables tables) left) ∙ m.all;
  tables_are = ap (λ (d : ProcsParts). d.tables) is ∙ m.tables_are;
  over = m.over.1;
  names = m.names.1;
  distinct = subst (λ (d : ProcsParts). IsDistinct bytes_eq (map name_of (d.procs ++ left))) (sym is) (subst (IsDistinct bytes_eq) (sym (names_moved tables done.procs p left)) m.distinct);
}

pub ends : (tables : List TableShape) (procs done : ProcsParts) → IsMoving tables procs done [] → done ≡ procs_over tables procs
ends tables procs done m =
    let same : done.procs ≡ map (over_tables tables) procs.procs = sym (append-nil done.procs) ∙ m.all in
    let is : done ≡ record { tables = done.tables; procs = done.procs } = refl in
    is ∙ ap (λ (ts : List TableShape). record { tables = ts; procs = done.procs }) m.tables_are ∙ ap (λ (ps : List ProcParts). record { tables = tables; procs = ps }) same
