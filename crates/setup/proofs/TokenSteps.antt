-- Steps of a reading that did not fail, and the parts of a setup that they give.
use Rattle.std.proofs.Common.{◌≡◌, ℕ, Bool, true, false, not, List, [], map, Option, Some, None, Result, Ok, Err, IfOk, OnOk, refl, subst}
use Rattle.std.specs.Prelude.{MatchOption}
use Rattle.std.specs.Option.{is_some}
use Rattle.std.specs.Result.{result_ok}
use Rattle.std.specs.Str.{bytes_eq}
use Rattle.std.proofs.lemmas.Slice.Eq.{bytes_eq-Decides}
use Rattle.serde_json.specs.Data.{Data}
use Rattle.documents.specs.Reading.{Reads}
use Rattle.catalogue.specs.Broken.{catalogue_faults}
use Rattle.catalogue.specs.Reading as catalogues
use Rattle.catalogue.specs.Rules.{SaysCatalogue, IsCatalogue}
use Rattle.catalogue.specs.Shapes.{TableShape}
use Rattle.catalogue.specs.declared.fault.CatalogueFault.{CatalogueFault}
use Rattle.proclang.specs.BrokenProcs.{procedures_faults}
use Rattle.proclang.specs.Procs.{procs_at}
use Rattle.proclang.specs.Says.{SaysProcs}
use Rattle.proclang_expressions.specs.Faults as procedures
use Rattle.proclang_expressions.specs.declared.fault.ProcFault.{ProcFault}
use Rattle.proclang_types.specs.Procedures.{proc_syntax}
use Rattle.proclang_types.specs.Syntax.{ProcSyntax}
use Rattle.requests.specs.ProcLists.{AreOver, AreProcs, ProcsParts}
use Rattle.setup.proofs.ReadSetups.{AreProcsRead, IsCatalogueRead}

pub ok_holds : {T E : Type 0} (r : Result T E) (P : T → Type 0) (x : T) → Some x ≡ result_ok r → IfOk r P → P x
ok_holds (Ok y) P x e h = let same : y ≡ x = cc in subst P same h
ok_holds (Err f) P x e h = absurd cc

pub word_is : (word other : List ℕ) → false ≡ not (bytes_eq word other) → word ≡ other
word_is word other e = by (bytes_eq word other) refl e
  where
    by : (b : Bool) → bytes_eq word other ≡ b → false ≡ not b → word ≡ other
    by true p q = (bytes_eq-Decides word other).0 p
    by false p q = absurd cc

pub nothing_left : {T : Type 0} (o : Option T) (P : Type 0) (Q : T → Type 0) → is_some o ≡ false → MatchOption o P Q → P
nothing_left None P Q e h = h
nothing_left (Some x) P Q e h = absurd cc

pub catalogue_is_read : (d : Data) (r : Result (List TableShape) CatalogueFault) (tables : List TableShape) → Some tables ≡ result_ok r → IfOk r (λ c. SaysCatalogue d c × IsCatalogue c)
    → ((c : List TableShape) → IsCatalogue c → SaysCatalogue d c → Reads catalogues.is_memory (λ x. x) r (Ok c)) → OnOk r (catalogue_faults d ≡ []) → Reads catalogues.is_memory (λ x. x) r (catalogues.catalogue_at d) → IsCatalogueRead d tables
catalogue_is_read d (Ok x) tables e found only unbroken exact =
    let same : x ≡ tables = cc in
    subst (IsCatalogueRead d) same (record { found = found.0; is = found.1; only = only; unbroken = unbroken; exact = exact })
catalogue_is_read d (Err f) tables e found only unbroken exact = absurd cc

-- procedures over the tables, which the document says
pub record AreProcsOver (tables : List TableShape) (d : Data) (p : ProcsParts) : Type 0 where
  pub read : AreProcsRead tables d (map proc_syntax p.procs)
  pub tables_are : p.tables ≡ tables
  pub over : AreOver tables p.procs

pub procs_are_read : (tables : List TableShape) (d : Data) (r : Result ProcsParts ProcFault) (p : ProcsParts) → Some p ≡ result_ok r → IfOk r (λ p. p.tables ≡ tables) → IfOk r (λ p. AreProcs p.tables p.procs)
    → IfOk r (λ p. SaysProcs tables d (map proc_syntax p.procs)) → ((ps : List ProcSyntax) → SaysProcs tables d ps → Reads procedures.is_memory (λ p. map proc_syntax p.procs) r (Ok ps)) → OnOk r (procedures_faults tables d ≡ [])
    → Reads procedures.is_memory (λ p. map proc_syntax p.procs) r (procs_at tables d) → AreProcsOver tables d p
procs_are_read tables d (Ok x) p e are_over sound found only unbroken exact =
    let same : x ≡ p = cc in
    subst (AreProcsOver tables d) same (record {
      read = record { found = found; only = only; unbroken = unbroken; exact = exact };
      tables_are = are_over;
      over = subst (λ (ts : List TableShape). AreOver ts x.procs) are_over sound.over;
    })
procs_are_read tables d (Err f) p e are_over sound found only unbroken exact = absurd cc
