use Rattle.std.proofs.Common.{◌≡◌, Ok, ◌∙◌, sym}
use Rattle.std.specs.Arc.{arc_value}
use Rattle.serde_json.specs.View.{view}
use Rattle.catalogue.specs.Shapes.{tables_shape}
use Rattle.catalogue.specs.Reading.{catalogue_at}
use Rattle.catalogue.specs.Broken.{catalogue_faults}
use Rattle.catalogue.proofs.FirstFault.{catalogue_first, fault_first, fault_none, none_broken}
use Rattle.catalogue.proofs.Catalogues.{catalogue_found, catalogue_read}
use Rattle.catalogue.proofs.catalogue.Catalogue.read.Goals as goal

pub returns-in-Err-clause-only : goal.returns-in-Err-clause-only
returns-in-Err-clause-only c = λ ts is says known. sym (catalogue_read (view c.args.document.now) ts says is) ∙ c.in-Err.ensures.exact known

pub returns-in-Err-clause-first : goal.returns-in-Err-clause-first
returns-in-Err-clause-first c = fault_first c.in-Err.fault (catalogue_at (view c.args.document.now)) (catalogue_faults (view c.args.document.now)) c.in-Err.ensures.exact (catalogue_first (view c.args.document.now))

pub returns-in-Err-clause-none : goal.returns-in-Err-clause-none
returns-in-Err-clause-none c = fault_none c.in-Err.fault (catalogue_at (view c.args.document.now)) (catalogue_faults (view c.args.document.now)) c.in-Err.ensures.exact (catalogue_first (view c.args.document.now))

pub invariant_of-result : goal.invariant_of-result
invariant_of-result c =
    let read : catalogue_at (view c.args.document.now) ≡ Ok (tables_shape (arc_value c.in-Ok-new.tables).entries) = rw c.in-Ok-new.ensures.ok c.in-Ok.ensures.exact in
    (catalogue_found (view c.args.document.now) _ read (rw c.in-Ok-new.ensures.ok c.in-Ok.ensures.signed)).1

pub returns-in-Ok-new-clause-found : goal.returns-in-Ok-new-clause-found
returns-in-Ok-new-clause-found c =
    let read : catalogue_at (view c.args.document.now) ≡ Ok (tables_shape (arc_value c.in-Ok-new.tables).entries) = rw c.in-Ok-new.ensures.ok c.in-Ok.ensures.exact in
    catalogue_found (view c.args.document.now) _ read (rw c.in-Ok-new.ensures.ok c.in-Ok.ensures.signed)

pub returns-in-Ok-new-clause-only : goal.returns-in-Ok-new-clause-only
returns-in-Ok-new-clause-only c = λ ts is says.
    let read : catalogue_at (view c.args.document.now) ≡ Ok (tables_shape (arc_value c.in-Ok-new.tables).entries) = rw c.in-Ok-new.ensures.ok c.in-Ok.ensures.exact in
    sym (catalogue_read (view c.args.document.now) ts says is) ∙ read

pub returns-in-Ok-new-clause-unbroken : goal.returns-in-Ok-new-clause-unbroken
returns-in-Ok-new-clause-unbroken c =
    let read : catalogue_at (view c.args.document.now) ≡ Ok (tables_shape (arc_value c.in-Ok-new.tables).entries) = rw c.in-Ok-new.ensures.ok c.in-Ok.ensures.exact in
    none_broken (tables_shape (arc_value c.in-Ok-new.tables).entries) (catalogue_at (view c.args.document.now)) (catalogue_faults (view c.args.document.now)) read (catalogue_first (view c.args.document.now))
