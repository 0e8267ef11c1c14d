-- What comes of reading a setup whose parts were read.
use Rattle.std.proofs.Common.{◌≡◌, List, [], Some, Result, Ok, sym, ◌∙◌}
use Rattle.catalogue.specs.Broken.{catalogue_faults}
use Rattle.catalogue.specs.Reading.{catalogue_at}
use Rattle.catalogue.specs.Rules.{SaysCatalogue, IsCatalogue}
use Rattle.catalogue.specs.Shapes.{TableShape}
use Rattle.catalogue.specs.declared.fault.CatalogueFault.{CatalogueFault}
use Rattle.proclang.specs.BrokenProcs.{procedures_faults}
use Rattle.proclang.specs.Procs.{procs_at}
use Rattle.proclang.specs.Says.{SaysProcs}
use Rattle.proclang_expressions.specs.declared.fault.ProcFault.{ProcFault}
use Rattle.proclang_types.specs.Syntax.{ProcSyntax}
use Rattle.requests.specs.ProcLists.{AreOver}
use Rattle.serde_json.specs.Data.{Data}
use Rattle.setup.specs.declared.document.SetupDocument.{SetupDocument}
use Rattle.setup.specs.FirstFault.{InDocument, rows_faults}
use Rattle.setup.specs.Readings.{IsReading}
use Rattle.setup.specs.Rows.{RowAt, rows_at}
use Rattle.setup.specs.Says.{SaysDocument}
use Rattle.setup.specs.Setups.{SetupParts, setup_at, setup_form, setup_view}
use Rattle.setup.proofs.SaidRows.{none_broken, rows_first, rows_found, rows_read}
use Rattle.setup.proofs.SaidSetups.{at_end, found_parts, no_break, only_parts}

-- the document says the tables, and no others
pub record IsCatalogueRead (d : Data) (tables : List TableShape) : Type 0 where
  pub found : SaysCatalogue d tables
  pub is : IsCatalogue tables
  pub only : (ts : List TableShape) → IsCatalogue ts → SaysCatalogue d ts → ◌≡◌ {A = Result (List TableShape) CatalogueFault} (Ok ts) (Ok tables)
  pub unbroken : catalogue_faults d ≡ []
  pub exact : catalogue_at d ≡ Ok tables

-- the document says the procedures, and no others
pub record AreProcsRead (tables : List TableShape) (d : Data) (procs : List ProcSyntax) : Type 0 where
  pub found : SaysProcs tables d procs
  pub only : (ps : List ProcSyntax) → SaysProcs tables d ps → ◌≡◌ {A = Result (List ProcSyntax) ProcFault} (Ok ps) (Ok procs)
  pub unbroken : procedures_faults tables d ≡ []
  pub exact : procs_at tables d ≡ Ok procs

pub setup_is_said : (d : Data) (form : SetupParts) (x : SetupDocument) (tables : List TableShape) (procs : List ProcSyntax) (rows : List RowAt) → setup_form d ≡ Some form
    → setup_view x ≡ record { tables = tables; procs = procs; rows = rows; retries = form.retries; digest = form.digest } → AreOver x.setup.catalogue x.setup.procs.procs
    → IsCatalogueRead form.catalogue tables → AreProcsRead tables form.procs procs → rows_at tables form.rows ≡ Ok rows
    → IsReading (SaysDocument d) (InDocument d) (setup_at d) (Ok x)
setup_is_said d form x tables procs rows is_form is over c p exact = record {
  found = rw is (found_parts d form tables procs rows is_form c.found c.is p.found (rows_found tables form.rows rows exact));
  over = over;
  only = λ s says. rw is (only_parts d form s tables procs rows is_form says c.only p.only (λ rs there. sym (rows_read tables form.rows rs there) ∙ exact));
  first = tt;
  unbroken = no_break d form tables is_form c.only c.unbroken p.unbroken (none_broken rows (rows_at tables form.rows) (rows_faults tables form.rows) exact (rows_first tables form.rows));
  none = λ never. tt;
  exact = rw is (at_end d form is_form tables procs rows c.exact p.exact exact);
}
