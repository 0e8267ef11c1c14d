use Rattle.std.proofs.Common.{◌≡◌, inl, List, map, None, Option, Some, Err, Result, refl, sym, subst, ◌∙◌}
use Rattle.std.specs.Result.{IsErrAnd}
use Rattle.std.specs.Option.{ok_or}
use Rattle.serde_json.specs.View.{view}
use Rattle.catalogue.specs.Shapes.{TableShape}
use Rattle.requests.specs.ProcLists.{AreOver}
use Rattle.proclang_types.specs.Procedures.{proc_syntax}
use Rattle.setup.specs.declared.fault.SetupFault.{SetupFault}
use Rattle.setup.specs.declared.fault.SetupFault.TheVariants.{Catalogue, Procedure, Shape}
use Rattle.setup.specs.declared.form.Parts.{Parts}
use Rattle.setup.specs.FirstFault.{InDocument}
use Rattle.setup.specs.Says.{SaysDocument}
use Rattle.setup.specs.Setups.{parts_view, setup_at, setup_form}
use Rattle.setup.proofs.ReadSetups.{AreProcsRead, IsCatalogueRead, setup_is_said}
use Rattle.setup.proofs.Readings.{IsReading-fault}
use Rattle.setup.proofs.SaidSetups.{at_catalogue, at_no_form, at_procs, at_rows, form_again, in_catalogue, in_procs, in_rows, no_catalogue, no_procs, no_rows, none_is}
use Rattle.setup.proofs.reading.read_document.Goals as goal

no_shape : (found : Option Parts) (fault : SetupFault) → found ≡ None → ◌≡◌ {A = Result Parts SetupFault} (Err fault) (ok_or found Shape) → fault ≡ Shape
no_shape found fault e h = let g : ◌≡◌ {A = Result Parts SetupFault} (Err fault) (Err Shape) = rw e at h in cc

pub returns-in_err-form : goal.returns-in_err-form
returns-in_err-form c =
    let d = view c.args.document.now in
    let none : setup_form d ≡ None = rw (← c.setup_form.ensures.form, c.in_err-form.ensures.ok_part) refl in
    let shape : c.in_err-form.field-0.0 ≡ Shape = no_shape c.setup_form.result c.in_err-form.field-0.0 c.in_err-form.ensures.ok_part c.in_err-form.ensures.value in
    IsReading-fault (SaysDocument d) (InDocument d) (setup_at d) c.from_residual.result Shape (subst (λ (e : SetupFault). IsErrAnd c.from_residual.result (λ x. x ≡ e)) shape c.from_residual.ensures.1)
    (λ s says known. none_is (sym none ∙ form_again d says.form says.is_form)) (λ known. inl (refl, none)) (λ known. at_no_form d none)

pub returns-in_err-catalogue : goal.returns-in_err-catalogue
returns-in_err-catalogue c =
    let d = view c.args.document.now in
    let f = c.in_err-catalogue.field-0.0 in
    let form : setup_form d ≡ Some (parts_view c.in_ok-form.form) = rw (← c.setup_form.ensures.form, c.in_ok-form.ensures.ok_part) refl in
    IsReading-fault (SaysDocument d) (InDocument d) (setup_at d) c.from_residual-in_err-catalogue.result (Catalogue f) c.from_residual-in_err-catalogue.ensures.1
    (λ s says. no_catalogue d _ s f form says c.in_err-catalogue.ensures.only) (in_catalogue d _ f form c.in_err-catalogue.ensures.first) (λ known. at_catalogue d _ form f (c.in_err-catalogue.ensures.exact known))

pub returns-in_err-procs : goal.returns-in_err-procs
returns-in_err-procs c =
    let d = view c.args.document.now in
    let f = c.in_err-procs.field-0.0 in
    let tables = c.in_ok-catalogue.catalogue in
    let form : setup_form d ≡ Some (parts_view c.in_ok-form.form) = rw (← c.setup_form.ensures.form, c.in_ok-form.ensures.ok_part) refl in
    IsReading-fault (SaysDocument d) (InDocument d) (setup_at d) c.from_residual-in_err-procs.result (Procedure f) c.from_residual-in_err-procs.ensures.1
    (λ s says. no_procs d _ s tables f form says c.in_ok-catalogue.ensures.only c.in_err-procs.ensures.only)
    (in_procs d _ tables f form c.in_ok-catalogue.ensures.found.0 c.in_ok-catalogue.ensures.found.1 c.in_err-procs.ensures.first)
    (λ known. at_procs d _ form tables f c.in_ok-catalogue.ensures.exact (c.in_err-procs.ensures.exact known))

pub returns-in_err-rows : goal.returns-in_err-rows
returns-in_err-rows c =
    let d = view c.args.document.now in
    let f = c.in_err-rows.field-0.0 in
    let tables = c.in_ok-catalogue.catalogue in
    let procs = map proc_syntax c.in_ok-procs.procs.procs in
    let form : setup_form d ≡ Some (parts_view c.in_ok-form.form) = rw (← c.setup_form.ensures.form, c.in_ok-form.ensures.ok_part) refl in
    IsReading-fault (SaysDocument d) (InDocument d) (setup_at d) c.from_residual-in_err-rows.result f c.from_residual-in_err-rows.ensures.1
    (λ s says. no_rows d _ s tables f form says c.in_ok-catalogue.ensures.only c.in_err-rows.ensures.only)
    (in_rows d _ tables procs f form c.in_ok-catalogue.ensures.found.0 c.in_ok-catalogue.ensures.found.1 c.in_ok-procs.ensures.found c.in_err-rows.ensures.first)
    (λ known. at_rows d _ form tables procs f c.in_ok-catalogue.ensures.exact c.in_ok-procs.ensures.exact (c.in_err-rows.ensures.exact known))

pub returns : goal.returns
returns c =
    let d = view c.args.document.now in
    let tables = c.in_ok-catalogue.catalogue in
    let procs = map proc_syntax c.in_ok-procs.procs.procs in
    let rows = c.in_ok-rows.rows.items in
    let form : setup_form d ≡ Some (parts_view c.in_ok-form.form) = rw (← c.setup_form.ensures.form, c.in_ok-form.ensures.ok_part) refl in
    let over = subst (λ (ts : List TableShape). AreOver ts c.in_ok-procs.procs.procs) c.in_ok-procs.ensures.tables c.in_ok-procs.ensures.sound.over in
    let catalogue : IsCatalogueRead _ tables = record {
      found = c.in_ok-catalogue.ensures.found.0;
      is = c.in_ok-catalogue.ensures.found.1;
      only = c.in_ok-catalogue.ensures.only;
      unbroken = c.in_ok-catalogue.ensures.unbroken;
      exact = c.in_ok-catalogue.ensures.exact;
    } in
    let are_procs : AreProcsRead tables _ procs = record {
      found = c.in_ok-procs.ensures.found;
      only = c.in_ok-procs.ensures.only;
      unbroken = c.in_ok-procs.ensures.unbroken;
      exact = c.in_ok-procs.ensures.exact;
    } in
    setup_is_said d _ _ tables procs rows form refl over catalogue are_procs c.in_ok-rows.ensures.exact
