use Rattle.std.proofs.Common.{◌≡◌, ◌∷◌, ◌++◌, [], List, Some, map, refl, sym, ap, ◌∙◌, subst}
use Rattle.json.specs.Token.{Token}
use Rattle.serde_json.specs.Data.{Data, array}
use Rattle.serde_json.specs.View.{items_of, view}
use Rattle.serde_json.specs.declared.value.Value.{Array, Null}
use Rattle.serde_json.proofs.Views.{view-Array}
use Rattle.proclang_types.specs.Procedures.{proc_syntax}
use Rattle.value_tokens.specs.Documents.{AreDocuments}
use Rattle.setup.specs.Setups.{parts_view, setup_form}
use Rattle.setup.proofs.SetupTokens.{form_with_rows, parts_are, rows_put, setup_is_read}
use Rattle.setup.proofs.TokenSteps.{catalogue_is_read, nothing_left, ok_holds, procs_are_read}
use Rattle.setup.proofs.ReadSetups.{AreProcsRead, IsCatalogueRead, setup_is_said}
use Rattle.setup.proofs.SaidWithRows.{with_parts}
use Rattle.setup.proofs.by_tokens.setup_by_tokens.Goals as goal

pub invariant_of-setup : goal.invariant_of-setup
invariant_of-setup c = record {
  over = ok_holds c.read_procs.result (λ p. p.tables ≡ c.in_ok-catalogue.catalogue) c.in_ok-procs.procs c.in_ok-procs.ensures.value c.read_procs.ensures.tables;
  few = c.in_ok-form.ensures.few;
}

pub returns : goal.returns
returns c =
    let word = view c.in_ok-word.word in
    let version = view c.in_ok-version.version in
    let tables = view c.in_ok-catalogue_document.catalogue_document in
    let procedures = view c.in_ok-procs_document.procs_document in
    let catalogue = c.in_ok-catalogue.catalogue in
    let procs = c.in_ok-procs.procs in
    let rows = c.in_ok-rows.ensures in
    let more = c.in_ok-take_documents.ensures in
    let d : Data = array (items_of (word ∷ version ∷ tables ∷ procedures ∷ rows.0 ∷ more.0)) in
    let elements = ok_holds c.vec.result _ c.in_ok-elements.elements c.in_ok-elements.ensures.value c.vec.ensures.items in
    let all : map view c.in_ok-take_documents.field-0.items ≡ (word ∷ version ∷ tables ∷ procedures ∷ view Null ∷ []) ++ more.0 = more.2 ∙ ap (λ es. map view es ++ more.0) elements in
    let left = nothing_left c.next.result _ _ (sym c.if-is_some.ensures) c.next.ensures.value in
    let opened = sym (ok_holds c.new.result _ c.in_ok-reader.reader c.in_ok-reader.ensures.value c.new.ensures.ok) ∙ c.in_ok-take_begin_array.ensures in
    let read = setup_is_read c.args.text.now word version tables procedures rows.0 more.0 _ _ _ _ _ c.take_rows.new.reader opened c.in_ok-word.ensures c.in_ok-version.ensures c.in_ok-catalogue_document.ensures c.in_ok-procs_document.ensures
    rows.1 (subst (λ ts. AreDocuments 126 c.take_rows.new.reader more.0 (Token.end_array ∷ ts)) left.0 more.1) in
    let elements_are = view-Array c.in_ok-take_documents.field-0 ∙ ap (λ (ds : List Data). array (items_of ds)) all in
    let parts = parts_view c.in_ok-form.form in
    let spelled : setup_form (view (Array c.in_ok-take_documents.field-0)) ≡ Some parts = sym c.in_ok-form.ensures.form in
    let form : setup_form d ≡ Some (with_parts parts rows.0) =
    ap setup_form (sym (rows_put c.in_ok-take_documents.field-0 word version tables procedures (view Null) rows.0 more.0 all)) ∙ form_with_rows (view (Array c.in_ok-take_documents.field-0)) rows.0 parts spelled in
    let places = parts_are word version tables procedures (view Null) more.0 parts (ap setup_form (sym elements_are) ∙ spelled) in
    let read_tables = catalogue_is_read tables c.read.result catalogue c.in_ok-catalogue.ensures.value c.read.ensures.found c.read.ensures.only c.read.ensures.unbroken c.read.ensures.exact in
    let read_procs = procs_are_read catalogue procedures c.read_procs.result procs c.in_ok-procs.ensures.value c.read_procs.ensures.tables c.read_procs.ensures.sound c.read_procs.ensures.found c.read_procs.ensures.only
    c.read_procs.ensures.unbroken c.read_procs.ensures.exact in (
      d,
      read,
      setup_is_said d (with_parts parts rows.0) _ catalogue (map proc_syntax procs.procs) c.in_ok-rows.rows.items form refl read_procs.over (subst (λ (x : Data). IsCatalogueRead x catalogue) (sym places.is_catalogue) read_tables)
          (subst (λ (x : Data). AreProcsRead catalogue x (map proc_syntax procs.procs)) (sym places.are_procs) read_procs.read) rows.2,
    )
