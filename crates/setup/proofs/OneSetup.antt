-- A text says one setup.
use Rattle.std.proofs.Common.{◌≡◌, ℕ, List, Some, Result, Ok, sym, ap, ◌∙◌, subst, refl}
use Rattle.serde_json.specs.Data.{Data}
use Rattle.catalogue.specs.Rules.{SaysCatalogue, OneCatalogueIsSaid}
use Rattle.catalogue.specs.Shapes.{TableShape}
use Rattle.proclang_types.specs.Syntax.{ProcSyntax}
use Rattle.proclang.specs.Says.{SaysProcs, OneListOfProceduresIsSaid}
use Rattle.row_text.specs.declared.form.DigestForm.{DigestForm}
use Rattle.setup.specs.declared.fault.SetupFault.{SetupFault}
use Rattle.setup.specs.Rows.{RowAt}
use Rattle.setup.specs.Says.{SaysRows, SaysDocument, OneSetupIsSaid}
use Rattle.setup.specs.Setups.{SetupParts, SetupShape}
use Rattle.setup.proofs.SaidRows.{rows_read}
use Rattle.setup.proofs.SaidSetups.{form_again}

pub some_is : {X : Type 0} (x y : X) → Some x ≡ Some y → x ≡ y
some_is x y e = cc

ok_is : (x y : List RowAt) → ◌≡◌ {A = Result (List RowAt) SetupFault} (Ok x) (Ok y) → x ≡ y
ok_is x y e = cc

same_shape : (ts us : List TableShape) (ps qs : List ProcSyntax) (rows others : List RowAt) (m n : ℕ) (a b : DigestForm) → ts ≡ us → ps ≡ qs → rows ≡ others → m ≡ n → a ≡ b
    → ◌≡◌ {A = SetupShape} (record { tables = ts; procs = ps; rows = rows; retries = m; digest = a }) (record { tables = us; procs = qs; rows = others; retries = n; digest = b })
same_shape ts us ps qs rows others m n a b e f g h i = rw (e, f, g, h, i) refl

-- a document says one setup
pub one_setup_in : OneCatalogueIsSaid → OneListOfProceduresIsSaid → (d : Data) (s t : SetupShape) → SaysDocument d s → SaysDocument d t → s ≡ t
one_setup_in one_catalogue one_list d s t a b =
    let forms : a.form ≡ b.form = some_is a.form b.form (sym (form_again d a.form a.is_form) ∙ form_again d b.form b.is_form) in
    let tables : s.tables ≡ t.tables = one_catalogue a.form.catalogue s.tables t.tables a.catalogue a.is_catalogue
    (subst (λ (f : SetupParts). SaysCatalogue f.catalogue t.tables) (sym forms) b.catalogue) b.is_catalogue in
    let procs : s.procs ≡ t.procs = one_list s.tables a.form.procs s.procs t.procs a.procs
    (subst (λ (ts : List TableShape). SaysProcs ts a.form.procs t.procs) (sym tables)
    (subst (λ (f : SetupParts). SaysProcs t.tables f.procs t.procs) (sym forms) b.procs)) in
    let rows : s.rows ≡ t.rows = ok_is s.rows t.rows (sym (rows_read s.tables a.form.rows s.rows a.rows) ∙ rows_read s.tables a.form.rows t.rows
    (subst (λ (ts : List TableShape). SaysRows ts a.form.rows t.rows) (sym tables)
    (subst (λ (f : SetupParts). SaysRows t.tables f.rows t.rows) (sym forms) b.rows))) in
    let retries : s.retries ≡ t.retries = a.retries ∙ ap (λ (f : SetupParts). f.retries) forms ∙ sym b.retries in
    let digest : s.digest ≡ t.digest = a.digest ∙ ap (λ (f : SetupParts). f.digest) forms ∙ sym b.digest in
    same_shape s.tables t.tables s.procs t.procs s.rows t.rows s.retries t.retries s.digest t.digest tables procs rows retries digest

-- ... and so does a text
pub one_setup : OneCatalogueIsSaid → OneListOfProceduresIsSaid → OneSetupIsSaid
one_setup one_catalogue one_list text s t a b =
    let documents : a.0 ≡ b.0 = some_is a.0 b.0 (sym a.1.json ∙ b.1.json) in
    one_setup_in one_catalogue one_list a.0 s t a.2 (subst (λ (d : Data). SaysDocument d t) (sym documents) b.2)
