-- A setup's text and a rows' text say one setup.
use Rattle.std.proofs.Common.{◌≡◌, ℕ, List, sym, ◌∙◌, subst}
use Rattle.serde_json.specs.Data.{Data}
use Rattle.catalogue.specs.Rules.{OneCatalogueIsSaid}
use Rattle.proclang.specs.Says.{OneListOfProceduresIsSaid}
use Rattle.setup.specs.Says.{SaysDocument}
use Rattle.setup.specs.Setups.{SetupShape}
use Rattle.setup.specs.WithRows.{SaysSetupWithRows, with_rows_document}
use Rattle.setup.proofs.OneSetup.{some_is, one_setup_in}

pub one_setup : OneCatalogueIsSaid → OneListOfProceduresIsSaid → (text rows : List ℕ) (s t : SetupShape) → SaysSetupWithRows text rows s → SaysSetupWithRows text rows t → s ≡ t
one_setup one_catalogue one_list text rows s t a b =
    let setups : a.setup ≡ b.setup = some_is a.setup b.setup (sym a.is_setup.json ∙ b.is_setup.json) in
    let startings : a.starting ≡ b.starting = some_is a.starting b.starting (sym a.is_rows.json ∙ b.is_rows.json) in
    let same : with_rows_document b.setup b.starting ≡ with_rows_document a.setup a.starting = λ i. with_rows_document (sym setups i) (sym startings i) in
    one_setup_in one_catalogue one_list (with_rows_document a.setup a.starting) s t a.says (subst (λ (d : Data). SaysDocument d t) same b.says)
