use Rattle.std.proofs.Common.{◌≡◌, ◌++◌, List, length, map}
use Rattle.serde_json.specs.Data.{Data}
use Rattle.serde_json.specs.View.{view}
use Rattle.value_tokens.specs.Documents.{AreDocuments}
use Rattle.setup.proofs.by_tokens.take_documents.Given as goal

-- the tokens that are taken are of the documents after the first ones
abbrev pub invariant-documents : goal.invariant-documents
invariant-documents l = (taken : List Data) × AreDocuments 126 l.initial.reader taken l.reader × (map view l.documents.items ≡ map view l.initial.documents.items ++ taken)

abbrev pub decreases-documents : goal.decreases-documents
decreases-documents l = length l.reader
