use Rattle.std.proofs.Common.{◌≡◌, ◌∷◌, ◌++◌, [], subst, arith}
use Rattle.serde_json.specs.View.{view}
use Rattle.value_tokens.specs.Documents.{IsDocument}
use Rattle.value_tokens.proofs.Documents.{document_shorter, one_more_document}
use Rattle.setup.proofs.SetupTokens.{documents_pushed}
use Rattle.setup.proofs.by_tokens.take_documents.Goals as goal

pub documents-smaller : goal.documents-smaller
documents-smaller c =
    let read = subst (λ ts. IsDocument 126 ts (view c.in_ok-take_document.field-0) c.take_document.new.reader) c.documents-test.ensures.1 c.in_ok-take_document.ensures in
    document_shorter 126 c.documents.reader (view c.in_ok-take_document.field-0) c.take_document.new.reader read

pub documents-preserved : goal.documents-preserved
documents-preserved c =
    let was = c.documents.invariant in
    let one = c.in_ok-take_document.field-0 in
    let all = c.documents.documents.items in
    let pushed : c.push.new.self.items ≡ all ++ one ∷ [] = grind arith in
    let read = subst (λ ts. IsDocument 126 ts (view one) c.take_document.new.reader) c.documents-test.ensures.1 c.in_ok-take_document.ensures in (
      was.0 ++ view one ∷ [],
      one_more_document 126 c.args.reader.now was.0 c.documents.reader (view one) c.take_document.new.reader was.1 read,
      rw pushed (documents_pushed c.args.documents.items all one was.0 was.2),
    )
