use Rattle.std.proofs.Common.{◌∙◌}
use Rattle.json.specs.Value.{value_view}
use Rattle.setup.proofs.TokenDocuments.{document_again}
use Rattle.setup.proofs.TokenSteps.{ok_holds}
use Rattle.setup.proofs.by_tokens.take_document.Goals as goal

pub returns : goal.returns
returns c =
    let parsed = c.in_ok-parsed.ensures.value in
    let first = ok_holds c.read.result _ c.in_ok-parsed.parsed parsed c.read.ensures.ok in
    let numbers = ok_holds c.read.result _ c.in_ok-parsed.parsed parsed c.read.ensures.writable in
    let shallow = ok_holds c.read.result _ c.in_ok-parsed.parsed parsed c.read.ensures.nests in
    let written = ok_holds c.to_vec.result _ c.in_ok-text.text c.in_ok-text.ensures.value c.to_vec.ensures.text in
    document_again c.args.reader.now c.read.new.reader (value_view c.in_ok-parsed.parsed) c.in_ok-text.text.items c.in-Ok.text.now c.from_str.result c.ok-3.result
    first numbers shallow written (c.in-Ok.ensures.cases.0 ∙ c.deref.ensures.value) c.from_str.ensures.ok c.ok-3.ensures.value
