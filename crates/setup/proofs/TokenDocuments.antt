-- Documents that are written and read once more.
use Rattle.std.proofs.Common.{◌≡◌, ◌≤◌, ℕ, List, [], Option, Some, option_and_then, Result, Ok, Err, IfOk, sym, ap, ◌∙◌, arith, append-nil}
use Rattle.std.specs.Prelude.{IfSome}
use Rattle.std.specs.Result.{result_ok}
use Rattle.json.specs.Token.{Token}
use Rattle.json.specs.Json as json
use Rattle.json.specs.Print.{print}
use Rattle.json.specs.Tree.{depth, json_tokens, HasNumbers}
use Rattle.json.proofs.Printed.Tokens.{tokens-print}
use Rattle.json.proofs.Printed.Trees.{ArePrintable-json_tokens, value-json_tokens}
use Rattle.serde_json.specs.Read.{of_json, read}
use Rattle.serde_json.specs.View.{view}
use Rattle.serde_json.specs.declared.value.Value.{Value}
use Rattle.serde_json.specs.declared.error.Error.{Error}
use Rattle.value_tokens.specs.Documents.{IsDocument}
use Rattle.value_tokens.proofs.Documents.{document_of}

read_again : (j : json.Json) → HasNumbers j → depth j ≤ 126 → read (print (json_tokens j)) ≡ of_json j
read_again j numbers shallow =
    ap (λ o. option_and_then of_json (option_and_then (λ q. json.if_last q.0 q.1) o))
    (ap (json.value 127) (tokens-print (json_tokens j) (ArePrintable-json_tokens j numbers) ∙ sym (append-nil (json_tokens j))) ∙ value-json_tokens j 127 [] (omega (arith, shallow)))

-- tokens whose value was written, and whose text was read, are the document that was read
pub document_again : (ts rest : List Token) (j : json.Json) (bytes text : List ℕ) (r : Result Value Error) (o : Option Value) → json.value 126 ts ≡ Some (j, rest) → HasNumbers j → depth j ≤ 126 → bytes ≡ print (json_tokens j)
    → text ≡ bytes → IfOk r (λ v. read text ≡ Some (view v)) → o ≡ result_ok r → IfSome o (λ d. IsDocument 126 ts (view d) rest)
document_again ts rest j bytes text (Err e) o first numbers shallow written same found is = rw is tt
document_again ts rest j bytes text (Ok v) o first numbers shallow written same found is =
    let again : of_json j ≡ Some (view v) = sym (read_again j numbers shallow) ∙ ap read (sym written ∙ sym same) ∙ found in
    rw is (document_of 126 ts j (view v) rest first again)
