-- Values of one token each are read as an array of documents that say them.
use Rattle.std.proofs.Common.{◌≡◌, ℕ, List, [], ◌∷◌, ◌++◌, length, Option, None, Some, option_map, refl, sym, ap, ◌∙◌, subst, append_assoc, append-nil, le-leb}
use Rattle.std.specs.Prelude.{IfSome, Vec}
use Rattle.std.specs.declared.alloc.Global.{Global}
use Rattle.json.specs.Token.{Token}
use Rattle.serde_json.specs.Data.{Data, number, string}
use Rattle.values.specs.declared.value.Value.{Value}
use Rattle.values.specs.declared.value.Value.TheVariants.{Int, Text}
use Rattle.catalogue.specs.Said.{value_said, values_after}
use Rattle.value_tokens.specs.Documents.{IsDocument, AreDocuments, IsValueArray}
use Rattle.value_tokens.specs.ValueLists.{IsValueToken, AreValueTokens, ListsValues}
use Rattle.value_tokens.proofs.Documents.{array_is_document, integer_written, number_is_document, text_is_document}

pub one_more_value : (ts : List Token) (vs : List Value) (t : Token) (v : Value) → AreValueTokens ts vs → IsValueToken t v → AreValueTokens (ts ++ t ∷ []) (vs ++ v ∷ [])
one_more_value [] [] t v all one = (one, tt)
one_more_value [] (w ∷ vs) t v all one = absurd all
one_more_value (u ∷ ts) [] t v all one = absurd all
one_more_value (u ∷ ts) (w ∷ vs) t v all one = (all.0, one_more_value ts vs t v all.1 one)

-- a token is a document that says the value, whatever comes after it
record IsRead (t : Token) (v : Value) : Type 0 where
  document : Data
  is : (depth : ℕ) (rest : List Token) → IsDocument depth (t ∷ rest) document rest
  says : value_said document ≡ Some v

value_read : (t : Token) (v : Value) → IsValueToken t v → IsRead t v
value_read t (Int z) h =
    let written = integer_written h.0 z h.2 in
    rw h.1 (record {
      document = number written.num;
      is = λ depth rest. number_is_document depth h.0 written.num rest written.is_number;
      says = ap (option_map Int) written.is;
    })
value_read t (Text s) h = rw h.0 (record {
  document = string s;
  is = λ depth rest. text_is_document depth s rest;
  says = rw (le-leb (length s) 64 h.1) refl;
})

-- tokens are documents that say the values
record AreRead (ts : List Token) (vs : List Value) : Type 0 where
  documents : List Data
  are : (depth : ℕ) (rest : List Token) → AreDocuments depth (ts ++ rest) documents rest
  say : (before : List Value) → values_after before documents ≡ Some (before ++ vs)

values_read : (ts : List Token) (vs : List Value) → AreValueTokens ts vs → AreRead ts vs
values_read [] [] h = record { documents = []; are = λ depth rest. refl; say = λ before. ap Some (sym (append-nil before)) }
values_read [] (v ∷ vs) h = absurd h
values_read (t ∷ ts) [] h = absurd h
values_read (t ∷ ts) (v ∷ vs) h =
    let one = value_read t v h.0 in
    let more = values_read ts vs h.1 in record {
      documents = one.document ∷ more.documents;
      are = λ depth rest. (ts ++ rest, one.is depth (ts ++ rest), more.are depth rest);
      say = λ before. rw one.says (more.say (before ++ v ∷ []) ∙ ap Some (append_assoc before (v ∷ []) vs));
    }

pub listed_are_said : (ts : List Token) (vs : List Value) (rest : List Token) → ListsValues ts vs rest → IsValueArray (Token.begin_array ∷ ts) vs rest
listed_are_said ts vs rest h =
    let inner = values_read h.listed vs h.say in record {
      documents = inner.documents;
      read = λ depth. array_is_document depth ts inner.documents rest (subst (λ us. AreDocuments depth us inner.documents (Token.end_array ∷ rest)) (sym h.are_tokens) (inner.are depth (Token.end_array ∷ rest)));
      say = inner.say [];
    }

pub said_in_brackets : (ts inner rest : List Token) (found : Option (Vec Value Global)) → ts ≡ Token.begin_array ∷ inner → IfSome found (λ values. ListsValues inner values.items rest) → IfSome found (λ values. IsValueArray ts values.items rest)
said_in_brackets ts inner rest None is h = tt
said_in_brackets ts inner rest (Some values) is h = subst (λ us. IsValueArray us values.items rest) (sym is) (listed_are_said inner values.items rest h)
