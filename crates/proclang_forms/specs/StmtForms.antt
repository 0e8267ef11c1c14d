-- Claimed: what contracts promise to a reader rests on these words.
-- One level of a statement, before its parts are read.
use Rattle.std.specs.Prelude.{ℕ, ℤ, List, [], ◌∷◌, Option, Some, None, option_map, option_and_then, map, if◌then◌else◌, codes}
use Rattle.std.specs.Str.{bytes_eq}
use Rattle.serde_json.specs.Data.{Data}
use Rattle.serde_json.specs.Find.{as_str}
use Rattle.serde_json.specs.View.{view}
use Rattle.documents.specs.Json.{elements, integer}
use Rattle.proclang_forms.specs.declared.stmt_forms.LetForm.{LetForm}
use Rattle.proclang_forms.specs.declared.stmt_forms.GetForm.{GetForm}
use Rattle.proclang_forms.specs.declared.stmt_forms.PutForm.{PutForm}
use Rattle.proclang_forms.specs.declared.stmt_forms.InsertForm.{InsertForm}
use Rattle.proclang_forms.specs.declared.stmt_forms.DeleteForm.{DeleteForm}
use Rattle.proclang_forms.specs.declared.stmt_forms.IfForm.{IfForm}
use Rattle.proclang_forms.specs.declared.stmt_forms.ForForm.{ForForm}
use Rattle.proclang_forms.specs.declared.stmt_forms.EachForm.{EachForm}
use Rattle.proclang_forms.specs.declared.stmt_forms.StmtForm.{StmtForm}
use Rattle.proclang_forms.specs.declared.stmt_forms.StmtForm.TheVariants as forms

pub record LetParts : Type 0 where
  pub variable : List ℕ
  pub value : Data

pub record GetParts : Type 0 where
  pub variable : List ℕ
  pub table : List ℕ
  pub key : Data
  pub column : List ℕ

pub record PutParts : Type 0 where
  pub table : List ℕ
  pub key : Data
  pub column : List ℕ
  pub value : Data

pub record InsertParts : Type 0 where
  pub table : List ℕ
  pub key : Data
  pub values : List Data

pub record DeleteParts : Type 0 where
  pub table : List ℕ
  pub key : Data

pub record IfParts : Type 0 where
  pub test : Data
  pub first : Data
  pub second : Data

pub record ForParts : Type 0 where
  pub variable : List ℕ
  pub low : Data
  pub high : Data
  pub body : Data

pub record EachParts : Type 0 where
  pub variable : List ℕ
  pub table : List ℕ
  pub number : Data
  pub body : Data

pub data StatementForm : Type 0 where
  let_parts : LetParts → StatementForm
  get_parts : GetParts → StatementForm
  put_parts : PutParts → StatementForm
  insert_parts : InsertParts → StatementForm
  delete_parts : DeleteParts → StatementForm
  if_parts : IfParts → StatementForm
  for_parts : ForParts → StatementForm
  each_parts : EachParts → StatementForm
  abort_code : ℤ → StatementForm
  reply_values : List Data → StatementForm

-- ---- what the code's forms hold

abbrev pub let_parts_of : LetForm → LetParts
let_parts_of l = record { variable = l.variable.now; value = view l.value.now }

abbrev pub get_parts_of : GetForm → GetParts
get_parts_of g = record { variable = g.variable.now; table = g.table.now; key = view g.key.now; column = g.column.now }

abbrev pub put_parts_of : PutForm → PutParts
put_parts_of p = record { table = p.table.now; key = view p.key.now; column = p.column.now; value = view p.value.now }

abbrev pub insert_parts_of : InsertForm → InsertParts
insert_parts_of i = record { table = i.table.now; key = view i.key.now; values = map view i.values.now }

abbrev pub delete_parts_of : DeleteForm → DeleteParts
delete_parts_of d = record { table = d.table.now; key = view d.key.now }

abbrev pub if_parts_of : IfForm → IfParts
if_parts_of c = record { test = view c.test.now; first = view c.first.now; second = view c.second.now }

abbrev pub for_parts_of : ForForm → ForParts
for_parts_of f =
    record { variable = f.variable.now; low = view f.low.now; high = view f.high.now; body = view f.body.now }

abbrev pub each_parts_of : EachForm → EachParts
each_parts_of e =
    record { variable = e.variable.now; table = e.table.now; number = view e.number.now; body = view e.body.now }

abbrev pub stmt_form_view : StmtForm → StatementForm
stmt_form_view (forms.Let l) = let_parts (let_parts_of l)
stmt_form_view (forms.Get g) = get_parts (get_parts_of g)
stmt_form_view (forms.Put p) = put_parts (put_parts_of p)
stmt_form_view (forms.Insert i) = insert_parts (insert_parts_of i)
stmt_form_view (forms.Delete d) = delete_parts (delete_parts_of d)
stmt_form_view (forms.If c) = if_parts (if_parts_of c)
stmt_form_view (forms.For f) = for_parts (for_parts_of f)
stmt_form_view (forms.Each e) = each_parts (each_parts_of e)
stmt_form_view (forms.Abort z) = abort_code z
stmt_form_view (forms.Reply vs) = reply_values (map view vs.now)

-- ---- what comes after each head word

-- x, E
unfoldable pub let_form : List Data → Option StatementForm
let_form (variable ∷ value ∷ []) =
    option_map (λ (x : List ℕ). let_parts (record { variable = x; value = value })) (as_str variable)
let_form parts = None

-- x, table, KEY, column
unfoldable pub get_form : List Data → Option StatementForm
get_form (variable ∷ table ∷ key ∷ column ∷ []) =
    option_and_then (λ (x : List ℕ).
    option_and_then (λ (t : List ℕ).
    option_map (λ (c : List ℕ). get_parts (record { variable = x; table = t; key = key; column = c })) (as_str column))
    (as_str table))
    (as_str variable)
get_form parts = None

-- table, KEY, column, E
unfoldable pub put_form : List Data → Option StatementForm
put_form (table ∷ key ∷ column ∷ value ∷ []) =
    option_and_then (λ (t : List ℕ).
    option_map (λ (c : List ℕ). put_parts (record { table = t; key = key; column = c; value = value })) (as_str column))
    (as_str table)
put_form parts = None

-- table, KEY, [E ..]
unfoldable pub insert_form : List Data → Option StatementForm
insert_form (table ∷ key ∷ values ∷ []) =
    option_and_then (λ (t : List ℕ).
    option_map (λ (vs : List Data). insert_parts (record { table = t; key = key; values = vs })) (elements values))
    (as_str table)
insert_form parts = None

-- table, KEY
unfoldable pub delete_form : List Data → Option StatementForm
delete_form (table ∷ key ∷ []) =
    option_map (λ (t : List ℕ). delete_parts (record { table = t; key = key })) (as_str table)
delete_form parts = None

-- COND, BLOCK, BLOCK
unfoldable pub if_form : List Data → Option StatementForm
if_form (test ∷ first ∷ second ∷ []) = Some (if_parts (record { test = test; first = first; second = second }))
if_form parts = None

-- x, LOW, HIGH, BLOCK
unfoldable pub for_form : List Data → Option StatementForm
for_form (variable ∷ low ∷ high ∷ body ∷ []) =
    option_map (λ (x : List ℕ). for_parts (record { variable = x; low = low; high = high; body = body }))
    (as_str variable)
for_form parts = None

-- x, table, PART, BLOCK
unfoldable pub each_form : List Data → Option StatementForm
each_form (variable ∷ table ∷ part ∷ body ∷ []) =
    option_and_then (λ (x : List ℕ).
    option_map (λ (t : List ℕ). each_parts (record { variable = x; table = t; number = part; body = body }))
    (as_str table))
    (as_str variable)
each_form parts = None

-- CODE
unfoldable pub abort_form : List Data → Option StatementForm
abort_form (code ∷ []) = option_map abort_code (integer code)
abort_form parts = None

-- what comes after a head word
unfoldable pub word_form : List ℕ → List Data → Option StatementForm
word_form word parts =
    if bytes_eq word (codes "let") then let_form parts else
    (if bytes_eq word (codes "get") then get_form parts else
    (if bytes_eq word (codes "put") then put_form parts else
    (if bytes_eq word (codes "insert") then insert_form parts else
    (if bytes_eq word (codes "delete") then delete_form parts else
    (if bytes_eq word (codes "if") then if_form parts else
    (if bytes_eq word (codes "for") then for_form parts else
    (if bytes_eq word (codes "each") then each_form parts else
    (if bytes_eq word (codes "abort") then abort_form parts else
    (if bytes_eq word (codes "reply") then Some (reply_values parts) else None)))))))))

abbrev pub words_form : List Data → Option StatementForm
words_form [] = None
words_form (head ∷ parts) = option_and_then (λ word. word_form word parts) (as_str head)

-- the form of a statement, with its parts as they are in the document
unfoldable pub statement_form : Data → Option StatementForm
statement_form d = option_and_then words_form (elements d)
