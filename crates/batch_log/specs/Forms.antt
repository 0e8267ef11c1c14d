-- Claimed: what contracts promise to a reader rests on these words.
-- The forms of a log's lines: `["call", PROC, [VALUE ..]]` and `["cut"]`.
use Rattle.std.specs.Prelude.{List, [], ◌∷◌, ℕ, map, codes, Option, Some, None, option_map, option_and_then, if◌then◌else◌}
use Rattle.std.specs.Str.{bytes_eq}
use Rattle.serde_json.specs.Data.{Data}
use Rattle.serde_json.specs.Find.{as_str}
use Rattle.serde_json.specs.View.{view}
use Rattle.documents.specs.Json.{elements}
use Rattle.batch_log.specs.declared.form.LineForm.{LineForm}
use Rattle.batch_log.specs.declared.form.LineForm.TheVariants as forms

-- a call, by its procedure and its values, or a cut
pub data Form : Type 0 where
  call_form : List ℕ → List Data → Form
  cut_form : Form

abbrev pub form_view : LineForm → Form
form_view (forms.Call name values) = call_form name.now (map view values.now)
form_view forms.Cut = cut_form

-- by the head word and what comes after it
unfoldable pub words_form : List ℕ → List Data → Option Form
words_form word [] = if bytes_eq word (codes "cut") then Some cut_form else None
words_form word (name ∷ values ∷ []) =
    if bytes_eq word (codes "call") then option_and_then (λ n. option_map (call_form n) (elements values)) (as_str name)
    else None
words_form word ds = None

abbrev pub items_form : List Data → Option Form
items_form [] = None
items_form (head ∷ rest) = option_and_then (λ word. words_form word rest) (as_str head)

-- the form of a line, if it has one
unfoldable pub line_form : Data → Option Form
line_form d = option_and_then items_form (elements d)
