use Rattle.std.proofs.Common.{◌≡◌, ◌∷◌, pos, ap, ◌∙◌, arith}
use Rattle.std.specs.Prelude.{codes}
use Rattle.json.specs.Token.{Token}
use Rattle.value_tokens.proofs.Documents.{end_taken}
use Rattle.setup.proofs.RowTokens.{rows_are_read}
use Rattle.setup.proofs.TokenSteps.{word_is}
use Rattle.setup.proofs.rows_by_tokens.take_rows.Goals as goal

pub returns-then-take_end_array : goal.returns-then-take_end_array
returns-then-take_end_array c =
    let word = word_is c.in_ok-take_text.field-0.now (codes "rows") c.if-ne.ensures in
    let one : c.in_ok-take_integer.field-0 ≡ pos 1 = grind arith in
    rows_are_read c.args.catalogue.now c.in_ok-rows.rows.items c.in_ok-rows.ensures.0 c.args.reader.now c.take_begin_array.new.reader c.take_text.new.reader c.take_integer.new.reader
    c.take_begin_array-2.new.reader c.listed_rows.new.reader c.take_end_array.new.self c.in_ok-take_integer.field-0
    c.in_ok-take_begin_array.ensures (c.in_ok-take_text.ensures ∙ ap (λ text. Token.string text ∷ c.take_text.new.reader) word) c.in_ok-take_integer.ensures one c.in_ok-take_begin_array-2.ensures
    c.in_ok-rows.ensures.1 c.in_ok-rows.ensures.2 (end_taken _ _ c.if-take_end_array.ensures)
