use Rattle.value_tokens.proofs.ValueLists.{said_in_brackets}
use Rattle.value_tokens.proofs.listing.take_values.Goals as goal

pub returns : goal.returns
returns c = said_in_brackets c.args.reader.now c.take_begin_array.new.reader c.listed_values.new.reader c.listed_values.result c.in_ok-take_begin_array.ensures c.listed_values.ensures
