use Rattle.std.proofs.Common.{◌≡◌, ◌++◌, List, length}
use Rattle.json.specs.Token.{Token}
use Rattle.value_tokens.specs.ValueLists.{AreValueTokens}
use Rattle.value_tokens.proofs.listing.listed_values.Given as goal

-- the tokens that are taken say the values so far
abbrev pub invariant-values : goal.invariant-values
invariant-values l = (taken : List Token) × (l.initial.reader ≡ taken ++ l.reader) × AreValueTokens taken l.values.items

abbrev pub decreases-values : goal.decreases-values
decreases-values l = length l.reader
