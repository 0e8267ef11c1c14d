use Rattle.std.proofs.Common.{◌≡◌, ◌++◌, drop, string_bytes}
use Rattle.row_text.specs.Texts.{values_text}
use Rattle.row_text.proofs.values_text.push_values.Given as goal

-- with the values that are left the text is the whole one
abbrev pub invariant-loop-value : goal.invariant-loop-value
invariant-loop-value l = string_bytes l.text ++ values_text (drop l.value-index l.values) ≡ string_bytes l.initial.text ++ values_text l.values
