use Rattle.std.proofs.Common.{◌≡◌, ◌++◌, codes, drop, take}
use Rattle.std.specs.List.{AllByRecursion, flat_map}
use Rattle.rows_document.specs.Said.{IsHeld}
use Rattle.rows_document.specs.Texts.{value_document}
use Rattle.rows_document.proofs.rows.push_more_values.Given as goal

-- with the values that are left the text is the whole one, and those before them are held
abbrev pub invariant-loop-value : goal.invariant-loop-value
invariant-loop-value l = record {
  text : l.text.items ++ flat_map (λ value. codes "," ++ value_document value) (drop l.value-index l.values) ≡ l.fn.text.items ++ flat_map (λ value. codes "," ++ value_document value) l.values;
  held : AllByRecursion IsHeld (take l.value-index l.values);
}
