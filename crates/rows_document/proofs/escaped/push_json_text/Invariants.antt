use Rattle.std.proofs.Common.{◌≡◌, [], ◌∷◌, ◌++◌, drop, length}
use Rattle.std.specs.List.{flat_map}
use Rattle.std.specs.Str.{chars}
use Rattle.rows_document.specs.Texts.{character_text, json_text}
use Rattle.rows_document.proofs.escaped.push_json_text.Given as goal

-- with the characters that are left the text is the whole one
abbrev pub invariant-loop-character : goal.invariant-loop-character
invariant-loop-character l =
    l.text.items ++ (flat_map character_text (drop (length l.yielded) (chars l.words)) ++ 34 ∷ []) ≡ l.fn.text.items ++ json_text l.words
