-- Claimed: what contracts promise to a reader rests on these words.
-- Words that take two operands.
use Rattle.std.specs.Prelude.{ℕ, List, Option, Some, None, if◌then◌else◌, codes}
use Rattle.std.specs.Str.{bytes_eq}
use Rattle.proclang_types.specs.declared.operator.IntOperator.TheVariants.{Add, Subtract, Multiply, Divide, Remainder}
use Rattle.proclang_types.specs.declared.operator.Equality.TheVariants.{Equal, Unequal}
use Rattle.proclang_forms.specs.declared.operator.Operator.{Operator}
use Rattle.proclang_forms.specs.declared.operator.Operator.TheVariants.{Arithmetic, Less, AtMost, Same, And, Or}

-- the operator that a word means
abbrev pub operator_of : List ℕ → Option Operator
operator_of word =
    if bytes_eq word (codes "+") then Some (Arithmetic Add) else
    (if bytes_eq word (codes "-") then Some (Arithmetic Subtract) else
    (if bytes_eq word (codes "*") then Some (Arithmetic Multiply) else
    (if bytes_eq word (codes "/") then Some (Arithmetic Divide) else
    (if bytes_eq word (codes "%") then Some (Arithmetic Remainder) else
    (if bytes_eq word (codes "=") then Some (Same Equal) else
    (if bytes_eq word (codes "<>") then Some (Same Unequal) else
    (if bytes_eq word (codes "<") then Some Less else
    (if bytes_eq word (codes "<=") then Some AtMost else
    (if bytes_eq word (codes "and") then Some And else
    (if bytes_eq word (codes "or") then Some Or else None))))))))))

-- the word of an operator
abbrev pub word_of : Operator → List ℕ
word_of (Arithmetic Add) = codes "+"
word_of (Arithmetic Subtract) = codes "-"
word_of (Arithmetic Multiply) = codes "*"
word_of (Arithmetic Divide) = codes "/"
word_of (Arithmetic Remainder) = codes "%"
word_of (Same Equal) = codes "="
word_of (Same Unequal) = codes "<>"
word_of Less = codes "<"
word_of AtMost = codes "<="
word_of And = codes "and"
word_of Or = codes "or"
