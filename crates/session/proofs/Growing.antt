-- What grows keeps what it had.
use Rattle.std.proofs.Common.{List, [], ◌++◌, append-nil, append_assoc, sym, ap, ◌∙◌}
use Rattle.session.specs.Writes.{IsBeginning}

-- a list begins with itself
pub begins_itself : {T : Type 0} (a : List T) → IsBeginning a a
begins_itself a = ([], sym (append-nil a))

-- what begins a beginning begins the whole
pub begins_onward : {T : Type 0} (a b c : List T) → IsBeginning a b → IsBeginning b c → IsBeginning a c
begins_onward {T} a b c (x, e) (y, f) = (x ++ y, f ∙ (ap (λ (t : List T). t ++ y) e ∙ append_assoc a x y))
