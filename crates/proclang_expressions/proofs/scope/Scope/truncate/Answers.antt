use Rattle.std.proofs.Common.{sym}
use Rattle.std.proofs.lemmas.List.{take-map}
use Rattle.proclang_expressions.proofs.scope.Scope.truncate.Goals as goal

pub returns : goal.returns
returns c = rw (c.truncate.ensures.items, ← c.self.view_is) (sym (take-map _ _ _))
