use Rattle.std.proofs.Common.{◌≡◌, sym, Some, position, string_bytes}
use Rattle.std.specs.Str.{bytes_eq}
use Rattle.proclang_expressions.proofs.Seen.{found_seen}
use Rattle.proclang_expressions.proofs.scope.Scope.find.Goals as goal

pub returns : goal.returns
returns c =
    let at : position (λ v. bytes_eq c.args.name.now (string_bytes v.name)) c.self.inside.variables.items ≡ Some c.in_ok-place.place = rw (← c.as_slice.ensures.value) (sym c.in_ok-place.ensures) in
    sym (found_seen c.args.name.now c.args.self.now c.self.inside.variables.items c.in_ok-place.place c.index-variable.result.now c.self.view_is at c.index-variable.ensures)
