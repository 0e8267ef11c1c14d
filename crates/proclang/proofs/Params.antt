-- The parameters of the code and of a procedure's syntax.
use Rattle.std.proofs.Common.{◌≡◌, ℕ, Bool, ◌||◌, List, [], ◌∷◌, map, string_bytes, refl, ap}
use Rattle.std.specs.Str.{bytes_eq}
use Rattle.std.specs.List.{list_any}
use Rattle.catalogue.specs.Reading.{is_used}
use Rattle.proclang_types.specs.declared.procedure.Param.{Param}
use Rattle.proclang_types.specs.Procedures.{param_shape}

pub used_among : (name : List ℕ) (ps : List Param) → is_used (λ p. p.name) name (map param_shape ps) ≡ list_any (λ p. bytes_eq name (string_bytes p.name)) ps
used_among name [] = refl
used_among name (p ∷ ps) = ap (λ (b : Bool). bytes_eq name (string_bytes p.name) || b) (used_among name ps)
