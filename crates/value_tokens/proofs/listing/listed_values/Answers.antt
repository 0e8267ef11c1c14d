use Rattle.std.proofs.Common.{◌≡◌, [], ◌∷◌, ◌++◌, ap, ◌∙◌, arith, append_assoc, sym}
use Rattle.json.specs.Reads.{token_of}
use Rattle.value_tokens.proofs.ValueLists.{one_more_value}
use Rattle.value_tokens.proofs.listing.listed_values.Goals as goal

pub values-preserved : goal.values-preserved
values-preserved c =
    let taken = c.values.invariant.0 in
    let t = token_of c.in-Some.token in
    let first : c.values.reader ≡ t ∷ c.next.new.self = grind arith in
    let pushed : c.push.new.self.items ≡ c.values.values.items ++ c.in_ok-token_value.field-0 ∷ [] = grind arith in (
      taken ++ t ∷ [],
      c.values.invariant.1 ∙ ap (λ ts. taken ++ ts) first ∙ sym (append_assoc taken (t ∷ []) c.next.new.self),
      rw pushed (one_more_value taken c.values.values.items t c.in_ok-token_value.field-0 c.values.invariant.2 c.in_ok-token_value.ensures),
    )
