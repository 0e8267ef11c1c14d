use Rattle.std.proofs.Common.{◌≡◌, ℕ, zero, suc, List, [], ◌∷◌, take, slice_set, refl, ap, ◌∙◌}
use Rattle.request_arena.specs.declared.packed.Packed.{Packed}
use Rattle.request_arena.specs.Rows.{RowOf}
use Rattle.request_arena.proofs.row.Row.set.Goals as goal

first_set : (xs : List Packed) (n i : ℕ) (v : Packed) → take n (slice_set xs i v) ≡ slice_set (take n xs) i v
first_set xs zero i v = refl
first_set [] (suc n) i v = refl
first_set (x ∷ xs) (suc n) zero v = refl
first_set (x ∷ xs) (suc n) (suc i) v = ap (λ l. x ∷ l) (first_set xs n i v)

pub returns : goal.returns
returns c =
    let r = c.self.inside in let i = c.args.index in let node = c.args.node in let told = c.put.ensures in
    let items : take r.len c.put.new.self.items ≡ slice_set c.args.self.now.items i node =
    ap (take r.len) told.items ∙ first_set r.places.items r.len i node ∙ ap (λ (v : RowOf). slice_set v.items i node) c.self.view_is in
    let room : c.put.new.self.len ≡ c.args.self.now.room = told.places.count ∙ ap (λ (v : RowOf). v.room) c.self.view_is in
    (λ j. record { items = items j; room = room j })
