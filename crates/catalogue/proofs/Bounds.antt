-- Bounds that whole numbers say, both ways.
use Rattle.std.proofs.Common.{◌≡◌, ℕ, ℤ, pos, negsuc, suc, Bool, true, false, ltb, ◌<◌, List, [], ◌∷◌, length, map, Some, Ok, refl, ap, subst, ◌∙◌}
use Rattle.std.proofs.lemmas.Bool.{ltb-true, lt-ltb}
use Rattle.serde_json.specs.Data.{Data}
use Rattle.documents.specs.Json.{integer}
use Rattle.documents.proofs.Steps.{bind_ok}
use Rattle.catalogue.specs.Reading.{integers, bound_at, bounds_at}
use Rattle.catalogue.specs.Rules.{AreRising, Says, SaysNumber}
use Rattle.catalogue.proofs.Steps.{first_integer}

bound_found : (least : ℕ) (z : ℤ) (b : ℕ) → bound_at least z ≡ Ok b → (z ≡ pos b) × (least < b)
bound_found least (negsuc n) b e = absurd cc
bound_found least (pos n) b e = by (ltb least n) refl
  where
    by : (r : Bool) → ltb least n ≡ r → (pos n ≡ pos b) × (least < b)
    by true p = let is : n ≡ b = (let h = rw p at e in cc) in (ap pos is, rw (← is) (ltb-true least n p))
    by false p = absurd (let h = rw p at e in cc)

pub record BoundsFound (least : ℕ) (ds : List Data) (zs : List ℤ) (bs : List ℕ) : Type 0 where
  pub says : Says SaysNumber ds bs
  pub rising : AreRising least bs
  pub len : length zs ≡ length bs

pub bounds_found : (least : ℕ) (ds : List Data) (zs : List ℤ) (bs : List ℕ) → integers ds ≡ Some zs → bounds_at least zs ≡ Ok bs → BoundsFound least ds zs bs
bounds_found least [] [] bs e r = let is : [] ≡ bs = cc in subst (BoundsFound least [] []) is (record { says = tt; rising = tt; len = refl })
bounds_found least [] (z ∷ zs) bs e r = absurd cc
bounds_found least (d ∷ ds) [] bs e r = let all = (first_integer d ds [] e).all in absurd cc
bounds_found least (d ∷ ds) (z ∷ zs) bs e r =
    let f = first_integer d ds (z ∷ zs) e in
    let all : f.number ∷ f.others ≡ z ∷ zs = f.all in
    let number : f.number ≡ z = cc in
    let others : f.others ≡ zs = cc in
    let a = bind_ok (bound_at least z) _ bs r in
    let one = bound_found least z a.0 a.1 in
    let b = bind_ok (bounds_at a.0 zs) _ bs a.2 in
    let is : a.0 ∷ b.0 ≡ bs = (let h = b.2 in cc) in
    let rest = bounds_found a.0 ds zs b.0 (f.rest ∙ ap (λ (ns : List ℤ). Some ns) others) b.1 in
    let said : integer d ≡ Some (pos a.0) = f.first ∙ ap (λ (n : ℤ). Some n) (number ∙ one.0) in
    subst (BoundsFound least (d ∷ ds) (z ∷ zs)) is (record { says = (said, rest.says); rising = (one.1, rest.rising); len = ap suc rest.len })

pub bounds_read : (least : ℕ) (ds : List Data) (bs : List ℕ) → Says SaysNumber ds bs → AreRising least bs → (integers ds ≡ Some (map pos bs)) × (bounds_at least (map pos bs) ≡ Ok bs)
bounds_read least [] [] s h = (refl, refl)
bounds_read least [] (b ∷ bs) s h = absurd s
bounds_read least (d ∷ ds) [] s h = absurd s
bounds_read least (d ∷ ds) (b ∷ bs) s h =
    let rest = bounds_read b ds bs s.1 h.1 in
    let above : ltb least b ≡ true = lt-ltb least b h.0 in
    (rw (s.0, rest.0) refl, rw (above, rest.1) refl)
