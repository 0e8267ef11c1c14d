-- Splits and bodies of tables, where the steps of their readings are known.
use Rattle.std.proofs.Common.{◌≡◌, ℕ, ℤ, suc, true, false, eqb, leb, List, [], ◌∷◌, ◌++◌, length, Some, option_map, Result, Ok, Err, refl, sym, ap, ◌∙◌, subst, append_assoc}
use Rattle.std.proofs.lemmas.List.{append-nil}
use Rattle.serde_json.specs.Data.{Data}
use Rattle.documents.specs.Json.{integer}
use Rattle.documents.specs.Reading.{◌>>=◌}
use Rattle.documents.proofs.Steps.{and_then_ok, map_ok}
use Rattle.catalogue.specs.declared.fault.CatalogueFault.{CatalogueFault}
use Rattle.catalogue.specs.declared.fault.CatalogueFault.TheVariants.{Limit}
use Rattle.catalogue.specs.Shapes.{ColumnShape, SplitShape, at_bounds}
use Rattle.catalogue.specs.Reading.{SplitForm, bounded, integers, bound_at, bounds_at, split_at, columns_at, body_at}
use Rattle.catalogue.specs.Bounds.{bounds_after}

-- ---- whole numbers

pub record FirstInteger (d : Data) (ds : List Data) (zs : List ℤ) : Type 0 where
  pub number : ℤ
  pub others : List ℤ
  pub first : integer d ≡ Some number
  pub rest : integers ds ≡ Some others
  pub all : number ∷ others ≡ zs

pub first_integer : (d : Data) (ds : List Data) (zs : List ℤ) → integers (d ∷ ds) ≡ Some zs → FirstInteger d ds zs
first_integer d ds zs e =
    let a = and_then_ok _ (integer d) zs e in
    let b = map_ok (λ others. a.0 ∷ others) (integers ds) zs a.2 in
    record { number = a.0; others = b.0; first = a.1; rest = b.1; all = b.2 }

pub integers_len : (ds : List Data) (zs : List ℤ) → integers ds ≡ Some zs → length zs ≡ length ds
integers_len [] zs e = let is : [] ≡ zs = cc in ap length (sym is)
integers_len (d ∷ ds) zs e = let f = first_integer d ds zs e in ap length (sym f.all) ∙ ap suc (integers_len ds f.others f.rest)

-- ---- bounds

after_one : (before : List ℕ) (bound : ℕ) (r : Result (List ℕ) CatalogueFault)
    → (r >>= λ bs. Ok ((before ++ bound ∷ []) ++ bs)) ≡ ((r >>= λ bs. Ok (bound ∷ bs)) >>= λ bs. Ok (before ++ bs))
after_one before bound (Ok bs) = ap (λ (all : List ℕ). Ok all) (append_assoc before (bound ∷ []) bs)
after_one before bound (Err e) = refl

after_step : (before : List ℕ) (ds : List Data) (zs : List ℤ) (r : Result ℕ CatalogueFault)
    → ((b : ℕ) → bounds_after (before ++ b ∷ []) b ds ≡ (bounds_at b zs >>= λ bs. Ok ((before ++ b ∷ []) ++ bs)))
    → (r >>= λ b. bounds_after (before ++ b ∷ []) b ds) ≡ ((r >>= λ b. bounds_at b zs >>= λ bs. Ok (b ∷ bs)) >>= λ bs. Ok (before ++ bs))
after_step before ds zs (Ok b) law = law b ∙ after_one before b (bounds_at b zs)
after_step before ds zs (Err e) law = refl

bounds_go_on : (before : List ℕ) (least : ℕ) (ds : List Data) (zs : List ℤ) → integers ds ≡ Some zs → bounds_after before least ds ≡ (bounds_at least zs >>= λ bs. Ok (before ++ bs))
bounds_go_on before least [] zs e = let is : [] ≡ zs = cc in rw (← is) (ap (λ (all : List ℕ). Ok all) (sym (append-nil before)))
bounds_go_on before least (d ∷ ds) zs e =
    let f = first_integer d ds zs e in
    rw (← f.all, f.first) (after_step before ds f.others (bound_at least f.number) (λ b. bounds_go_on (before ++ b ∷ []) b ds f.others f.rest))

just_bounds : (r : Result (List ℕ) CatalogueFault) → (r >>= λ bs. Ok bs) ≡ r
just_bounds (Ok bs) = refl
just_bounds (Err e) = refl

-- the bounds that whole numbers say
pub bounds_said : (ds : List Data) (zs : List ℤ) → integers ds ≡ Some zs → bounds_after [] 0 ds ≡ bounds_at 0 zs
bounds_said ds zs e = bounds_go_on [] 0 ds zs e ∙ just_bounds (bounds_at 0 zs)

-- ---- splits

pub too_many : (ds : List Data) (said : SplitForm) → option_map bounded (integers ds) ≡ Some said → leb (length ds) 1023 ≡ false → split_at said ≡ Err Limit
unfolding split_at
too_many ds said e many =
    let m = map_ok bounded (integers ds) said e in
    subst (λ (form : SplitForm). split_at form ≡ Err Limit) m.2 (rw (integers_len ds m.0 m.1, many) refl)

pub few_enough : (ds : List Data) (said : SplitForm) → option_map bounded (integers ds) ≡ Some said → leb (length ds) 1023 ≡ true → split_at said ≡ (bounds_after [] 0 ds >>= λ bs. Ok (at_bounds bs))
unfolding split_at
few_enough ds said e few =
    let m = map_ok bounded (integers ds) said e in
    subst (λ (form : SplitForm). split_at form ≡ (bounds_after [] 0 ds >>= λ bs. Ok (at_bounds bs))) m.2 (rw (integers_len ds m.0 m.1, few, bounds_said ds m.0 m.1) refl)

-- ---- bodies

pub body_is : (form : SplitForm) (ds : List Data) (split : SplitShape) (cs : List ColumnShape) → split_at form ≡ Ok split → eqb (length ds) 0 ≡ false → leb (length ds) 16 ≡ true → columns_at [] ds ≡ Ok cs
    → body_at form ds ≡ Ok (record { split = split; columns = cs })
unfolding body_at
body_is form ds split cs a b c d = rw (a, b, c, d) refl
