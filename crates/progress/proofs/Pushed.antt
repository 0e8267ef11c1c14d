-- The last tally of a list that has gained some.
use Rattle.std.proofs.Common.{◌≡◌, List, [], ◌∷◌, ◌++◌, refl}
use Rattle.progress.specs.declared.tally.Tally.{Tally}
use Rattle.progress.specs.Tallies.{latest}

-- the last tally of a list after this one
abbrev pub last_from : Tally → List Tally → Tally
last_from t [] = t
last_from t (u ∷ us) = last_from u us

latest_cons : (t : Tally) (us : List Tally) → latest (t ∷ us) ≡ last_from t us
latest_cons t [] = refl
latest_cons t (u ∷ us) = latest_cons u us

pub latest_append : (ts us : List Tally) → latest (ts ++ us) ≡ last_from (latest ts) us
latest_append [] [] = refl
latest_append [] (u ∷ us) = latest_cons u us
latest_append (t ∷ []) us = latest_cons t us
latest_append (t ∷ v ∷ ts) us = latest_append (v ∷ ts) us

pub latest_push : (ts : List Tally) (t : Tally) → latest (ts ++ t ∷ []) ≡ t
latest_push ts t = latest_append ts (t ∷ [])
