-- Things that are read one after another, each with a name that none before it has.
use Rattle.std.proofs.Common.{◌≡◌, ℕ, Bool, true, false, ◌||◌, List, [], ◌∷◌, ◌++◌, length, map, Result, Ok, refl, sym, ap, ◌∙◌, subst, append_assoc, suc}
use Rattle.std.specs.Str.{bytes_eq}
use Rattle.std.specs.List.{AllByRecursion, IsDistinct}
use Rattle.std.proofs.lemmas.List.{append-nil}
use Rattle.std.proofs.lemmas.Slice.Eq.{bytes_eq-Decides}
use Rattle.serde_json.specs.Data.{Data}
use Rattle.documents.specs.Reading.{each_at}
use Rattle.documents.proofs.Steps.{bind_ok}
use Rattle.catalogue.specs.Reading.{is_used}
use Rattle.catalogue.specs.Rules.{Says}

same_text : (a b : List ℕ) → bytes_eq a b ≡ false → bytes_eq b a ≡ false
same_text a b e = by (bytes_eq b a) refl
  where
    by : (r : Bool) → bytes_eq b a ≡ r → bytes_eq b a ≡ false
    by false p = p
    by true p = absurd (let q = (bytes_eq-Decides a b).1 (sym ((bytes_eq-Decides b a).0 p)) in cc)

neither : (a b : Bool) → (a || b) ≡ false → (a ≡ false) × (b ≡ false)
neither true b e = absurd cc
neither false b e = (refl, e)

module _ {X : Type 0} (name_of : X → List ℕ) where
  -- a new name after the others
  unlike_push : (n : List ℕ) (xs : List X) (x : X) → AllByRecursion (λ y. bytes_eq n y ≡ false) (map name_of xs) → bytes_eq n (name_of x) ≡ false → AllByRecursion (λ y. bytes_eq n y ≡ false) (map name_of (xs ++ x ∷ []))
  unlike_push n [] x h e = (e, tt)
  unlike_push n (y ∷ xs) x h e = (h.0, unlike_push n xs x h.1 e)

  pub distinct_push : (xs : List X) (x : X) → IsDistinct bytes_eq (map name_of xs) → is_used name_of (name_of x) xs ≡ false → IsDistinct bytes_eq (map name_of (xs ++ x ∷ []))
  unfolding IsDistinct
  distinct_push [] x d u = (tt, tt)
  distinct_push (y ∷ xs) x d u =
      let both = neither (bytes_eq (name_of x) (name_of y)) (is_used name_of (name_of x) xs) u in
      (unlike_push (name_of y) xs x d.0 (same_text (name_of x) (name_of y) both.0), distinct_push xs x d.1 both.1)

  unlike_at : (n : List ℕ) (xs : List X) (x : X) (ys : List X) → AllByRecursion (λ y. bytes_eq n y ≡ false) (map name_of (xs ++ x ∷ ys)) → bytes_eq n (name_of x) ≡ false
  unlike_at n [] x ys h = h.0
  unlike_at n (y ∷ xs) x ys h = unlike_at n xs x ys h.1

  -- where all names differ, a name is not used before it
  pub unused : (xs : List X) (x : X) (ys : List X) → IsDistinct bytes_eq (map name_of (xs ++ x ∷ ys)) → is_used name_of (name_of x) xs ≡ false
  unfolding IsDistinct
  unused [] x ys d = refl
  unused (y ∷ xs) x ys d =
      let first : bytes_eq (name_of x) (name_of y) ≡ false = same_text (name_of y) (name_of x) (unlike_at (name_of y) xs x ys d.0) in
      rw first (unused xs x ys d.1)

-- What is read, of documents that each say one thing that keeps its own rule.
module _ {X F : Type 0} (name_of : X → List ℕ) (one : List X → Data → Result X F) (SaysOne : Data → X → Type 0) (Fits : X → Type 0) where
  pub record Found (before : List X) (ds : List Data) (all : List X) : Type 0 where
    pub new : List X
    pub is : all ≡ before ++ new
    pub says : Says SaysOne ds new
    pub fits : AllByRecursion Fits new
    pub distinct : IsDistinct bytes_eq (map name_of all)

  pub each_found : ((before : List X) (d : Data) (x : X) → one before d ≡ Ok x → SaysOne d x × Fits x × (is_used name_of (name_of x) before ≡ false))
      → (before : List X) (ds : List Data) (all : List X) → IsDistinct bytes_eq (map name_of before) → each_at one before ds ≡ Ok all → Found before ds all
  each_found law before [] all d e =
      let is : before ≡ all = cc in
      record { new = []; is = sym is ∙ sym (append-nil before); says = tt; fits = tt; distinct = rw (← is) d }
  each_found law before (doc ∷ ds) all d e =
      let s = bind_ok (one before doc) (λ x. each_at one (before ++ x ∷ []) ds) all e in
      let h = law before doc s.0 s.1 in
      let rest = each_found law (before ++ s.0 ∷ []) ds all (distinct_push name_of before s.0 d h.2) s.2 in
      record { new = s.0 ∷ rest.new; is = rest.is ∙ append_assoc before (s.0 ∷ []) rest.new; says = (h.0, rest.says); fits = (h.1, rest.fits); distinct = rest.distinct }

  pub each_again : ((before : List X) (d : Data) (x : X) → SaysOne d x → Fits x → is_used name_of (name_of x) before ≡ false → one before d ≡ Ok x)
      → (before : List X) (ds : List Data) (xs : List X) → Says SaysOne ds xs → AllByRecursion Fits xs → IsDistinct bytes_eq (map name_of (before ++ xs)) → each_at one before ds ≡ Ok (before ++ xs)
  each_again law before [] [] s f d = ap (λ (ys : List X). Ok ys) (sym (append-nil before))
  each_again law before [] (x ∷ xs) s f d = absurd s
  each_again law before (doc ∷ ds) [] s f d = absurd s
  each_again law before (doc ∷ ds) (x ∷ xs) s f d =
      let first = law before doc x s.0 f.0 (unused name_of before x xs d) in
      let whole : (before ++ x ∷ []) ++ xs ≡ before ++ x ∷ xs = append_assoc before (x ∷ []) xs in
      rw first (each_again law (before ++ x ∷ []) ds xs s.1 f.1 (subst (λ (ys : List X). IsDistinct bytes_eq (map name_of ys)) (sym whole) d) ∙ ap (λ (ys : List X). Ok ys) whole)

  pub says_len : (ds : List Data) (xs : List X) → Says SaysOne ds xs → length ds ≡ length xs
  says_len [] [] s = refl
  says_len [] (x ∷ xs) s = absurd s
  says_len (d ∷ ds) [] s = absurd s
  says_len (d ∷ ds) (x ∷ xs) s = ap suc (says_len ds xs s.1)
