-- The longest compatible front.
use Rattle.std.proofs.Common.{◌≡◌, ℕ, ◌<◌, ◌⊎◌, inl, inr, zero, suc, Bool, true, false, cond, ◌&&◌, List, [], ◌∷◌, ◌++◌, length, refl, sym, ◌∙◌, ap, arith, slice_index_or}
use Rattle.std.specs.List.{list_all, Contains}
use Rattle.modes.specs.declared.mode.Mode.{Mode}
use Rattle.modes.specs.Modes.{are_compatible}
use Rattle.lock_tree.specs.Queues.{Queue, granted_beside, granted}
use Rattle.lock_tree.specs.Laws.{GrantsLongestFront}

both : (a b : Bool) → (a && b) ≡ true → (a ≡ true) × (b ≡ true)
both true b h = (refl, h)
both false b h = absurd (cc)

contains_later : {X : Type 0} (x : X) (xs : List X) (y : X) → Contains xs y → Contains (x ∷ xs) y
contains_later x xs y (k, l, is) = (suc k, omega (arith, l), is)

first_or_further : {X : Type 0} (x : X) (xs : List X) (y : X) → Contains (x ∷ xs) y → (x ≡ y) ⊎ Contains xs y
first_or_further x xs y (zero, l, is) = inl is
first_or_further x xs y (suc k, l, is) = inr (k, omega (arith, l), is)

-- ---- a front

front_of : (held : List Mode) (qs : Queue) → (rest : Queue) × (qs ≡ granted_beside held qs ++ rest)
front_of held [] = ([], refl)
front_of held (q ∷ qs) = elim (list_all (λ h. are_compatible h q.1) held) as (λ v. (rest : Queue) × (q ∷ qs ≡ cond v (q ∷ granted_beside (q.1 ∷ held) qs) [] ++ rest)) [
  | true ↦ let r = front_of (q.1 ∷ held) qs in (r.0, ap (λ xs. q ∷ xs) r.1)
  | false ↦ (q ∷ qs, refl)
]

-- ---- whose members are compatible

holder_admits : (held : List Mode) (q : ℕ × Mode) (qs : Queue) (j : ℕ) (d : ℕ × Mode) → list_all (λ h. are_compatible h q.1) held ≡ true
    → ((i : ℕ) → i < length (granted_beside (q.1 ∷ held) qs) → list_all (λ h. are_compatible h (slice_index_or (granted_beside (q.1 ∷ held) qs) i d).1) (q.1 ∷ held) ≡ true)
    → j < length (q ∷ granted_beside (q.1 ∷ held) qs)
    → list_all (λ h. are_compatible h (slice_index_or (q ∷ granted_beside (q.1 ∷ held) qs) j d).1) held ≡ true
holder_admits held q qs zero d t more l = t
holder_admits held q qs (suc j) d t more l =
    (both (are_compatible q.1 (slice_index_or (granted_beside (q.1 ∷ held) qs) j d).1) (list_all (λ h. are_compatible h (slice_index_or (granted_beside (q.1 ∷ held) qs) j d).1) held) (more j (omega (arith, l)))).1

granted_beside_held : (held : List Mode) (qs : Queue) (j : ℕ) (d : ℕ × Mode) → j < length (granted_beside held qs)
    → list_all (λ h. are_compatible h (slice_index_or (granted_beside held qs) j d).1) held ≡ true
granted_beside_held held [] j d l = absurd (omega (arith, l))
granted_beside_held held (q ∷ qs) j d l = elim (list_all (λ h. are_compatible h q.1) held) as (λ v. list_all (λ h. are_compatible h q.1) held ≡ v → j < length (cond v (q ∷ granted_beside (q.1 ∷ held) qs) [])
    → list_all (λ h. are_compatible h (slice_index_or (cond v (q ∷ granted_beside (q.1 ∷ held) qs) []) j d).1) held ≡ true) [
      | true ↦ λ t l. holder_admits held q qs j d t (λ i m. granted_beside_held (q.1 ∷ held) qs i d m) l
      | false ↦ λ t l. absurd (omega (arith, l))
    ] refl l

pairs_here : (held : List Mode) (q : ℕ × Mode) (qs : Queue) (i j : ℕ) (d : ℕ × Mode)
    → ((a b : ℕ) → a < b → b < length (granted_beside (q.1 ∷ held) qs) → are_compatible (slice_index_or (granted_beside (q.1 ∷ held) qs) a d).1 (slice_index_or (granted_beside (q.1 ∷ held) qs) b d).1 ≡ true)
    → i < j → j < length (q ∷ granted_beside (q.1 ∷ held) qs)
    → are_compatible (slice_index_or (q ∷ granted_beside (q.1 ∷ held) qs) i d).1 (slice_index_or (q ∷ granted_beside (q.1 ∷ held) qs) j d).1 ≡ true
pairs_here held q qs i zero d more less l = absurd (omega (arith, less))
pairs_here held q qs zero (suc j) d more less l =
    (both (are_compatible q.1 (slice_index_or (granted_beside (q.1 ∷ held) qs) j d).1) (list_all (λ h. are_compatible h (slice_index_or (granted_beside (q.1 ∷ held) qs) j d).1) held) (granted_beside_held (q.1 ∷ held) qs j d (omega (arith, l)))).0
pairs_here held q qs (suc i) (suc j) d more less l = more i j (omega (arith, less)) (omega (arith, l))

pairs : (held : List Mode) (qs : Queue) (i j : ℕ) (d : ℕ × Mode) → i < j → j < length (granted_beside held qs)
    → are_compatible (slice_index_or (granted_beside held qs) i d).1 (slice_index_or (granted_beside held qs) j d).1 ≡ true
pairs held [] i j d less l = absurd (omega (arith, l))
pairs held (q ∷ qs) i j d less l = elim (list_all (λ h. are_compatible h q.1) held) as (λ v. j < length (cond v (q ∷ granted_beside (q.1 ∷ held) qs) [])
    → are_compatible (slice_index_or (cond v (q ∷ granted_beside (q.1 ∷ held) qs) []) i d).1 (slice_index_or (cond v (q ∷ granted_beside (q.1 ∷ held) qs) []) j d).1 ≡ true) [
      | true ↦ λ l. pairs_here held q qs i j d (λ a b k m. pairs (q.1 ∷ held) qs a b d k m) less l
      | false ↦ λ l. absurd (omega (arith, l))
    ] l

-- ---- and no longer one is compatible

-- one of those held is not compatible
barred : (held : List Mode) (b : Mode) → list_all (λ h. are_compatible h b) held ≡ false → (h : Mode) × Contains held h × (are_compatible h b ≡ false)
barred [] b f = absurd (cc)
barred (h ∷ held) b f = elim (are_compatible h b) as (λ v. are_compatible h b ≡ v → (v && list_all (λ h. are_compatible h b) held) ≡ false → (x : Mode) × Contains (h ∷ held) x × (are_compatible x b ≡ false)) [
  | true ↦ λ e f. let r = barred held b f in (r.0, contains_later h held r.0 r.1, r.2)
  | false ↦ λ e f. (h, (0, omega arith, refl), e)
] refl f

first_of : {X : Type 0} (x y : X) (xs ys : List X) → x ∷ xs ≡ y ∷ ys → x ≡ y
first_of x y xs ys e = cc

rest_of : {X : Type 0} (x y : X) (xs ys : List X) → x ∷ xs ≡ y ∷ ys → xs ≡ ys
rest_of x y xs ys e = cc

abbrev StoppedBy : List Mode → Queue → Mode → Type 0
StoppedBy held front b = ((h : Mode) × Contains held h × (are_compatible h b ≡ false)) ⊎ ((q : ℕ × Mode) × Contains front q × (are_compatible q.1 b ≡ false))

stopped : (held : List Mode) (qs : Queue) (next : ℕ × Mode) (rest : Queue) → qs ≡ granted_beside held qs ++ next ∷ rest → StoppedBy held (granted_beside held qs) next.1
stopped held [] next rest e = absurd (cc)
stopped held (q ∷ qs) next rest e = elim (list_all (λ h. are_compatible h q.1) held) as (λ v. list_all (λ h. are_compatible h q.1) held ≡ v
    → q ∷ qs ≡ cond v (q ∷ granted_beside (q.1 ∷ held) qs) [] ++ next ∷ rest → StoppedBy held (cond v (q ∷ granted_beside (q.1 ∷ held) qs) []) next.1) [
      | true ↦ λ t e. elim (stopped (q.1 ∷ held) qs next rest (rest_of q q qs (granted_beside (q.1 ∷ held) qs ++ next ∷ rest) e)) [
        | inl h ↦ elim (first_or_further q.1 held h.0 h.1) [
          | inl same ↦ inr (q, (0, omega arith, refl), ap (λ m. are_compatible m next.1) same ∙ h.2)
          | inr k ↦ inl (h.0, k, h.2)
        ]
        | inr x ↦ inr (x.0, contains_later q (granted_beside (q.1 ∷ held) qs) x.0 x.1, x.2)
      ]
      | false ↦ λ t e.
          let same : q ≡ next = first_of q next qs rest e in
          inl (barred held next.1 (ap (λ (x : ℕ × Mode). list_all (λ h. are_compatible h x.1) held) (sym same) ∙ t))
    ] refl e

none_held : (q : Queue) (b : Mode) → StoppedBy [] q b → (x : ℕ × Mode) × Contains q x × (are_compatible x.1 b ≡ false)
none_held q b (inl h) = absurd (let l = h.1.1 in omega (arith, l))
none_held q b (inr x) = x

pub grants_longest_front : GrantsLongestFront
grants_longest_front = record {
  front = λ qs. front_of [] qs;
  compatible = λ qs i j d less l. pairs [] qs i j d less l;
  longest = λ qs next rest e. none_held (granted qs) next.1 (stopped [] qs next rest e);
}
