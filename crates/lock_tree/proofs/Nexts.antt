-- The first of the open transactions.
use Rattle.std.proofs.Common.{◌≡◌, ℕ, ◌<◌, ◌≤◌, ◌⊎◌, inl, inr, zero, suc, Bool, true, false, cond, not, ◌&&◌, List, [], ◌∷◌, length, slice_get, refl, sym, ◌∙◌, ap, subst, arith}
use Rattle.std.specs.List.{Contains}
use Rattle.footprint.specs.declared.resource.Resource.{Resource}
use Rattle.lock_tree.specs.Entered.{Enqueued}
use Rattle.lock_tree.specs.Locks.{Waiting, IsRising}
use Rattle.lock_tree.specs.Queues.{queue}
use Rattle.lock_tree.specs.Ready.{ready, IsOpen, IsNextReady}
use Rattle.lock_tree.specs.Views.{waiting_of, all_waiting}
use Rattle.lock_tree.specs.Lines.{Lines, line}
use Rattle.lock_tree.specs.Known.{AreKnown}
use Rattle.lock_tree.specs.Open.{is_open, open_of}
use Rattle.lock_tree.proofs.Places.{at, entry_there}
use Rattle.lock_tree.proofs.Trees.{member_above, item_flag}

-- an entry that stands at a place
pub record StandsAt (es : List Enqueued) (i : ℕ) (e : Enqueued) : Type 0 where
  pub within : i < length es
  pub there : e ≡ at es i e

-- the first of the open ones
pub record IsFirstOpen (es : List Enqueued) (n : ℕ) : Type 0 where
  pub one : (e : Enqueued) × (i : ℕ) × StandsAt es i e × (is_open e ≡ true) × (e.no ≡ n)
  pub least : (i : ℕ) (e : Enqueued) → StandsAt es i e → is_open e ≡ true → n ≤ e.no

true_false : true ≡ false → ⊥
true_false e = absurd (cc)

number_first : (n m : ℕ) (ns ms : List ℕ) → n ∷ ns ≡ m ∷ ms → n ≡ m
number_first n m ns ms e = cc

no_first : (n : ℕ) (ns : List ℕ) → n ∷ ns ≡ [] → ⊥
no_first n ns e = absurd (cc)

none_first : (n : ℕ) (ns : List ℕ) → [] ≡ n ∷ ns → ⊥
none_first n ns e = absurd (cc)

-- an entry that stands after the first, or is the first
abbrev IsLater : Enqueued → List Enqueued → ℕ → Enqueued → Type 0
IsLater f es i e = (j : ℕ) × (i ≡ suc j) × StandsAt es j e

first_or_later : (f : Enqueued) (es : List Enqueued) (i : ℕ) (e : Enqueued) → StandsAt (f ∷ es) i e → (e ≡ f) ⊎ IsLater f es i e
first_or_later f es zero e s = inl s.there
first_or_later f es (suc j) e s = inr (j, refl, record { within = (let l = s.within in omega (arith, l)); there = s.there })

nobody_open : (es : List Enqueued) → open_of es ≡ [] → (i : ℕ) (e : Enqueued) → StandsAt es i e → is_open e ≡ true → ⊥
nobody_open [] none i e s o = (let l = s.within in absurd (omega (arith, l)))
nobody_open (f ∷ es) none i e s o = elim (is_open f) as (λ v. is_open f ≡ v → cond v (f.no ∷ open_of es) (open_of es) ≡ [] → ⊥) [
  | true ↦ λ u none. no_first f.no (open_of es) none
  | false ↦ λ u none. elim (first_or_later f es i e s) [
    | inl same ↦ true_false (sym o ∙ ap is_open same ∙ u)
    | inr b ↦ nobody_open es none b.0 e b.2 o
  ]
] refl none

first_open : (es : List Enqueued) (n : ℕ) (ns : List ℕ) → IsRising (all_waiting es) → open_of es ≡ n ∷ ns → IsFirstOpen es n
first_open [] n ns rising is = absurd (none_first n ns is)
first_open (f ∷ es) n ns rising is = elim (is_open f) as (λ v. is_open f ≡ v → cond v (f.no ∷ open_of es) (open_of es) ≡ n ∷ ns → IsFirstOpen (f ∷ es) n) [
  | true ↦ λ u is.
      let same : f.no ≡ n = number_first f.no n (open_of es) ns is in
      record {
        one = (f, 0, record { within = omega arith; there = refl }, u, same);
        least = λ i e s o. elim (first_or_later f es i e s) [
          | inl it ↦ (let k = ap (λ (x : Enqueued). x.no) it in omega (arith, k, same))
          | inr b ↦
              (let above = member_above f.no es b.0 e rising.0 b.2.within in
              let k = ap (λ (x : Enqueued). x.no) b.2.there in
              omega (arith, above, k, same))
        ];
      }
  | false ↦ λ u is.
      let r = first_open es n ns rising.1 is in
      let o = r.one in
      record {
        one = (o.0, suc o.1, record { within = (let l = o.2.within in omega (arith, l)); there = o.2.there }, o.3, o.4);
        least = λ i e s open_one. elim (first_or_later f es i e s) [
          | inl it ↦ absurd (true_false (sym open_one ∙ ap is_open it ∙ u))
          | inr b ↦ r.least b.0 e b.2 open_one
        ];
      }
] refl is

-- a transaction among those that are seen
member_stands : (es : List Enqueued) (w : Waiting) → Contains (all_waiting es) w → (e : Enqueued) × (i : ℕ) × StandsAt es i e × (waiting_of e ≡ w)
member_stands [] w k = absurd (let l = k.1 in omega (arith, l))
member_stands (f ∷ es) w (zero, l, is) = (f, 0, record { within = omega arith; there = refl }, is)
member_stands (f ∷ es) w (suc n, l, is) =
    let r = member_stands es w (n, omega (arith, l), is) in
    (r.0, suc r.1, record { within = (let m = r.2.within in omega (arith, m)); there = r.2.there }, r.3)

both : (a b : Bool) → (not a && b) ≡ true → (a ≡ false) × (b ≡ true)
both true b h = absurd (cc)
both false b h = (refl, h)

and : (a b : Bool) → a ≡ false → b ≡ true → (not a && b) ≡ true
and a b e f = ap (λ x. not x && b) e ∙ f

module _ (lines : Lines) (es : List Enqueued) (ws : List Waiting) (view : all_waiting es ≡ ws) (rising : IsRising (all_waiting es)) (is : (r : Resource) → line lines r ≡ queue r (all_waiting es)) (known : AreKnown (line lines) [] es) where
  flag : (i : ℕ) (e : Enqueued) → StandsAt es i e → e.ready ≡ ready ws e.no
  flag i e s = item_flag lines es es ws i e refl view rising is known s.within s.there

  opens : (i : ℕ) (e : Enqueued) → StandsAt es i e → is_open e ≡ true → IsOpen ws (waiting_of e)
  opens i e s o =
      let p = both e.marked e.ready o in
      record {
        there = subst (λ (xs : List Waiting). Contains xs (waiting_of e)) view (subst (λ (x : Enqueued). Contains (all_waiting es) (waiting_of x)) (sym s.there) (entry_there es i e s.within));
        unmarked = p.0;
        is_ready = sym (flag i e s) ∙ p.1;
      }

  is_opened : (w : Waiting) → IsOpen ws w → (e : Enqueued) × (i : ℕ) × StandsAt es i e × (is_open e ≡ true) × (e.no ≡ w.no)
  is_opened w o =
      let m = member_stands es w (subst (λ (xs : List Waiting). Contains xs w) (sym view) o.there) in
      let e = m.0 in
      let number : e.no ≡ w.no = ap (λ (x : Waiting). x.no) m.3 in
      let unmarked : e.marked ≡ false = ap (λ (x : Waiting). x.marked) m.3 ∙ o.unmarked in
      let is_ready : e.ready ≡ true = flag m.1 e m.2 ∙ ap (ready ws) number ∙ o.is_ready in
      (e, m.1, m.2, and e.marked e.ready unmarked is_ready, number)

  pub next_is : (numbers : List ℕ) → numbers ≡ open_of es → IsNextReady ws (slice_get numbers 0)
  next_is [] h = λ w o. (let r = is_opened w o in nobody_open es (sym h) r.1 r.0 r.2 r.3)
  next_is (n ∷ ns) h =
      let f = first_open es n ns rising (sym h) in
      let o = f.one in (
        (waiting_of o.0, opens o.1 o.0 o.2 o.3, o.4),
        λ w open_one. (let r = is_opened w open_one in let l = f.least r.1 r.0 r.2 r.3 in let k = r.4 in omega (arith, l, k)),
      )
