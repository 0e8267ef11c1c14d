-- What is granted of each queue, as nodes come and leave.
use Rattle.std.proofs.Common.{◌≡◌, ℕ, ◌+◌, ◌-◌, ◌<◌, ◌≤◌, inl, inr, zero, suc, nat_lt, true, false, List, [], ◌∷◌, ◌++◌, length, take, get_or, Option, None, Some, refl, sym, ◌∙◌, ap, subst, arith}
use Rattle.std.specs.Prelude.{slice_get, slice_set}
use Rattle.std.specs.List.{list_all, remove}
use Rattle.std.specs.Option.{option_or}
use Rattle.std.proofs.lemmas.List.{length-map, length-take-le}
use Rattle.std.proofs.lemmas.Option.{slice_get_within}
use Rattle.std.proofs.lemmas.Bool.Decides.{nat_tests}
use Rattle.modes.specs.declared.mode.Mode.{Mode}
use Rattle.modes.specs.Modes.{are_compatible}
use Rattle.request_arena.specs.declared.node.Held.{Held as HeldNode}
use Rattle.request_arena.specs.Following.{without}
use Rattle.lock_tree.specs.declared.line.Line.{Line}
use Rattle.lock_tree.specs.Queues.{Queue, granted, has_number}
use Rattle.lock_tree.specs.Lines.{Lines, request_at, requests, nodes_of, others, numbers_of, modes_of}
use Rattle.lock_tree.specs.Open.{AreRising}
use Rattle.lock_tree.specs.Held.{AreHeld, times}
use Rattle.lock_tree.specs.Granted.{IsFront, IsLine, IsEmpty, Stays, AreGranted}
use Rattle.lock_tree.proofs.Positions.{none_is, get_either, without_at, removed_before, removed_after}
use Rattle.lock_tree.proofs.Asking.{request_there, requests_length, requests_without}
use Rattle.lock_tree.proofs.Leaving.{granted_length, granted_front, stay_within}
use Rattle.lock_tree.proofs.Extending.{next_fits, next_bars, times_more, front_longer}
use Rattle.lock_tree.proofs.Standing.{rising_at, places_of, has_front, granted_nowhere, leaves_front, stays_front, one_leaves, stay_front, rising_others, times_removed, times_there}

abbrev Nodes : Type 0
Nodes = List (Option HeldNode)

-- nothing is granted of an empty queue
pub empty_line : (hs : Nodes) (xs : List ℕ) (x : Line) → xs ≡ [] → IsEmpty x → IsLine hs xs x
empty_line hs xs x none_there is = subst (λ (ys : List ℕ). IsLine hs ys x) (sym none_there) here
  where
    here : IsLine hs [] x
    here = record {
      rising = tt;
      all = is.granted;
      front = record {
        within = (let g = is.granted in omega (arith, g));
        held = subst (λ (k : ℕ). AreHeld x.held (modes_of (take k []))) (sym is.granted) is.held;
        waiting = is.waiting;
      };
    }

pub granted_fresh : (l now : Lines) (x : Line) → AreGranted l → now.lines.items ≡ l.lines.items ++ x ∷ [] → IsEmpty x → nodes_of l.nodes (length l.lines.items) ≡ [] → AreGranted (record l { lines = now.lines })
granted_fresh l now x ok is empty none_there number y there = elim (get_either l.lines.items x number y (sym (ap (λ ys. slice_get ys number) is) ∙ there)) [
  | inl before ↦ ok number y before
  | inr last ↦ empty_line l.nodes.held (nodes_of l.nodes number) y (ap (nodes_of l.nodes) last.0 ∙ none_there) (subst IsEmpty (sym last.1) empty)
]

-- the same requests at the same nodes
pub line_kept : (old new : Nodes) (xs ys : List ℕ) (x : Line) → ys ≡ xs → requests new ys ≡ requests old xs → IsLine old xs x → IsLine new ys x
line_kept old new xs ys x nodes same ok = record {
  rising = subst (λ (q : Queue). AreRising (numbers_of q)) (sym same) ok.rising;
  all = ok.all ∙ ap (λ (q : Queue). length (granted q)) (sym same);
  front = record {
    within = subst (λ (q : Queue). x.granted ≤ length (granted q)) (sym same) ok.front.within;
    held = subst (λ (q : Queue). AreHeld x.held (modes_of (take x.granted q))) (sym same) ok.front.held;
    waiting = ok.front.waiting ∙ ap (λ (zs : List ℕ). slice_get zs x.granted) (sym nodes);
  };
}

pub line_by_front : (hs : Nodes) (xs : List ℕ) (x : Line) → AreRising (numbers_of (requests hs xs)) → IsFront (requests hs xs) xs x → x.granted ≡ length (granted (requests hs xs)) → IsLine hs xs x
line_by_front hs xs x rising front all = record { rising = rising; all = all; front = front }

-- ---- the front goes on

module _ (hs : Nodes) (xs : List ℕ) (x : Line) (node : ℕ) (mode : Mode) (front : IsFront (requests hs xs) xs x) (first : x.waiting ≡ Some node) (asks : (request_at hs node).1 ≡ mode) where
  abbrev q : Queue
  q = requests hs xs

  pub next_there : slice_get xs x.granted ≡ Some node
  next_there = sym front.waiting ∙ first

  pub next_near : x.granted < length q
  next_near = let l = slice_get_within xs x.granted node next_there in let n = requests_length hs xs in omega (arith, l, n)

  next_mode : (d : ℕ × Mode) → (get_or q x.granted d).1 ≡ mode
  next_mode d = ap (λ (r : ℕ × Mode). r.1) (request_there hs xs x.granted node d next_there) ∙ asks

  pub stops : list_all (λ h. are_compatible h mode) (modes_of (take x.granted q)) ≡ false → x.granted ≡ length (granted q)
  stops bars = let d : ℕ × Mode = (0, mode) in next_bars q x.granted d next_near front.within (ap (λ (m : Mode). list_all (λ h. are_compatible h m) (modes_of (take x.granted q))) (next_mode d) ∙ bars)

  pub goes_on : list_all (λ h. are_compatible h mode) (modes_of (take x.granted q)) ≡ true → x.granted + 1 ≤ length (granted q)
  goes_on fits = let d : ℕ × Mode = (0, mode) in let l = next_fits q x.granted d next_near front.within (ap (λ (m : Mode). list_all (λ h. are_compatible h m) (modes_of (take x.granted q))) (next_mode d) ∙ fits) in omega (arith, l)

  pub one_more_held : (m : Mode) → times m (modes_of (take (x.granted + 1) q)) ≡ times m (mode ∷ modes_of (take x.granted q))
  one_more_held m = let d : ℕ × Mode = (0, mode) in times_more m q x.granted (x.granted + 1) d next_near (omega arith) ∙ ap (λ (k : Mode). times m (k ∷ modes_of (take x.granted q))) (next_mode d)

  pub front_few : length (modes_of (take x.granted q)) + 1 ≤ length xs
  front_few =
      let a : length (modes_of (take x.granted q)) ≡ length (take x.granted q) = length-map (take x.granted q) (λ (r : ℕ × Mode). r.1) in
      let near = next_near in let b = length-take-le x.granted q (omega (arith, near)) in let n = requests_length hs xs in omega (arith, a, b, n, near)

pub all_granted : (hs : Nodes) (xs : List ℕ) (x : Line) → IsFront (requests hs xs) xs x → x.waiting ≡ None → x.granted ≡ length (granted (requests hs xs))
all_granted hs xs x front last =
    let past = past_end xs x.granted (sym front.waiting ∙ last) in let n = requests_length hs xs in let few = granted_length (requests hs xs) in let w = front.within in omega (arith, past, n, few, w)
  where
    past_end : (xs : List ℕ) (i : ℕ) → slice_get xs i ≡ None → length xs ≤ i
    past_end [] i e = omega arith
    past_end (x ∷ xs) zero e = absurd (cc)
    past_end (x ∷ xs) (suc i) e = let h = past_end xs i e in omega (arith, h)

-- ---- a request comes to the back

comes : (o : Option ℕ) (xs : List ℕ) (n id : ℕ) → o ≡ slice_get xs n → n ≤ length xs → option_or o (Some id) ≡ slice_get (xs ++ id ∷ []) n
comes None [] zero id is le = refl
comes None [] (suc n) id is le = absurd (omega arith)
comes (Some node) [] n id is le = absurd (none_is node (sym is))
comes o (x ∷ xs) zero id is le = ap (λ (p : Option ℕ). option_or p (Some id)) is
comes o (x ∷ xs) (suc n) id is le = comes o xs n id is (omega arith)

module _ (old new : Nodes) (xs : List ℕ) (id : ℕ) (r : ℕ × Mode) (x y : Line) (longer : requests new (xs ++ id ∷ []) ≡ requests old xs ++ r ∷ []) (ok : IsLine old xs x)
    (same : y.granted ≡ x.granted) (held : y.held ≡ x.held) (waiting : y.waiting ≡ option_or x.waiting (Some id)) where
  abbrev before : Queue
  before = requests old xs

  all : y.granted ≡ length (granted before)
  all = same ∙ ok.all

  pub longer_front : IsFront (requests new (xs ++ id ∷ [])) (xs ++ id ∷ []) y
  longer_front = record {
    within = subst (λ (q : Queue). y.granted ≤ length (granted q)) (sym longer) (subst (λ (n : ℕ). n ≤ length (granted (before ++ r ∷ []))) (sym all) (front_longer before r).0);
    held = subst (λ (q : Queue). AreHeld y.held (modes_of (take y.granted q))) (sym longer)
        (subst (λ (h : _). AreHeld h (modes_of (take y.granted (before ++ r ∷ [])))) (sym held)
        (subst (λ (ms : Queue). AreHeld x.held (modes_of ms)) (ap (λ (n : ℕ). take n before) ok.all ∙ granted_front before ∙ sym (front_longer before r).1 ∙ ap (λ (n : ℕ). take n (before ++ r ∷ [])) (sym all)) ok.front.held));
    waiting = waiting ∙ comes x.waiting xs x.granted id ok.front.waiting (let few = granted_length before in let n = requests_length old xs in let a = ok.all in omega (arith, few, n, a)) ∙ ap (slice_get (xs ++ id ∷ [])) (sym same);
  }

-- ---- whether a request is granted

less : (a b : ℕ) → a < b → true ≡ nat_lt a b
less a b h = grind (arith, nat_tests)

no_less : (a b : ℕ) → b ≤ a → false ≡ nat_lt a b
no_less a b h = grind (arith, nat_tests)

module _ (hs : Nodes) (xs : List ℕ) (x : Line) (ok : IsLine hs xs x) (no i a : ℕ) (there : slice_get xs i ≡ Some a) (owned : (request_at hs a).0 ≡ no) where
  abbrev queue : Queue
  queue = requests hs xs

  abbrev d : ℕ × Mode
  d = request_at hs a

  pub its_place : i < length queue
  its_place = let l = slice_get_within xs i a there in let n = requests_length hs xs in omega (arith, l, n)

  pub its_number : (e : ℕ × Mode) → (get_or queue i e).0 ≡ no
  its_number e = ap (λ (r : ℕ × Mode). r.0) (request_there hs xs i a e there) ∙ owned

  granted_before : i < x.granted → has_number no (granted queue) ≡ true
  granted_before l = has_front no queue i d (let a = ok.all in omega (arith, l, a)) (its_number d)

  waits_after : x.granted ≤ i → has_number no (granted queue) ≡ false
  waits_after l = granted_nowhere no queue i ok.rising (sym (places_of no queue i d ok.rising its_place (its_number d))) (let a = ok.all in omega (arith, l, a))

  pub none_waits : x.waiting ≡ None → i < x.granted
  none_waits none = let past = past_all xs x.granted (sym ok.front.waiting ∙ none) in let l = slice_get_within xs i a there in omega (arith, past, l)
    where
      past_all : (xs : List ℕ) (i : ℕ) → slice_get xs i ≡ None → length xs ≤ i
      past_all [] i e = omega arith
      past_all (x ∷ xs) zero e = absurd (cc)
      past_all (x ∷ xs) (suc i) e = let h = past_all xs i e in omega (arith, h)

  pub all_are : x.waiting ≡ None → true ≡ has_number no (granted queue)
  all_are none = sym (granted_before (none_waits none))

  module _ (w number : ℕ) (first : x.waiting ≡ Some w) (of_first : (request_at hs w).0 ≡ number) where
    first_there : slice_get xs x.granted ≡ Some w
    first_there = sym ok.front.waiting ∙ first

    first_number : (get_or queue x.granted d).0 ≡ number
    first_number = ap (λ (r : ℕ × Mode). r.0) (request_there hs xs x.granted w d first_there) ∙ of_first

    first_place : x.granted < length queue
    first_place = let l = slice_get_within xs x.granted w first_there in let n = requests_length hs xs in omega (arith, l, n)

    pub before_first : nat_lt no number ≡ has_number no (granted queue)
    before_first = order i x.granted (nat_lt no number ≡ has_number no (granted queue))
        (λ l. let r = rising_at queue i x.granted d d ok.rising l first_place in let m = its_number d in let k = first_number in sym (less no number (omega (arith, r, m, k))) ∙ sym (granted_before l))
        (λ l. sym (no_less no number (later l)) ∙ sym (waits_after l))
      where
        order : (a b : ℕ) (P : Type 0) → (a < b → P) → (b ≤ a → P) → P
        order a b P below above = elim (nat_lt a b) as (λ v. v ≡ nat_lt a b → P) [
          | true ↦ λ e. below (grind (arith, nat_tests))
          | false ↦ λ e. above (grind (arith, nat_tests))
        ] refl

        later : x.granted ≤ i → number ≤ no
        later l = elim (nat_lt x.granted i) as (λ v. v ≡ nat_lt x.granted i → number ≤ no) [
          | true ↦ λ e. let lt : x.granted < i = grind (arith, nat_tests) in let r = rising_at queue x.granted i d d ok.rising lt its_place in let m = its_number d in let k = first_number in omega (arith, r, m, k)
          | false ↦ λ e. let same : x.granted ≡ i = grind (arith, nat_tests) in let k = first_number in let m = ap (λ (j : ℕ). (get_or queue j d).0) same ∙ its_number d in omega (arith, k, m)
        ] refl

-- ---- a node leaves

order : (a b : ℕ) (P : Type 0) → (a < b → P) → (b ≤ a → P) → P
order a b P below above = elim (nat_lt a b) as (λ v. v ≡ nat_lt a b → P) [
  | true ↦ λ e. below (grind (arith, nat_tests))
  | false ↦ λ e. above (grind (arith, nat_tests))
] refl

module _ (hs : Nodes) (xs : List ℕ) (x : Line) (ok : IsLine hs xs x) (owner i a : ℕ) (there : slice_get xs i ≡ Some a) (owned : (request_at hs a).0 ≡ owner) (once : (j : ℕ) → slice_get xs j ≡ Some a → i ≡ j) where
  abbrev rs : Queue
  rs = requests hs xs

  abbrev its : ℕ × Mode
  its = request_at hs a

  placed : i < length rs
  placed = its_place hs xs x ok owner i a there owned

  named : (get_or rs i its).0 ≡ owner
  named = its_number hs xs x ok owner i a there owned its

  read : get_or rs i its ≡ its
  read = request_there hs xs i a its there

  if_before : i < x.granted → i < length (granted rs)
  if_before l = let e = ok.all in omega (arith, l, e)

  pub if_granted : true ≡ has_number owner (granted rs) → i < x.granted
  if_granted so = order i x.granted (i < x.granted) (λ l. l) (λ l. let e = waits_after hs xs x ok owner i a there owned l in absurd (cc))

  pub if_waits : false ≡ has_number owner (granted rs) → x.granted ≤ i
  if_waits not = order i x.granted (x.granted ≤ i) (λ l. let e = granted_before hs xs x ok owner i a there owned l in absurd (cc)) (λ l. l)

  -- the first that waits is known
  pub if_first : x.waiting ≡ Some a → x.granted ≡ i
  if_first e = sym (once x.granted (sym ok.front.waiting ∙ e))

  pub if_not_first : x.granted ≤ i → (x.waiting ≡ Some a → ⊥) → x.granted < i
  if_not_first le not = order x.granted i (x.granted < i) (λ l. l) (λ l. let same : x.granted ≡ i = omega (arith, le, l) in absurd (not (ok.front.waiting ∙ ap (slice_get xs) same ∙ there)))

  -- its request is granted
  pub is_there : i < x.granted → 0 < times its.1 (modes_of (granted rs))
  is_there l =
      let at : get_or (granted rs) i its ≡ get_or rs i its = (leaves_front owner rs i its ok.rising placed named (if_before l)).2 in
      subst (λ (m : Mode). 0 < times m (modes_of (granted rs))) (ap (λ (r : ℕ × Mode). r.1) (at ∙ read)) (times_there (granted rs) i its (if_before l))

  less_one : i < x.granted → (m : Mode) → times m (modes_of (granted rs)) ≡ times m (its.1 ∷ modes_of (others owner (granted rs)))
  less_one l m =
      let front = leaves_front owner rs i its ok.rising placed named (if_before l) in
      times_removed m (granted rs) i its (if_before l) ∙ ap (λ (k : Mode). times m (k ∷ modes_of (remove (granted rs) i))) (ap (λ (r : ℕ × Mode). r.1) (front.2 ∙ read))
      ∙ ap (λ (q : Queue). times m (its.1 ∷ modes_of q)) (sym front.0)

  pub held_all : AreHeld x.held (modes_of (granted rs))
  held_all = subst (λ (q : Queue). AreHeld x.held (modes_of q)) (ap (λ (n : ℕ). take n rs) ok.all ∙ granted_front rs) ok.front.held

  without_is : without a xs ≡ remove xs i
  without_is = without_at a xs i there once

  pub stays_before : (y : Line) → i < x.granted → y.granted ≡ x.granted - 1
      → ((held rest : List Mode) → AreHeld x.held held → ((m : Mode) → times m held ≡ times m (its.1 ∷ rest)) → AreHeld y.held rest) → y.waiting ≡ x.waiting → Stays hs xs a owner y
  stays_before y l less taken waiting = record {
    count = (let n = (leaves_front owner rs i its ok.rising placed named (if_before l)).1 in let e = ok.all in omega (arith, n, e, less));
    modes = taken (modes_of (granted rs)) (modes_of (others owner (granted rs))) held_all (less_one l);
    waiting = waiting ∙ ok.front.waiting ∙ ap (slice_get xs) (one_off x.granted y.granted (omega (arith, l)) less) ∙ sym (removed_after xs i y.granted (omega (arith, l, less))) ∙ ap (λ (zs : List ℕ). slice_get zs y.granted) (sym without_is);
  }
    where
      one_off : (n m : ℕ) → 0 < n → m ≡ n - 1 → n ≡ suc m
      one_off n m l e = omega (arith, l, e)

  stays_all : x.granted ≤ i → others owner (granted rs) ≡ granted rs
  stays_all l = stays_front owner rs i its ok.rising placed named (let e = ok.all in omega (arith, l, e))

  pub stays_first : (y : Line) → x.granted ≡ i → y.granted ≡ x.granted → y.held ≡ x.held → y.waiting ≡ slice_get xs (i + 1) → Stays hs xs a owner y
  stays_first y same kept held waiting = record {
    count = kept ∙ ok.all ∙ ap length (sym (stays_all (omega (arith, same))));
    modes = subst (λ (h : _). AreHeld h (modes_of (others owner (granted rs)))) (sym held) (subst (λ (q : Queue). AreHeld x.held (modes_of q)) (sym (stays_all (omega (arith, same)))) held_all);
    waiting = waiting ∙ ap (slice_get xs) (more i) ∙ sym (removed_after xs i i (omega arith)) ∙ ap (slice_get (remove xs i)) (sym (kept ∙ same)) ∙ ap (λ (zs : List ℕ). slice_get zs y.granted) (sym without_is);
  }
    where
      more : (n : ℕ) → n + 1 ≡ suc n
      more n = omega arith

  pub stays_after : (y : Line) → x.granted < i → y.granted ≡ x.granted → y.held ≡ x.held → y.waiting ≡ x.waiting → Stays hs xs a owner y
  stays_after y l kept held waiting = record {
    count = kept ∙ ok.all ∙ ap length (sym (stays_all (omega (arith, l))));
    modes = subst (λ (h : _). AreHeld h (modes_of (others owner (granted rs)))) (sym held) (subst (λ (q : Queue). AreHeld x.held (modes_of q)) (sym (stays_all (omega (arith, l)))) held_all);
    waiting = waiting ∙ ok.front.waiting ∙ sym (removed_before xs i x.granted l) ∙ ap (slice_get (remove xs i)) (sym kept) ∙ ap (λ (zs : List ℕ). slice_get zs y.granted) (sym without_is);
  }

  -- the requests that are left, and what is granted of them so far
  pub rest_requests : (new : Nodes) → new ≡ slice_set hs a None → requests new (without a xs) ≡ others owner rs
  rest_requests new is = requests_without hs new xs i a is there once ∙ sym (one_leaves owner rs i its ok.rising placed named)

  pub rest_rising : (new : Nodes) → new ≡ slice_set hs a None → AreRising (numbers_of (requests new (without a xs)))
  rest_rising new is = subst (λ (q : Queue). AreRising (numbers_of q)) (sym (rest_requests new is)) (rising_others owner rs ok.rising)

  pub rest_front : (new : Nodes) (y : Line) → new ≡ slice_set hs a None → Stays hs xs a owner y → IsFront (requests new (without a xs)) (without a xs) y
  rest_front new y is stays =
      subst (λ (q : Queue). IsFront q (without a xs) y) (sym (rest_requests new is)) record {
        within = (let w = stay_within owner rs in let g = stays.count in omega (arith, w, g));
        held = subst (λ (q : Queue). AreHeld y.held (modes_of q)) (sym (ap (λ (n : ℕ). take n (others owner rs)) stays.count ∙ stay_front owner rs)) stays.modes;
        waiting = stays.waiting;
      }
