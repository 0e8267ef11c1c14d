-- The transactions under their numbers, as one changes, goes or comes.
use Rattle.std.proofs.Common.{◌≡◌, ℕ, ◌<◌, ◌≤◌, false, true, List, [], ◌∷◌, ◌++◌, length, None, Some, refl, sym, ◌∙◌, ap, subst, arith, slice_set, ◌&&◌, not, Bool, cond}
use Rattle.std.specs.List.{remove}
use Rattle.std.specs.Map.{lookup, set_value, remove_entry, values_of}
use Rattle.std.specs.BTreeMap.{is_at, insert_entry}
use Rattle.std.specs.Ordering.{nat_cmp}
use Rattle.std.specs.VecDeque.{deque_capacity}
use Rattle.lock_tree.specs.Entered.{Enqueued}
use Rattle.lock_tree.specs.declared.transactions.Transactions.{Transactions}
use Rattle.lock_tree.specs.Locks.{IsRising}
use Rattle.lock_tree.specs.Enqueues.{AreBelow}
use Rattle.lock_tree.specs.Placing.{place_numbered}
use Rattle.lock_tree.specs.Views.{all_waiting, enqueued}
use Rattle.lock_tree.specs.Open.{is_open, open_of, placed}
use Rattle.lock_tree.specs.Indexed.{AreNamed, IsIndexed, IsFound}
use Rattle.lock_tree.proofs.Places.{at, some_one, none_some}
use Rattle.lock_tree.proofs.Knowing.{at_any}
use Rattle.lock_tree.proofs.Trees.{number_at}
use Rattle.lock_tree.proofs.Opens.{open_few, open_removed, open_end}
use Rattle.lock_tree.proofs.Marks.{room_to_note, noted_set, rising_set, set_few, removed_few, removed_rising, below_end, end_length}
use Rattle.lock_tree.proofs.Named.{found, value_set, named_set, value_removed, named_removed, entered, values_end, named_end, last_set}

-- the one that was found stands at its place, whatever is read beside
pub it_stands : (k : ℕ) (es : List Enqueued) (e : Enqueued) (i : ℕ) (d : Enqueued) → IsFound es k e → place_numbered k (all_waiting es) ≡ Some i → e ≡ at es i d
it_stands k es e i d r h =
    r.there ∙ at_any es r.place e d r.within ∙ ap (λ n. at es n d) (some_one r.place i (sym r.exact ∙ h))

pub not_absent : (k : ℕ) (es : List Enqueued) (e : Enqueued) → IsFound es k e → place_numbered k (all_waiting es) ≡ None → ⊥
not_absent k es e r h = none_some r.place (sym h ∙ r.exact)

module _ (t : Transactions) (k : ℕ) (e : Enqueued) (indexed : IsIndexed t) (h : lookup (is_at (nat_cmp k)) t.entries.entries ≡ Some e) where
  pub it : IsFound (enqueued t) k e
  it = found k t.entries.entries e indexed.named h

  pub number : e.no ≡ k
  number = ap (λ (x : Enqueued). x.no) it.there ∙ number_at k (enqueued t) it.place e it.exact

  -- ---- it changes, but for its number

  pub room_to_change : (w : Enqueued) → w.no ≡ e.no → is_open w ≡ true → length (placed w.no true t.open.items) ≤ deque_capacity t.open
  room_to_change w same open_one =
      room_to_note t.open.items (enqueued t) it.place (deque_capacity t.open) e w indexed.open_ones indexed.rising it.within (same ∙ ap (λ (x : Enqueued). x.no) it.there) indexed.room open_one

  pub changed : (w : Enqueued) (xs : List (ℕ × Enqueued)) → xs ≡ set_value (is_at (nat_cmp k)) t.entries.entries w → values_of xs ≡ slice_set (enqueued t) it.place w
  changed w xs is = ap values_of is ∙ value_set k t.entries.entries it.place w indexed.named it.exact

  pub changed_at : (w : Enqueued) (xs : List (ℕ × Enqueued)) (i : ℕ) → xs ≡ set_value (is_at (nat_cmp k)) t.entries.entries w → place_numbered k (all_waiting (enqueued t)) ≡ Some i → values_of xs ≡ slice_set (enqueued t) i w
  changed_at w xs i is there = ap values_of is ∙ value_set k t.entries.entries i w indexed.named there

  pub changed_index : (new : Transactions) (w : Enqueued) → w.no ≡ e.no → new.entries.entries ≡ set_value (is_at (nat_cmp k)) t.entries.entries w → new.open.items ≡ placed w.no (is_open w) t.open.items
      → deque_capacity t.open ≤ deque_capacity new.open → IsIndexed new
  changed_index new w same is open_ones more =
      let es = enqueued t in
      let now = changed w new.entries.entries is in
      let no : w.no ≡ (at es it.place e).no = same ∙ ap (λ (x : Enqueued). x.no) it.there in
      record {
        rising = subst (λ (xs : List Enqueued). IsRising (all_waiting xs)) (sym now) (rising_set es it.place e w it.within no indexed.rising);
        named = subst AreNamed (sym is) (named_set k t.entries.entries w indexed.named (same ∙ number));
        open_ones = noted_set t.open.items new.open.items es it.place e w indexed.open_ones indexed.rising it.within no open_ones ∙ ap open_of (sym now);
        room = (let few = set_few es it.place (deque_capacity t.open) w indexed.room in let n = ap length now in omega (arith, few, n, more));
      }

  -- ---- it goes

  pub gone_at : (xs : List (ℕ × Enqueued)) (i : ℕ) → xs ≡ remove_entry (is_at (nat_cmp k)) t.entries.entries → place_numbered k (all_waiting (enqueued t)) ≡ Some i → values_of xs ≡ remove (enqueued t) i
  gone_at xs i is there = ap values_of is ∙ value_removed k t.entries.entries i indexed.named there

  pub gone_index : (new : Transactions) → new.entries.entries ≡ remove_entry (is_at (nat_cmp k)) t.entries.entries → new.open.items ≡ placed k false t.open.items → deque_capacity new.open ≡ deque_capacity t.open → IsIndexed new
  gone_index new is open_ones same =
      let es = enqueued t in
      let now = gone_at new.entries.entries it.place is it.exact in
      record {
        rising = subst (λ (xs : List Enqueued). IsRising (all_waiting xs)) (sym now) (removed_rising es it.place indexed.rising);
        named = subst AreNamed (sym is) (named_removed k t.entries.entries indexed.named);
        open_ones = open_ones ∙ ap (placed k false) indexed.open_ones
            ∙ sym (open_removed es it.place k e indexed.rising it.within (sym (ap (λ (x : Enqueued). x.no) it.there) ∙ number)) ∙ ap open_of (sym now);
        room = (let few = removed_few es it.place in let n = ap length now in let room = indexed.room in omega (arith, few, n, room, same));
      }

-- ---- one that waits comes

append_none : (xs : List ℕ) → xs ++ [] ≡ xs
append_none [] = refl
append_none (x ∷ xs) = ap (λ ys. x ∷ ys) (append_none xs)

waits : (m : Bool) → (not m && false) ≡ false
waits true = refl
waits false = refl

pub is_shut : (e : Enqueued) → e.ready ≡ false → is_open e ≡ false
is_shut e h = ap (λ r. not e.marked && r) h ∙ waits e.marked

pub come : (t : Transactions) (e : Enqueued) (xs : List (ℕ × Enqueued)) → IsIndexed t → AreBelow e.no (all_waiting (enqueued t)) → xs ≡ insert_entry nat_cmp t.entries.entries e.no e → values_of xs ≡ enqueued t ++ e ∷ []
come t e xs indexed below is = ap values_of (is ∙ entered e.no t.entries.entries e indexed.named below) ∙ values_end t.entries.entries e.no e

pub come_index : (t new : Transactions) (e : Enqueued) → IsIndexed t → AreBelow e.no (all_waiting (enqueued t)) → is_open e ≡ false → length (enqueued t) < deque_capacity t.open
    → new.entries.entries ≡ insert_entry nat_cmp t.entries.entries e.no e → new.open.items ≡ t.open.items → deque_capacity new.open ≡ deque_capacity t.open → IsIndexed new
come_index t new e indexed below shut room is same capacity =
    let es = enqueued t in
    let now = come t e new.entries.entries indexed below is in
    record {
      rising = subst (λ (xs : List Enqueued). IsRising (all_waiting xs)) (sym now) (below_end es e below indexed.rising);
      named = subst AreNamed (sym (is ∙ entered e.no t.entries.entries e indexed.named below)) (named_end t.entries.entries e.no e indexed.named refl);
      open_ones = same ∙ indexed.open_ones ∙ sym (append_none (open_of es)) ∙ sym (open_end es e ∙ ap (λ v. open_of es ++ cond v (e.no ∷ []) []) shut) ∙ ap open_of (sym now);
      room = (let n = end_length es e in let m = ap length now in omega (arith, n, m, capacity, room));
    }

-- ---- the last one, which waited, is settled

module _ (t now : Transactions) (e : Enqueued) (is : enqueued now ≡ enqueued t ++ e ∷ []) (indexed : IsIndexed now) (shut : e.ready ≡ false) where
  open_as_before : now.open.items ≡ open_of (enqueued t)
  open_as_before =
      indexed.open_ones ∙ ap open_of is ∙ open_end (enqueued t) e ∙ ap (λ v. open_of (enqueued t) ++ cond v (e.no ∷ []) []) (is_shut e shut) ∙ append_none (open_of (enqueued t))

  pub room_after_push : length now.open.items < deque_capacity now.open
  room_after_push =
      let few = open_few (enqueued t) in let n = ap length open_as_before in let m = ap length is in let l = end_length (enqueued t) e in let room = indexed.room in
      omega (arith, few, n, m, l, room)

  module _ (new : Transactions) (w : Enqueued) (below : AreBelow e.no (all_waiting (enqueued t))) (same : w.no ≡ e.no) (set : new.entries.entries ≡ set_value (is_at (nat_cmp e.no)) now.entries.entries w) where
    pub settled : enqueued new ≡ enqueued t ++ w ∷ []
    settled = ap values_of set ∙ last_set e.no now.entries.entries (enqueued t) e w indexed.named is refl below

    pub settled_index : IsIndexed t → new.open.items ≡ now.open.items ++ cond (is_open w) (w.no ∷ []) [] → deque_capacity new.open ≡ deque_capacity now.open → IsIndexed new
    settled_index was open_ones capacity =
        let es = enqueued t in
        record {
          rising = subst (λ (xs : List Enqueued). IsRising (all_waiting xs)) (sym settled) (below_end es w (subst (λ n. AreBelow n (all_waiting es)) (sym same) below) was.rising);
          named = subst AreNamed (sym set) (named_set e.no now.entries.entries w indexed.named same);
          open_ones = open_ones ∙ ap (λ ns. ns ++ cond (is_open w) (w.no ∷ []) []) open_as_before ∙ sym (open_end es w) ∙ ap open_of (sym settled);
          room = (let n = ap length settled in let m = ap length is in let a = end_length es e in let b = end_length es w in let room = indexed.room in omega (arith, n, m, a, b, room, capacity));
        }
