-- The queues of the transactions, and what each knows, as transactions come, are marked and go.
use Rattle.std.proofs.Common.{◌≡◌, ℕ, ◌+◌, ◌<◌, ◌==◌, ◌⊎◌, inl, inr, zero, suc, Bool, true, false, cond, not, ◌&&◌, List, [], ◌∷◌, ◌++◌, length, Option, None, Some, option_map, refl, sym, ◌∙◌, ap, subst, arith, slice_set, add-one}
use Rattle.std.specs.List.{AllByRecursion, remove}
use Rattle.std.proofs.lemmas.Bool.Decides.{nat_tests}
use Rattle.footprint.specs.declared.resource.Resource.{Resource}
use Rattle.modes.specs.declared.mode.Mode.{Mode}
use Rattle.coarsen.specs.Subtrees.{Requests}
use Rattle.lock_tree.specs.Entered.{Enqueued}
use Rattle.lock_tree.specs.declared.transactions.Transactions.{Transactions}
use Rattle.lock_tree.specs.Indexed.{IsIndexed}
use Rattle.lock_tree.specs.Locks.{Waiting, used, plan_of, without, with_mark, AreAbove, IsRising}
use Rattle.lock_tree.specs.Queues.{Queue, mode_on, asks, queue, granted, has_number}
use Rattle.lock_tree.specs.Ready.{ready, all_granted}
use Rattle.lock_tree.specs.Placing.{place_numbered}
use Rattle.lock_tree.specs.Views.{waiting_of, all_waiting, enqueued}
use Rattle.lock_tree.specs.Lines.{Lines, line, others}
use Rattle.request_arena.specs.Lists.{free_nodes}
use Rattle.lock_tree.specs.Numbered.{IsNumbered}
use Rattle.lock_tree.specs.Granted.{AreGranted}
use Rattle.lock_tree.specs.Chained.{IsChained, AreChained}
use Rattle.lock_tree.specs.Sound.{IsTree}
use Rattle.lock_tree.proofs.Chaining.{chained_same, chained_marked}
use Rattle.lock_tree.specs.Known.{granted_in, Knows, AreKnown}
use Rattle.lock_tree.proofs.Places.{at, plan_at, marked_at, no_mark, number_kept, plan_kept, same_numbers, some_one, none_some, later_place, used_end, used_marked}

-- ---- queues

pub queue_end : (r : Resource) (ws : List Waiting) (w : Waiting) → queue r (ws ++ w ∷ []) ≡ queue r ws ++ asks w.no (mode_on r w.plan) []
queue_end r [] w = refl
queue_end r (v ∷ ws) w = elim (mode_on r v.plan) as (λ o. asks v.no o (queue r (ws ++ w ∷ [])) ≡ asks v.no o (queue r ws) ++ asks w.no (mode_on r w.plan) []) [
  | None ↦ queue_end r ws w
  | Some mode ↦ ap (λ q. (v.no, mode) ∷ q) (queue_end r ws w)
]

pub queue_marked : (r : Resource) (k : ℕ) (m : Bool) (ws : List Waiting) → queue r (with_mark k m ws) ≡ queue r ws
queue_marked r k m [] = refl
queue_marked r k m (w ∷ ws) =
    ap (λ n. asks n (mode_on r (cond (w.no == k) (record w { marked = m }) w).plan) (queue r (with_mark k m ws))) (number_kept (w.no == k) w m)
    ∙ ap (λ (p : Requests). asks w.no (mode_on r p) (queue r (with_mark k m ws))) (plan_kept (w.no == k) w m)
    ∙ ap (λ q. asks w.no (mode_on r w.plan) q) (queue_marked r k m ws)

others_asks : (k n : ℕ) (o : Option Mode) (q : Queue) → others k (asks n o q) ≡ cond (n == k) (others k q) (asks n o (others k q))
others_asks k n None q = elim (n == k) as (λ v. others k q ≡ cond v (others k q) (others k q)) [ true ↦ refl | false ↦ refl ]
others_asks k n (Some mode) q = elim (n == k) as (λ v. cond (not v) ((n, mode) ∷ others k q) (others k q) ≡ cond v (others k q) ((n, mode) ∷ others k q)) [ true ↦ refl | false ↦ refl ]

pub queue_without : (r : Resource) (k : ℕ) (ws : List Waiting) → queue r (without k ws) ≡ others k (queue r ws)
queue_without r k [] = refl
queue_without r k (w ∷ ws) =
    elim (w.no == k) as (λ v. queue r (cond v (without k ws) (w ∷ without k ws)) ≡ cond v (others k (queue r ws)) (asks w.no (mode_on r w.plan) (others k (queue r ws)))) [
      | true ↦ queue_without r k ws
      | false ↦ ap (λ q. asks w.no (mode_on r w.plan) q) (queue_without r k ws)
    ] ∙ sym (others_asks k w.no (mode_on r w.plan) (queue r ws))

above_other : (n k : ℕ) → k < n → (n == k) ≡ false
above_other n k h = grind (arith, nat_tests)

-- a number below all is in no queue
others_above : (r : Resource) (k : ℕ) (ws : List Waiting) → AreAbove k ws → others k (queue r ws) ≡ queue r ws
others_above r k [] above = refl
others_above r k (w ∷ ws) above =
    others_asks k w.no (mode_on r w.plan) (queue r ws)
    ∙ ap (λ v. cond v (others k (queue r ws)) (asks w.no (mode_on r w.plan) (others k (queue r ws)))) (above_other w.no k above.0)
    ∙ ap (λ q. asks w.no (mode_on r w.plan) q) (others_above r k ws above.1)

some_plan : (p q : Requests) → Some p ≡ Some q → p ≡ q
some_plan p q e = cc

-- a transaction is in no queue that its plan doesn't ask for
pub queue_elsewhere : (r : Resource) (k : ℕ) (ws : List Waiting) (plan : Requests) → IsRising ws → plan_of ws k ≡ Some plan → mode_on r plan ≡ None → others k (queue r ws) ≡ queue r ws
queue_elsewhere r k [] plan rising is none = refl
queue_elsewhere r k (w ∷ ws) plan rising is none =
    elim (w.no == k) as (λ v. (w.no == k) ≡ v → cond v (Some w.plan) (plan_of ws k) ≡ Some plan → others k (queue r (w ∷ ws)) ≡ queue r (w ∷ ws)) [
      | true ↦ λ here is.
          let o : mode_on r w.plan ≡ None = ap (mode_on r) (some_plan w.plan plan is) ∙ none in
          let above : AreAbove k ws = subst (λ n. AreAbove n ws) (same_numbers w.no k here) rising.0 in
          ap (λ m. others k (asks w.no m (queue r ws))) o ∙ others_above r k ws above ∙ sym (ap (λ m. asks w.no m (queue r ws)) o)
      | false ↦ λ other is.
          others_asks k w.no (mode_on r w.plan) (queue r ws)
          ∙ ap (λ v. cond v (others k (queue r ws)) (asks w.no (mode_on r w.plan) (others k (queue r ws)))) other
          ∙ ap (λ q. asks w.no (mode_on r w.plan) q) (queue_elsewhere r k ws plan rising.1 is none)
    ] refl is

-- ---- the others

pub others_without : (k : ℕ) (ws : List Waiting) → AllByRecursion (λ w. (w.no == k) ≡ false) (without k ws)
others_without k [] = tt
others_without k (w ∷ ws) = elim (w.no == k) as (λ v. (w.no == k) ≡ v → AllByRecursion (λ w. (w.no == k) ≡ false) (cond v (without k ws) (w ∷ without k ws))) [
  | true ↦ λ here. others_without k ws
  | false ↦ λ other. (other, others_without k ws)
] refl

-- ---- what they know

pub known_removed : (queues : Resource → Queue) (es : List Enqueued) (i : ℕ) → AreKnown queues [] es → AreKnown queues [] (remove es i)
known_removed queues [] zero known = tt
known_removed queues [] (suc i) known = tt
known_removed queues (e ∷ es) zero known = known.1
known_removed queues (e ∷ es) (suc i) known = (known.0, known_removed queues es i known.1)

pub known_marked : (queues : Resource → Queue) (es : List Enqueued) (i : ℕ) (d : Enqueued) (m : Bool) → AreKnown queues [] es → AreKnown queues [] (slice_set es i (record (at es i d) { marked = m }))
known_marked queues [] i d m known = tt
known_marked queues (e ∷ es) zero d m known = (record { sound = known.0.sound; complete = known.0.complete }, known.1)
known_marked queues (e ∷ es) (suc i) d m known = (known.0, known_marked queues es i d m known.1)

known_at : (queues : Resource → Queue) (es : List Enqueued) (i : ℕ) (d : Enqueued) → i < length es → AreKnown queues [] es → Knows queues [] (at es i d)
known_at queues [] i d l known = absurd (omega (arith, l))
known_at queues (e ∷ es) zero d l known = known.0
known_at queues (e ∷ es) (suc i) d l known = known_at queues es i d (omega (arith, l)) known.1

same_plan : (old new : Resource → Queue) → ((r : Resource) → old r ≡ new r) → (n : ℕ) (plan : Requests) → granted_in old n plan ≡ granted_in new n plan
same_plan old new same n [] = refl
same_plan old new same n (e ∷ plan) =
    ap (λ q. has_number n (granted q) && granted_in old n plan) (same e.0) ∙ ap (λ v. has_number n (granted (new e.0)) && v) (same_plan old new same n plan)

exactly : (a b : Bool) → (a ≡ true → b ≡ true) → (b ≡ true → a ≡ true) → a ≡ b
exactly true b f g = sym (f refl)
exactly false true f g = g refl
exactly false false f g = refl

no_one : (n : ℕ) → has_number n [] ≡ true → ⊥
no_one n h = absurd (cc)

was_ready : (n : ℕ) (b : Bool) → (b ≡ true) ⊎ (has_number n [] ≡ true) → b ≡ true
was_ready n b (inl h) = h
was_ready n b (inr h) = absurd (no_one n h)

-- the flag of the transaction at a place
pub flag_at : (queues : Resource → Queue) (es : List Enqueued) (k i : ℕ) (d : Enqueued) → ((r : Resource) → queues r ≡ queue r (all_waiting es)) → AreKnown queues [] es → i < length es
    → (at es i d).no ≡ k → plan_of (all_waiting es) k ≡ Some (at es i d).plan.value → (at es i d).ready ≡ ready (all_waiting es) k
flag_at queues es k i d lines known l number plan =
    let e = at es i d in
    let knows = known_at queues es i d l known in
    exactly e.ready (granted_in queues e.no e.plan.value) knows.sound (λ g. was_ready e.no e.ready (knows.complete g))
    ∙ same_plan queues (λ r. queue r (all_waiting es)) lines e.no e.plan.value
    ∙ ap (λ n. granted_in (λ r. queue r (all_waiting es)) n e.plan.value) number
    ∙ sym (ap (all_granted (all_waiting es) k) plan)

pub number_at : (k : ℕ) (es : List Enqueued) (i : ℕ) (d : Enqueued) → place_numbered k (all_waiting es) ≡ Some i → (at es i d).no ≡ k
number_at k [] i d h = absurd (none_some i h)
number_at k (e ∷ es) i d h = elim (e.no == k) as (λ v. (e.no == k) ≡ v → cond v (Some 0) (option_map (λ n. n + 1) (place_numbered k (all_waiting es))) ≡ Some i → (at (e ∷ es) i d).no ≡ k) [
  | true ↦ λ here h. ap (λ n. (at (e ∷ es) n d).no) (sym (some_one 0 i h)) ∙ same_numbers e.no k here
  | false ↦ λ other h. let j = later_place (place_numbered k (all_waiting es)) i h in ap (λ n. (at (e ∷ es) n d).no) j.2 ∙ number_at k es j.0 d j.1
] refl h

-- nobody has the number
pub not_ready : (k : ℕ) (ws : List Waiting) → plan_of ws k ≡ None → ready ws k ≡ false
not_ready k ws none = ap (all_granted ws k) none

-- ---- the code's tree

pub ready_flag : (lines : Lines) (seen es : List Enqueued) (ws : List Waiting) (k i : ℕ) (d : Enqueued) → seen ≡ es → all_waiting es ≡ ws → ((r : Resource) → line lines r ≡ queue r (all_waiting es)) → AreKnown (line lines) [] es
    → Some i ≡ place_numbered k (all_waiting seen) → i < length seen → d ≡ at es i d → d.ready ≡ ready ws k
ready_flag lines seen es ws k i d same view is known found l item =
    let place : place_numbered k (all_waiting es) ≡ Some i = sym (found ∙ ap (λ (xs : List Enqueued). place_numbered k (all_waiting xs)) same) in
    let within : i < length es = (let e = ap length same in omega (arith, l, e)) in
    ap (λ (e : Enqueued). e.ready) item ∙ flag_at (line lines) es k i d is known within (number_at k es i d place) (plan_at k es i d place) ∙ ap (λ xs. ready xs k) view

same_itself : (k : ℕ) → (k == k) ≡ true
same_itself k = grind (arith, nat_tests)

less_other : (i k : ℕ) → i < k → (i == k) ≡ false
less_other i k h = grind (arith, nat_tests)

pub member_above : (n : ℕ) (es : List Enqueued) (i : ℕ) (d : Enqueued) → AreAbove n (all_waiting es) → i < length es → n < (at es i d).no
member_above n [] i d above l = absurd (omega (arith, l))
member_above n (e ∷ es) zero d above l = above.0
member_above n (e ∷ es) (suc i) d above l = member_above n es i d above.1 (omega (arith, l))

pub place_at : (es : List Enqueued) (i : ℕ) (d : Enqueued) → IsRising (all_waiting es) → i < length es → place_numbered (at es i d).no (all_waiting es) ≡ Some i
place_at [] i d rising l = absurd (omega (arith, l))
place_at (e ∷ es) zero d rising l = ap (λ v. cond v (Some 0) (option_map (λ n. n + 1) (place_numbered e.no (all_waiting es)))) (same_itself e.no)
place_at (e ∷ es) (suc i) d rising l =
    let m : i < length es = omega (arith, l) in
    let less : e.no < (at es i d).no = member_above e.no es i d rising.0 m in
    ap (λ v. cond v (Some 0) (option_map (λ n. n + 1) (place_numbered (at es i d).no (all_waiting es)))) (less_other e.no (at es i d).no less)
    ∙ ap (option_map (λ n. n + 1)) (place_at es i d rising.1 m) ∙ ap (λ n. Some n) (add-one i)

pub item_flag : (lines : Lines) (seen es : List Enqueued) (ws : List Waiting) (i : ℕ) (d : Enqueued) → seen ≡ es → all_waiting es ≡ ws → IsRising (all_waiting es) → ((r : Resource) → line lines r ≡ queue r (all_waiting es))
    → AreKnown (line lines) [] es → i < length seen → d ≡ at seen i d → d.ready ≡ ready ws d.no
item_flag lines seen es ws i d same view rising is known l item =
    let within : i < length es = (let e = ap length same in omega (arith, l, e)) in
    let read : d ≡ at es i d = item ∙ ap (λ (xs : List Enqueued). at xs i d) same in
    let place : place_numbered d.no (all_waiting es) ≡ Some i = ap (λ (e : Enqueued). place_numbered e.no (all_waiting es)) read ∙ place_at es i d rising within in
    ready_flag lines es es ws d.no i d refl view is known (sym place) within read

known_same : (old new : Resource → Queue) → ((r : Resource) → old r ≡ new r) → (es : List Enqueued) → AreKnown old [] es → AreKnown new [] es
known_same old new same [] known = tt
known_same old new same (e ∷ es) known =
    let s = same_plan old new same e.no e.plan.value in
    (record { sound = λ h. sym s ∙ known.0.sound h; complete = λ g. known.0.complete (s ∙ g) }, known_same old new same es known.1)

pub known_as_before : (old new : Lines) (es seen : List Enqueued) → ((r : Resource) → line new r ≡ line old r) → seen ≡ es → AreKnown (line old) [] es → AreKnown (line new) [] seen
known_as_before old new es seen same items known = subst (AreKnown (line new) []) (sym items) (known_same (line old) (line new) (λ r. sym (same r)) es known)

-- more room for queues and transactions
pub same_tree : (arena : ℕ) (ts seen : Transactions) (old new : Lines) → IsNumbered new None → AreGranted new → free_nodes new.nodes.held ≡ free_nodes old.nodes.held → ((r : Resource) → line new r ≡ line old r)
    → ((e : Enqueued) → IsChained old e → IsChained new e) → (enqueued seen) ≡ (enqueued ts) → IsIndexed seen → IsTree arena ts old → IsTree arena seen new
same_tree arena ts seen old new numbered granted free same chained items indexed tree = record {
  room = (let e : used (all_waiting (enqueued seen)) ≡ used (all_waiting (enqueued ts)) = ap (λ (xs : List Enqueued). used (all_waiting xs)) items in let r = tree.room in omega (arith, e, r, free));
  indexed = indexed;
  numbered = numbered;
  granted = granted;
  lines = λ r. same r ∙ tree.lines r ∙ ap (λ (xs : List Enqueued). queue r (all_waiting xs)) (sym items);
  chained = subst (AreChained new) (sym items) (chained_same old new chained (enqueued ts) tree.chained);
  known = known_as_before old new (enqueued ts) (enqueued seen) same items tree.known;
}

-- one more transaction
pub joined_tree : (arena : ℕ) (ts seen new : Transactions) (e : Enqueued) (old lender lines : Lines) → IsTree arena ts old → (enqueued seen) ≡ (enqueued ts) → ((r : Resource) → line lender r ≡ line old r)
    → free_nodes lender.nodes.held ≡ free_nodes old.nodes.held → IsIndexed new → ((r : Resource) → line lines r ≡ line lender r ++ asks e.no (mode_on r e.plan.value) [])
    → all_waiting (enqueued new) ≡ all_waiting (enqueued seen) ++ waiting_of e ∷ [] → AreKnown (line lines) [] (enqueued new)
    → IsNumbered lines None → AreGranted lines → free_nodes lines.nodes.held + length e.plan.value ≡ free_nodes lender.nodes.held → AreChained lines (enqueued new) → IsTree arena new lines
joined_tree arena ts seen new e old lender lines tree items same free indexed joined waiting known numbered granted taken chained =
    let ws = all_waiting (enqueued ts) in
    let w = waiting_of e in
    let is : all_waiting (enqueued new) ≡ ws ++ w ∷ [] = waiting ∙ ap (λ (xs : List Enqueued). all_waiting xs ++ w ∷ []) items in
    let more : used (all_waiting (enqueued new)) ≡ used ws + length w.plan = ap used is ∙ used_end ws w in
    record {
      room = (let r = tree.room in omega (arith, more, free, taken, r));
      indexed = indexed;
      numbered = numbered;
      granted = granted;
      lines = λ r. joined r ∙ ap (λ q. q ++ asks e.no (mode_on r e.plan.value) []) (same r ∙ tree.lines r) ∙ sym (queue_end r ws w) ∙ ap (queue r) (sym is);
      chained = chained;
      known = known;
    }

-- one transaction less
pub left_tree : (arena size k : ℕ) (ts new : Transactions) (old lines : Lines) → IsTree arena ts old → used (all_waiting (enqueued ts)) ≡ size + used (without k (all_waiting (enqueued ts)))
    → all_waiting (enqueued new) ≡ without k (all_waiting (enqueued ts)) → IsIndexed new → ((r : Resource) → line lines r ≡ others k (line old r)) → AreKnown (line lines) [] (enqueued new)
    → IsNumbered lines None → AreGranted lines → free_nodes lines.nodes.held ≡ free_nodes old.nodes.held + size → AreChained lines (enqueued new) → IsTree arena new lines
left_tree arena size k ts new old lines tree freed is indexed left known numbered granted given chained =
    let ws = all_waiting (enqueued ts) in
    record {
      room = (let e : used (all_waiting (enqueued new)) ≡ used (without k ws) = ap used is in let r = tree.room in omega (arith, e, freed, given, r));
      indexed = indexed;
      numbered = numbered;
      granted = granted;
      lines = λ r. left r ∙ ap (others k) (tree.lines r) ∙ sym (queue_without r k ws) ∙ ap (queue r) (sym is);
      chained = chained;
      known = known;
    }

-- a mark
pub marked_tree : (arena k : ℕ) (m : Bool) (ts new : Transactions) (lines : Lines) → IsTree arena ts lines → all_waiting (enqueued new) ≡ with_mark k m (all_waiting (enqueued ts)) → IsIndexed new
    → AreKnown (line lines) [] (enqueued new) → AreChained lines (enqueued new) → IsTree arena new lines
marked_tree arena k m ts new lines tree is indexed known chained =
    let ws = all_waiting (enqueued ts) in
    record {
      room = (let e : used (all_waiting (enqueued new)) ≡ used ws = ap used is ∙ used_marked k m ws in let r = tree.room in omega (arith, e, r));
      indexed = indexed;
      numbered = tree.numbered;
      granted = tree.granted;
      lines = λ r. tree.lines r ∙ sym (queue_marked r k m ws) ∙ ap (queue r) (sym is);
      chained = chained;
      known = known;
    }

-- the one that has a number is marked, if there is one
pub record IsMarked (k : ℕ) (m : Bool) (es new : List Enqueued) : Type 0 where
  pub there : (i : ℕ) (d : Enqueued) → place_numbered k (all_waiting es) ≡ Some i → new ≡ slice_set es i (record (at es i d) { marked = m })
  pub none : place_numbered k (all_waiting es) ≡ None → new ≡ es

one_of : (k i : ℕ) (es : List Enqueued) → place_numbered k (all_waiting es) ≡ Some i → Enqueued
one_of k i [] h = absurd (none_some i h)
one_of k i (e ∷ es) h = e

-- what holds of all with the mark set holds of them now
marked_so : (k : ℕ) (m : Bool) (es new : List Enqueued) (P : List Enqueued → Type 0) → IsMarked k m es new → P es → ((i : ℕ) (d : Enqueued) → P (slice_set es i (record (at es i d) { marked = m }))) → P new
marked_so k m es new P is old there = elim (place_numbered k (all_waiting es)) as (λ o. place_numbered k (all_waiting es) ≡ o → P new) [
  | None ↦ λ h. subst P (sym (is.none h)) old
  | Some i ↦ λ h. subst P (sym (is.there i (one_of k i es h) h)) (there i (one_of k i es h))
] refl

module _ (k : ℕ) (m : Bool) (es new : List Enqueued) (is : IsMarked k m es new) where
  pub marked_seen : IsRising (all_waiting es) → all_waiting new ≡ with_mark k m (all_waiting es)
  marked_seen rising = elim (place_numbered k (all_waiting es)) as (λ o. place_numbered k (all_waiting es) ≡ o → all_waiting new ≡ with_mark k m (all_waiting es)) [
    | None ↦ λ h. ap all_waiting (is.none h) ∙ sym (no_mark k m (all_waiting es) h)
    | Some i ↦ λ h. ap all_waiting (is.there i (one_of k i es h) h) ∙ marked_at k m es i (one_of k i es h) rising h
  ] refl

  pub marked_known : (queues : Resource → Queue) → AreKnown queues [] es → AreKnown queues [] new
  marked_known queues known = marked_so k m es new (AreKnown queues []) is known (λ i d. known_marked queues es i d m known)

  pub marked_chained : (lines : Lines) → AreChained lines es → AreChained lines new
  marked_chained lines chained = marked_so k m es new (AreChained lines) is chained (λ i d. chained_marked lines es i d m chained)
