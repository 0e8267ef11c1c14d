-- The chains of transactions, as queues change.
use Rattle.std.proofs.Common.{◌≡◌, ℕ, ◌<◌, zero, suc, eqb, Bool, true, false, cond, ◌||◌, List, [], ◌∷◌, ◌++◌, length, map, get_or, Option, None, Some, IfSome, refl, sym, ◌∙◌, ap, subst, arith}
use Rattle.std.specs.Prelude.{slice_get, slice_set}
use Rattle.std.specs.HashMap.{get}
use Rattle.std.specs.Option.{option_or}
use Rattle.std.specs.List.{list_any, remove, AllByRecursion}
use Rattle.lock_tree.specs.Enqueues.{AreBelow}
use Rattle.lock_tree.specs.Views.{all_waiting}
use Rattle.std.proofs.lemmas.Bool.Decides.{nat_tests}
use Rattle.footprint.specs.declared.resource.Resource.{Resource}
use Rattle.modes.specs.declared.mode.Mode.{Mode}
use Rattle.coarsen.specs.Subtrees.{Requests}
use Rattle.request_arena.specs.declared.node.Held.{Held}
use Rattle.request_arena.specs.Following.{without, follow}
use Rattle.request_arena.specs.Chains.{chain, chain_from, held_at, holds, step}
use Rattle.request_arena.specs.Lists.{Lists, IsLive, BeginsChain, EndsChain}
use Rattle.lock_tree.specs.Entered.{Enqueued}
use Rattle.lock_tree.specs.Keys.{resource_eq}
use Rattle.lock_tree.specs.Lines.{Lines, request_at, nodes_of, number_of, asked}
use Rattle.lock_tree.specs.Chained.{IsPlaced, ArePlaced, Chains, IsChained, AreChained, IsTail, head_or}
use Rattle.lock_tree.specs.Steps.{OthersChained, IsShorter}
use Rattle.request_arena.specs.Removals.{IsRemoved}
use Rattle.lock_tree.proofs.Positions.{get_set_other, stands_still}

-- ---- placed requests stay placed

abbrev pub PlacedStill : ℕ → Lines → Lines → Type 0
PlacedStill owner was now = (r : Resource) (number a : ℕ) → IsPlaced was owner r number a → IsPlaced now owner r number a

pub all_still : (owner : ℕ) (was now : Lines) → PlacedStill owner was now → (plan : Requests) (numbers nodes : List ℕ) → ArePlaced was owner plan numbers nodes → ArePlaced now owner plan numbers nodes
all_still owner was now still [] [] [] placed = tt
all_still owner was now still (e ∷ plan) (number ∷ numbers) (a ∷ nodes) placed = (still e.0 number a placed.0, all_still owner was now still plan numbers nodes placed.1)
all_still owner was now still [] [] (a ∷ nodes) placed = absurd placed
all_still owner was now still [] (number ∷ numbers) nodes placed = absurd placed
all_still owner was now still (e ∷ plan) [] nodes placed = absurd placed
all_still owner was now still (e ∷ plan) (number ∷ numbers) [] placed = absurd placed

-- one more at the end
pub placed_end : (l : Lines) (owner : ℕ) (plan : Requests) (numbers nodes : List ℕ) (e : Resource × Mode) (number a : ℕ) → ArePlaced l owner plan numbers nodes → IsPlaced l owner e.0 number a
    → ArePlaced l owner (plan ++ e ∷ []) (numbers ++ number ∷ []) (nodes ++ a ∷ [])
placed_end l owner [] [] [] e number a placed one = (one, tt)
placed_end l owner (f ∷ plan) (n ∷ numbers) (b ∷ nodes) e number a placed one = (placed.0, placed_end l owner plan numbers nodes e number a placed.1 one)
placed_end l owner [] [] (b ∷ nodes) e number a placed one = absurd placed
placed_end l owner [] (n ∷ numbers) nodes e number a placed one = absurd placed
placed_end l owner (f ∷ plan) [] nodes e number a placed one = absurd placed
placed_end l owner (f ∷ plan) (n ∷ numbers) [] e number a placed one = absurd placed

-- each node of the chain is the transaction's
pub none_of_another : (l : Lines) (owner : ℕ) (plan : Requests) (numbers nodes : List ℕ) (t : ℕ) → ArePlaced l owner plan numbers nodes → ((request_at l.nodes.held t).0 ≡ owner → ⊥) → list_any (eqb t) nodes ≡ false
none_of_another l owner [] [] [] t placed other = refl
none_of_another l owner (e ∷ plan) (number ∷ numbers) (a ∷ nodes) t placed other =
    ap (λ v. v || list_any (eqb t) nodes) (apart t a (λ same. other (ap (λ (b : ℕ). (request_at l.nodes.held b).0) same ∙ placed.0.owned))) ∙ none_of_another l owner plan numbers nodes t placed.1 other
  where
    apart : (a b : ℕ) → (a ≡ b → ⊥) → eqb a b ≡ false
    apart a b h = grind (arith, nat_tests)
none_of_another l owner [] [] (b ∷ nodes) t placed other = absurd placed
none_of_another l owner [] (n ∷ numbers) nodes t placed other = absurd placed
none_of_another l owner (f ∷ plan) [] nodes t placed other = absurd placed
none_of_another l owner (f ∷ plan) (n ∷ numbers) [] t placed other = absurd placed

pub holds_live : (lists : Lists) (a : ℕ) → IsLive lists a → held_at lists.held a ≡ true
holds_live lists a live = ap holds live.1

-- nothing but what is noted of resources has changed
pub chained_noted : (was now : Lines) (owner : ℕ) → now.nodes ≡ was.nodes → PlacedStill owner was now → (plan : Requests) (numbers : List ℕ) (head : Option ℕ) → Chains was owner plan numbers head → Chains now owner plan numbers head
chained_noted was now owner nodes still plan numbers head ok = record {
  begins = subst (λ (n : Lists). IfSome head (λ a. IsLive n a × BeginsChain n a)) (sym nodes) ok.begins;
  placed = subst (λ (n : Lists). ArePlaced now owner plan numbers (chain_from n.held head)) (sym nodes) (all_still owner was now still plan numbers (chain_from was.nodes.held head) ok.placed);
}

pub noted_still : (was now : Lines) (owner : ℕ) → now.nodes ≡ was.nodes → ((r : Resource) (number i a : ℕ) → number_of was r ≡ Some number → slice_get (nodes_of was.nodes number) i ≡ Some a → number_of now r ≡ Some number) → PlacedStill owner was now
noted_still was now owner nodes kept r number a placed = record {
  named = kept r number placed.place a placed.named placed.there;
  place = placed.place;
  there = ap (λ (n : Lists). slice_get (nodes_of n number) placed.place) nodes ∙ placed.there;
  owned = ap (λ (n : Lists). (request_at n.held a).0) nodes ∙ placed.owned;
}

-- ---- a chain from a live node

module _ (held : List (Option Held)) (a : ℕ) (live : held_at held a ≡ true) where
  pub chain_live : (rest : List ℕ) × (chain held a ≡ a ∷ rest)
  chain_live = go held live
    where
      go : (held : List (Option Held)) → held_at held a ≡ true → (rest : List ℕ) × (chain held a ≡ a ∷ rest)
      go [] live = absurd (cc)
      go (h ∷ hs) live =
          (follow (step (h ∷ hs)) (held_at (h ∷ hs)) (length hs) (step (h ∷ hs) a), ap (λ v. cond v (a ∷ follow (step (h ∷ hs)) (held_at (h ∷ hs)) (length hs) (step (h ∷ hs) a)) []) live)

pub all_live : (onward : ℕ → ℕ) (live : ℕ → Bool) (most a : ℕ) → AllByRecursion (λ x. live x ≡ true) (follow onward live most a)
all_live onward live zero a = tt
all_live onward live (suc most) a = elim (live a) as (λ v. live a ≡ v → AllByRecursion (λ x. live x ≡ true) (cond v (a ∷ follow onward live most (onward a)) [])) [
  | true ↦ λ e. (e, all_live onward live most (onward a))
  | false ↦ λ e. tt
] refl

first_owned : (l : Lines) (owner : ℕ) (plan : Requests) (numbers : List ℕ) (a : ℕ) (rest : List ℕ) → ArePlaced l owner plan numbers (a ∷ rest) → (request_at l.nodes.held a).0 ≡ owner
first_owned l owner [] [] a rest placed = absurd placed
first_owned l owner [] (n ∷ numbers) a rest placed = absurd placed
first_owned l owner (e ∷ plan) [] a rest placed = absurd placed
first_owned l owner (e ∷ plan) (n ∷ numbers) a rest placed = placed.0.owned

pub head_owned : (l : Lines) (owner : ℕ) (plan : Requests) (numbers : List ℕ) (h : ℕ) → Chains l owner plan numbers (Some h) → (request_at l.nodes.held h).0 ≡ owner
head_owned l owner plan numbers h ok =
    let c = chain_live l.nodes.held h (holds_live l.nodes h ok.begins.0) in first_owned l owner plan numbers h c.0 (subst (ArePlaced l owner plan numbers) c.1 ok.placed)

-- ---- a node leaves

map_at : (f : List ℕ → List ℕ) (qs : List (List ℕ)) (n : ℕ) → f [] ≡ [] → get_or (map f qs) n [] ≡ f (get_or qs n [])
map_at f [] n e = sym e
map_at f (q ∷ qs) zero e = refl
map_at f (q ∷ qs) (suc n) e = map_at f qs n e

module _ (was now : Lines) (owner id : ℕ) (successor : Option ℕ) (numbers_same : now.numbers ≡ was.numbers) (removed : IsRemoved was.nodes id successor now.nodes) (owned : (request_at was.nodes.held id).0 ≡ owner) where
  asks_as_before : (a : ℕ) → (a ≡ id → ⊥) → slice_get now.nodes.held a ≡ slice_get was.nodes.held a
  asks_as_before a other = ap (λ (hs : List (Option Held)). slice_get hs a) removed.gone ∙ get_set_other was.nodes.held id a None other

  placed_left : (k : ℕ) (r : Resource) (number a : ℕ) → (a ≡ id → ⊥) → IsPlaced was k r number a → IsPlaced now k r number a
  placed_left k r number a other placed =
      let nodes : nodes_of now.nodes number ≡ without id (nodes_of was.nodes number) = ap (λ (qs : List (List ℕ)). get_or qs number []) removed.queues ∙ map_at (without id) was.nodes.queues number refl in
      let at = stands_still id a (nodes_of was.nodes number) placed.place placed.there other in
      record {
        named = ap (λ m. get resource_eq m r) numbers_same ∙ placed.named;
        place = at.0;
        there = ap (λ (xs : List ℕ). slice_get xs at.0) nodes ∙ at.1;
        owned = ap (λ o. (asked o).0) (asks_as_before a other) ∙ placed.owned;
      }

  all_left : (k : ℕ) (plan : Requests) (numbers nodes : List ℕ) → AllByRecursion (λ a. a ≡ id → ⊥) nodes → ArePlaced was k plan numbers nodes → ArePlaced now k plan numbers nodes
  all_left k [] [] [] others placed = tt
  all_left k (e ∷ plan) (number ∷ numbers) (a ∷ nodes) others placed = (placed_left k e.0 number a others.0 placed.0, all_left k plan numbers nodes others.1 placed.1)
  all_left k [] [] (a ∷ nodes) others placed = absurd placed
  all_left k [] (number ∷ numbers) nodes others placed = absurd placed
  all_left k (e ∷ plan) [] nodes others placed = absurd placed
  all_left k (e ∷ plan) (number ∷ numbers) [] others placed = absurd placed

  pub left_others : OthersChained owner was now
  left_others e other ok = (ok.0, with_head e.head ok.1)
    where
      still : PlacedStill e.no was now
      still r number a placed = placed_left e.no r number a (λ same. other (sym placed.owned ∙ ap (λ (b : ℕ). (request_at was.nodes.held b).0) same ∙ owned)) placed

      with_head : (head : Option ℕ) → Chains was e.no e.plan.value ok.0 head → Chains now e.no e.plan.value ok.0 head
      with_head None one = record { begins = tt; placed = all_still e.no was now still e.plan.value ok.0 [] one.placed }
      with_head (Some h) one =
          let apart : h ≡ id → ⊥ = λ same. other (sym (head_owned was e.no e.plan.value ok.0 h one) ∙ ap (λ (b : ℕ). (request_at was.nodes.held b).0) same ∙ owned) in
          record {
            begins = ((one.begins.0.0, asks_as_before h apart ∙ one.begins.0.1), removed.firsts h one.begins.1);
            placed = subst (ArePlaced now e.no e.plan.value ok.0) (sym (removed.chains h apart (holds_live was.nodes h one.begins.0)))
                (all_still e.no was now still e.plan.value ok.0 (chain was.nodes.held h) one.placed);
          }

  gone_now : held_at now.nodes.held id ≡ true → ⊥
  gone_now live = go (slice_get was.nodes.held id) refl
    where
      absent : slice_get now.nodes.held id ≡ Some None → ⊥
      absent e = let no_one : held_at now.nodes.held id ≡ false = ap holds e in absurd (cc)

      not_there : (hs : List (Option Held)) (i : ℕ) → slice_get hs i ≡ None → slice_get (slice_set hs i None) i ≡ None
      not_there [] i e = e
      not_there (h ∷ hs) zero e = absurd (cc)
      not_there (h ∷ hs) (suc i) e = not_there hs i e

      there : (hs : List (Option Held)) (i : ℕ) (o : Option Held) → slice_get hs i ≡ Some o → slice_get (slice_set hs i None) i ≡ Some None
      there [] i o e = absurd (cc)
      there (h ∷ hs) zero o e = refl
      there (h ∷ hs) (suc i) o e = there hs i o e

      go : (o : Option (Option Held)) → slice_get was.nodes.held id ≡ o → ⊥
      go None e = let n : held_at now.nodes.held id ≡ false = ap holds (ap (λ (hs : List (Option Held)). slice_get hs id) removed.gone ∙ not_there was.nodes.held id e) in absurd (cc)
      go (Some o) e = absent (ap (λ (hs : List (Option Held)). slice_get hs id) removed.gone ∙ there was.nodes.held id o e)

  pub left_own : IsShorter owner id successor was now
  left_own e plan number numbers ok =
      let rest : ArePlaced was owner plan numbers (chain_from now.nodes.held successor) = (subst (ArePlaced was owner (e ∷ plan) (number ∷ numbers)) removed.rest ok.placed).1 in
      record { begins = removed.begins; placed = all_left owner plan numbers (chain_from now.nodes.held successor) (apart successor) rest }
    where
      each : (nodes : List ℕ) → AllByRecursion (λ x. held_at now.nodes.held x ≡ true) nodes → AllByRecursion (λ a. a ≡ id → ⊥) nodes
      each [] live = tt
      each (x ∷ nodes) live = (λ same. gone_now (sym (ap (held_at now.nodes.held) same) ∙ live.0), each nodes live.1)

      apart : (successor : Option ℕ) → AllByRecursion (λ a. a ≡ id → ⊥) (chain_from now.nodes.held successor)
      apart None = tt
      apart (Some b) = each (chain now.nodes.held b) (all_live (step now.nodes.held) (held_at now.nodes.held) (length now.nodes.held) b)

-- ---- the requests of a chain, one by one

pub placed_length : (l : Lines) (owner : ℕ) (plan : Requests) (numbers nodes : List ℕ) → ArePlaced l owner plan numbers nodes → length plan ≡ length nodes
placed_length l owner [] [] [] placed = refl
placed_length l owner (e ∷ plan) (number ∷ numbers) (a ∷ nodes) placed = ap suc (placed_length l owner plan numbers nodes placed.1)
placed_length l owner [] [] (a ∷ nodes) placed = absurd placed
placed_length l owner [] (number ∷ numbers) nodes placed = absurd placed
placed_length l owner (e ∷ plan) [] nodes placed = absurd placed
placed_length l owner (e ∷ plan) (number ∷ numbers) [] placed = absurd placed

-- a request that is placed, and the requests after it
pub record First (l : Lines) (owner : ℕ) (plan : Requests) (numbers : List ℕ) (a : ℕ) (rest : List ℕ) : Type 0 where
  pub request : Resource × Mode
  pub later : Requests
  pub number : ℕ
  pub more : List ℕ
  pub plan_is : plan ≡ request ∷ later
  pub numbers_are : numbers ≡ number ∷ more
  pub placed : IsPlaced l owner request.0 number a
  pub others : ArePlaced l owner later more rest

pub placed_first : (l : Lines) (owner : ℕ) (plan : Requests) (numbers : List ℕ) (a : ℕ) (rest : List ℕ) → ArePlaced l owner plan numbers (a ∷ rest) → First l owner plan numbers a rest
placed_first l owner [] [] a rest placed = absurd placed
placed_first l owner [] (n ∷ numbers) a rest placed = absurd placed
placed_first l owner (e ∷ plan) [] a rest placed = absurd placed
placed_first l owner (e ∷ plan) (n ∷ numbers) a rest placed = record {
  request = e;
  later = plan;
  number = n;
  more = numbers;
  plan_is = refl;
  numbers_are = refl;
  placed = placed.0;
  others = placed.1;
}

pub chain_first : (l : Lines) (owner : ℕ) (plan : Requests) (numbers : List ℕ) (a : ℕ) → Chains l owner plan numbers (Some a) → (rest : List ℕ) × First l owner plan numbers a rest
chain_first l owner plan numbers a ok =
    let c = chain_live l.nodes.held a (holds_live l.nodes a ok.begins.0) in (c.0, placed_first l owner plan numbers a c.0 (subst (ArePlaced l owner plan numbers) c.1 ok.placed))

-- nothing is placed where there is no node
pub none_placed : (l : Lines) (owner : ℕ) (plan : Requests) (numbers : List ℕ) → ArePlaced l owner plan numbers [] → plan ≡ []
none_placed l owner [] numbers placed = refl
none_placed l owner (e ∷ plan) [] placed = absurd placed
none_placed l owner (e ∷ plan) (n ∷ numbers) placed = absurd placed

-- ---- all transactions

pub chained_at : (l : Lines) (es : List Enqueued) (i : ℕ) (d : Enqueued) → i < length es → AreChained l es → IsChained l (get_or es i d)
chained_at l [] i d near ok = absurd (omega arith)
chained_at l (e ∷ es) zero d near ok = ok.0
chained_at l (e ∷ es) (suc i) d near ok = chained_at l es i d (omega arith) ok.1

pub chained_ready : (l : Lines) (es : List Enqueued) (i : ℕ) (d : Enqueued) (b : Bool) → AreChained l es → AreChained l (slice_set es i (record (get_or es i d) { ready = b }))
chained_ready l [] i d b ok = tt
chained_ready l (e ∷ es) zero d b ok = ((ok.0.0, record { begins = ok.0.1.begins; placed = ok.0.1.placed }), ok.1)
chained_ready l (e ∷ es) (suc i) d b ok = (ok.0, chained_ready l es i d b ok.1)

pub chained_marked : (l : Lines) (es : List Enqueued) (i : ℕ) (d : Enqueued) (b : Bool) → AreChained l es → AreChained l (slice_set es i (record (get_or es i d) { marked = b }))
chained_marked l [] i d b ok = tt
chained_marked l (e ∷ es) zero d b ok = ((ok.0.0, record { begins = ok.0.1.begins; placed = ok.0.1.placed }), ok.1)
chained_marked l (e ∷ es) (suc i) d b ok = (ok.0, chained_marked l es i d b ok.1)

pub chained_removed : (l : Lines) (es : List Enqueued) (i : ℕ) → AreChained l es → AreChained l (remove es i)
chained_removed l [] zero ok = tt
chained_removed l [] (suc i) ok = tt
chained_removed l (e ∷ es) zero ok = ok.1
chained_removed l (e ∷ es) (suc i) ok = (ok.0, chained_removed l es i ok.1)

pub chained_and : (l : Lines) (es : List Enqueued) (e : Enqueued) → AreChained l es → IsChained l e → AreChained l (es ++ e ∷ [])
chained_and l [] e ok one = (one, tt)
chained_and l (f ∷ es) e ok one = (ok.0, chained_and l es e ok.1 one)

pub chained_same : (was now : Lines) → ((e : Enqueued) → IsChained was e → IsChained now e) → (es : List Enqueued) → AreChained was es → AreChained now es
chained_same was now still [] ok = tt
chained_same was now still (e ∷ es) ok = (still e ok.0, chained_same was now still es ok.1)

no_same : (a b : ℕ) → eqb a b ≡ false → a ≡ b → ⊥
no_same a b h e = let t : eqb a b ≡ true = grind (arith, nat_tests) in absurd (cc)

pub chained_others : (k : ℕ) (was now : Lines) → OthersChained k was now → (es : List Enqueued) → AllByRecursion (λ w. eqb w.no k ≡ false) (all_waiting es) → AreChained was es → AreChained now es
chained_others k was now still [] others ok = tt
chained_others k was now still (e ∷ es) others ok = (still e (no_same e.no k others.0) ok.0, chained_others k was now still es others.1 ok.1)

pub chained_below : (k : ℕ) (was now : Lines) → OthersChained k was now → (es : List Enqueued) → AreBelow k (all_waiting es) → AreChained was es → AreChained now es
chained_below k was now still [] below ok = tt
chained_below k was now still (e ∷ es) below ok = (still e (λ same. let l = below.0 in omega (arith, l, same)) ok.0, chained_below k was now still es below.1 ok.1)

pub tail_ends : (l : Lines) (owner : ℕ) (head tail : Option ℕ) → IsTail l owner head tail → IfSome tail (λ t. EndsChain l.nodes t × ((request_at l.nodes.held t).0 ≡ owner))
tail_ends l owner head None end = tt
tail_ends l owner head (Some t) end = (end.1, end.2)

pub head_is : (head : Option ℕ) (a : ℕ) → option_or head (Some a) ≡ Some (head_or head a)
head_is None a = refl
head_is (Some h) a = refl
