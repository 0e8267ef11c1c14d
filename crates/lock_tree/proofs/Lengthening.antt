-- The chains of transactions, as a request comes.
use Rattle.std.proofs.Common.{◌≡◌, ℕ, ◌<◌, zero, suc, eqb, cond, List, [], ◌∷◌, ◌++◌, length, Option, None, Some, IfSome, refl, sym, ◌∙◌, ap, subst, arith}
use Rattle.std.specs.Prelude.{slice_get}
use Rattle.std.specs.HashMap.{get}
use Rattle.std.specs.List.{list_any}
use Rattle.std.proofs.lemmas.Option.{slice_get_within}
use Rattle.footprint.specs.declared.resource.Resource.{Resource}
use Rattle.modes.specs.declared.mode.Mode.{Mode}
use Rattle.request_arena.specs.declared.node.Held.{Held}
use Rattle.request_arena.specs.declared.node.Request.{Request}
use Rattle.request_arena.specs.Following.{changed}
use Rattle.request_arena.specs.Chains.{chain, linked, with_successor}
use Rattle.request_arena.specs.Lists.{IsLive}
use Rattle.request_arena.specs.Pushes.{Pushed, appended}
use Rattle.lock_tree.specs.Keys.{resource_eq}
use Rattle.lock_tree.specs.Lines.{Lines, request_at, nodes_of, number_of}
use Rattle.lock_tree.specs.Numbered.{IsNumbered}
use Rattle.lock_tree.specs.Chained.{IsPlaced, ArePlaced, Chains, IsTail, head_or}
use Rattle.lock_tree.specs.Steps.{AreLive, OthersChained, IsLonger}
use Rattle.lock_tree.proofs.Positions.{none_is, get_front, get_last, get_set_same, get_set_other, ends_with}
use Rattle.lock_tree.proofs.Counting.{linked_length}
use Rattle.lock_tree.proofs.Vacancies.{or_other}
use Rattle.lock_tree.proofs.Adding.{now_here, now_elsewhere, another, asks_still, asks_new}
use Rattle.lock_tree.proofs.Chaining.{PlacedStill, all_still, placed_end, none_of_another, holds_live}

abbrev Live : List (Option Held) → ℕ → Type 0
Live hs a = (h : Held) × (slice_get hs a ≡ Some (Some h))

-- a live node stays live as one comes after another
changed_live : (hs : List (Option Held)) (t id a : ℕ) → Live hs a → Live (changed hs t (λ h. with_successor h id)) a
changed_live [] t id a live = absurd (none_is (Some live.0) live.1)
changed_live (None ∷ hs) zero id zero live = absurd (let e = live.1 in cc)
changed_live (Some h ∷ hs) zero id zero live = (record h { successor = Some id }, refl)
changed_live (h ∷ hs) zero id (suc a) live = live
changed_live (h ∷ hs) (suc t) id zero live = live
changed_live (h ∷ hs) (suc t) id (suc a) live = changed_live hs t id a live

linked_live : (tail : Option ℕ) (hs : List (Option Held)) (id a : ℕ) → Live hs a → Live (linked tail id hs) a
linked_live None hs id a live = live
linked_live (Some t) hs id a live = changed_live hs t id a live

module _ (was now : Lines) (q id : ℕ) (tail : Option ℕ) (request : Request) (ok : IsNumbered was (Some q)) (within : q < length was.lines.items)
    (live : AreLive was.nodes) (pushed : Pushed was.nodes q tail request id now.nodes) (numbers_same : now.numbers ≡ was.numbers) where
  abbrev mid : Lines
  mid = record was { nodes = now.nodes }

  placed_still : (k : ℕ) → PlacedStill k was now
  placed_still k r number a placed = record {
    named = ap (λ m. get resource_eq m r) numbers_same ∙ placed.named;
    place = placed.place;
    there = or_other number q (slice_get (nodes_of now.nodes number) placed.place ≡ Some a)
        (λ same.
        let at : slice_get (nodes_of was.nodes q) placed.place ≡ Some a = subst (λ (n : ℕ). slice_get (nodes_of was.nodes n) placed.place ≡ Some a) same placed.there in
        ap (λ (n : ℕ). slice_get (nodes_of now.nodes n) placed.place) same
        ∙ ap (λ (xs : List ℕ). slice_get xs placed.place) (now_here was mid q id tail request ok within refl refl live pushed) ∙ get_front (nodes_of was.nodes q) (id ∷ []) placed.place a at)
        (λ other. ap (λ (xs : List ℕ). slice_get xs placed.place) (now_elsewhere was mid q id tail request ok within refl refl live pushed number other) ∙ placed.there);
    owned = ap (λ (x : ℕ × Mode). x.0) (asks_still was mid q id tail request ok within refl refl live pushed a (another was mid q id tail request ok within refl refl live pushed number placed.place a placed.there)) ∙ placed.owned;
  }

  still_live : (a : ℕ) → IsLive was.nodes a → IsLive now.nodes a
  still_live a there =
      let apart : a ≡ id → ⊥ = λ same. let e = sym pushed.fresh ∙ ap (slice_get was.nodes.held) (sym same) ∙ there.1 in cc in
      let l = linked_live tail was.nodes.held id a there in
      (l.0, ap (λ (hs : List (Option Held)). slice_get hs a) pushed.held ∙ get_set_other (linked tail id was.nodes.held) id a _ apart ∙ l.1)

  abbrev OwnedTail : Option ℕ → Type 0
  OwnedTail t = IfSome t (λ a. (request_at was.nodes.held a).0 ≡ request.no)

  pub pushed_others : OwnedTail tail → OthersChained request.no was now
  pushed_others owned e other ok_chain = (ok_chain.0, with_head e.head ok_chain.1)
    where
      same_chain : (t : Option ℕ) → OwnedTail t → (xs : List ℕ) → ArePlaced was e.no e.plan.value ok_chain.0 xs → appended t id xs ≡ xs
      same_chain None owned xs placed = refl
      same_chain (Some t) owned xs placed = ap (λ v. cond v (xs ++ id ∷ []) xs) (none_of_another was e.no e.plan.value ok_chain.0 xs t placed (λ is. other (sym is ∙ owned)))

      with_head : (head : Option ℕ) → Chains was e.no e.plan.value ok_chain.0 head → Chains now e.no e.plan.value ok_chain.0 head
      with_head None chained = record { begins = tt; placed = all_still e.no was now (placed_still e.no) e.plan.value ok_chain.0 [] chained.placed }
      with_head (Some h) chained =
          let at = holds_live was.nodes h chained.begins.0 in
          record {
            begins = (still_live h chained.begins.0, pushed.firsts h at chained.begins.1);
            placed = subst (ArePlaced now e.no e.plan.value ok_chain.0) (sym (pushed.chains h at ∙ same_chain tail owned (chain was.nodes.held h) chained.placed))
                (all_still e.no was now (placed_still e.no) e.plan.value ok_chain.0 (chain was.nodes.held h) chained.placed);
          }

  new_there : slice_get now.nodes.held id ≡ Some (Some (record { request = request; successor = None }))
  new_there =
      let near : id < length (linked tail id was.nodes.held) = (let l = slice_get_within was.nodes.held id None pushed.fresh in let n = linked_length tail id was.nodes.held in omega (arith, l, n)) in
      ap (λ (hs : List (Option Held)). slice_get hs id) pushed.held ∙ get_set_same (linked tail id was.nodes.held) id (Some (record { request = request; successor = None })) near

  new_number : (request_at now.nodes.held id).0 ≡ request.no
  new_number = ap (λ (x : ℕ × Mode). x.0) (asks_new was mid q id tail request ok within refl refl live pushed)

  pub pushed_own : (resource : Resource) → number_of was resource ≡ Some q → IsLonger request.no resource q tail id was now
  pushed_own resource named plan mode numbers head chained is_tail = go head tail refl chained is_tail
    where
      placed_new : IsPlaced now request.no resource q id
      placed_new = record {
        named = ap (λ m. get resource_eq m resource) numbers_same ∙ named;
        place = length (nodes_of was.nodes q);
        there = ap (λ (xs : List ℕ). slice_get xs (length (nodes_of was.nodes q))) (now_here was mid q id tail request ok within refl refl live pushed) ∙ get_last (nodes_of was.nodes q) id;
        owned = new_number;
      }

      placed_all : (xs : List ℕ) → ArePlaced was request.no plan numbers xs → ArePlaced now request.no (plan ++ (resource, mode) ∷ []) (numbers ++ q ∷ []) (xs ++ id ∷ [])
      placed_all xs placed = placed_end now request.no plan numbers xs (resource, mode) q id (all_still request.no was now (placed_still request.no) plan numbers xs placed) placed_new

      go : (head t : Option ℕ) → tail ≡ t → Chains was request.no plan numbers head → IsTail was request.no head t
          → Chains now request.no (plan ++ (resource, mode) ∷ []) (numbers ++ q ∷ []) (Some (head_or head id)) × IsTail now request.no (Some (head_or head id)) (Some id)
      go None None same chained end = (
        record {
          begins = (((record { request = request; successor = None }), new_there), pushed.first same);
          placed = subst (ArePlaced now request.no (plan ++ (resource, mode) ∷ []) (numbers ++ q ∷ [])) (sym pushed.alone) (placed_all [] chained.placed);
        },
        (ap (list_any (eqb id)) pushed.alone ∙ ends_with [] id, (request, new_there), new_number),
      )
      go None (Some t) same chained end = absurd (let e = end.0 in cc)
      go (Some h) None same chained end = absurd (none_is h (sym end))
      go (Some h) (Some t) same chained end =
          let at = holds_live was.nodes h chained.begins.0 in let xs = chain was.nodes.held h in
          let longer : chain now.nodes.held h ≡ xs ++ id ∷ [] = pushed.chains h at ∙ ap (λ (o : Option ℕ). appended o id xs) same ∙ ap (λ v. cond v (xs ++ id ∷ []) xs) end.0 in (
            record {
              begins = (still_live h chained.begins.0, pushed.firsts h at chained.begins.1);
              placed = subst (ArePlaced now request.no (plan ++ (resource, mode) ∷ []) (numbers ++ q ∷ [])) (sym longer) (placed_all xs chained.placed);
            },
            (ap (list_any (eqb id)) longer ∙ ends_with xs id, (request, new_there), new_number),
          )
