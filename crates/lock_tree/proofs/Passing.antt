-- The numbers of queues, as a node comes and as one leaves.
use Rattle.std.proofs.Common.{◌≡◌, ℕ, ◌+◌, ◌<◌, ◌≤◌, ◌^◌, List, [], ◌∷◌, ◌++◌, length, get_or, Option, None, Some, sym, ◌∙◌, ap, subst, arith}
use Rattle.std.specs.Prelude.{slice_get, slice_set}
use Rattle.std.specs.Vec.{vec_capacity}
use Rattle.std.proofs.lemmas.List.{length-set, get_or-set_same, get_or-set_other}
use Rattle.std.proofs.lemmas.Option.{slice_get_within}
use Rattle.request_arena.specs.declared.node.Held.{Held}
use Rattle.request_arena.specs.Following.{without}
use Rattle.request_arena.specs.Chains.{linked}
use Rattle.request_arena.specs.Lists.{free_nodes}
use Rattle.lock_tree.specs.Lines.{Lines, nodes_of}
use Rattle.lock_tree.specs.Numbered.{none, occupied, total, IsNumbered}
use Rattle.lock_tree.proofs.Positions.{some_is, none_is, without_at, removed_length}
use Rattle.lock_tree.proofs.Counting.{occupied_set, total_set, one_or_none, one_more, more_than_none, some_there, linked_length, pushed_free, given_free}
use Rattle.lock_tree.proofs.Vacancies.{or_other}

-- ---- a node comes

module _ (was now : Lines) (q id : ℕ) (tail : Option ℕ) (h : Held) (ok : IsNumbered was (Some q)) (within : q < length was.lines.items)
    (many : length now.lines.items ≡ length was.lines.items) (capacity : vec_capacity now.lines ≡ vec_capacity was.lines) (free : slice_get was.nodes.held id ≡ Some None)
    (queues : now.nodes.queues ≡ slice_set was.nodes.queues q (nodes_of was.nodes q ++ id ∷ [])) (held : now.nodes.held ≡ slice_set (linked tail id was.nodes.held) id (Some h)) where
  near : q < length was.nodes.queues
  near = let a = ok.few in let b = ok.many in omega (arith, a, b, within)

  pub added_here : nodes_of now.nodes q ≡ nodes_of was.nodes q ++ id ∷ []
  added_here = ap (λ (qs : List (List ℕ)). get_or qs q []) queues ∙ get_or-set_same was.nodes.queues q (nodes_of was.nodes q ++ id ∷ []) [] near

  pub added_elsewhere : (n : ℕ) → (n ≡ q → ⊥) → nodes_of now.nodes n ≡ nodes_of was.nodes n
  added_elsewhere n other = ap (λ (qs : List (List ℕ)). get_or qs n []) queues ∙ get_or-set_other was.nodes.queues q n (nodes_of was.nodes q ++ id ∷ []) [] other

  pub added_nodes : length now.nodes.held ≡ length was.nodes.held
  added_nodes = ap length held ∙ length-set (linked tail id was.nodes.held) id (Some h) ∙ linked_length tail id was.nodes.held

  filled : nodes_of now.nodes q ≡ [] → ⊥
  filled e = more_than_none (nodes_of was.nodes q) id (sym added_here ∙ e)

  pub added : IsNumbered (record was { nodes = now.nodes; lines = now.lines }) None
  added = record {
    few = (let a = ok.few in let n = added_nodes in omega (arith, a, many, n));
    many = (let m = ok.many in let n = added_nodes in let k : length now.nodes.queues ≡ length was.nodes.queues = ap length queues ∙ length-set was.nodes.queues q (nodes_of was.nodes q ++ id ∷ []) in omega (arith, m, n, k));
    small = (let s = ok.small in let n = added_nodes in subst (λ (k : ℕ). k < 2 ^ 32) (sym n) s);
    named = λ r n e. (
      (let l = (ok.named r n e).0 in omega (arith, l, many)),
      λ empty. or_other n q (None ≡ Some n) (λ same. absurd (filled (ap (nodes_of now.nodes) (sym same) ∙ empty)))
          (λ other. absurd (other (sym (some_is q n ((ok.named r n e).1 (sym (added_elsewhere n other) ∙ empty)))))),
    );
    noted = ok.noted;
    as_many = (let a = ok.as_many in omega (arith, a, many));
    resources_fit = (let f = ok.resources_fit in let n = added_nodes in omega (arith, f, n));
    fresh = λ n le. let m : length was.lines.items ≤ n = omega (arith, le, many) in added_elsewhere n (λ e. absurd (omega (arith, m, e, within))) ∙ ok.fresh n m;
    vacant = λ i n there. let v = ok.vacant i n there in (
      (let l = v.0 in omega (arith, l, many)),
      added_elsewhere n (λ e. v.2 (ap Some (sym e))) ∙ v.1,
      λ e. none_is n e,
    );
    apart = ok.apart;
    count = (let c = ok.count in let s = occupied_set was.nodes.queues q (nodes_of was.nodes q ++ id ∷ []) near in let one = (one_more (nodes_of was.nodes q) id).0 in let sum = one_or_none (nodes_of was.nodes q) in
        let o = ap occupied queues in omega (arith, c, s, one, sum, o, many));
    room = (let c = ok.room in let s = total_set was.nodes.queues q (nodes_of was.nodes q ++ id ∷ []) near in let one = (one_more (nodes_of was.nodes q) id).1 in let o = ap total queues in
        let f = pushed_free was.nodes.held now.nodes.held tail id h free held in let n = added_nodes in omega (arith, c, s, one, o, f, n));
    lines_fit = (let f = ok.lines_fit in let n = added_nodes in omega (arith, f, n, capacity));
    vacant_fit = (let f = ok.vacant_fit in let n = added_nodes in omega (arith, f, n));
  }

-- ---- a node leaves

module _ (was now : Lines) (q i a : ℕ) (h : Held) (ok : IsNumbered was None) (within : q < length was.lines.items)
    (many : length now.lines.items ≡ length was.lines.items) (capacity : vec_capacity now.lines ≡ vec_capacity was.lines) (there : slice_get (nodes_of was.nodes q) i ≡ Some a)
    (once : (j : ℕ) → slice_get (nodes_of was.nodes q) j ≡ Some a → i ≡ j) (live : slice_get was.nodes.held a ≡ Some (Some h))
    (queues : now.nodes.queues ≡ slice_set was.nodes.queues q (without a (nodes_of was.nodes q))) (held : now.nodes.held ≡ slice_set was.nodes.held a None) where
  near_left : q < length was.nodes.queues
  near_left = let a = ok.few in let b = ok.many in omega (arith, a, b, within)

  pub left_here : nodes_of now.nodes q ≡ without a (nodes_of was.nodes q)
  left_here = ap (λ (qs : List (List ℕ)). get_or qs q []) queues ∙ get_or-set_same was.nodes.queues q (without a (nodes_of was.nodes q)) [] near_left

  pub left_elsewhere : (n : ℕ) → (n ≡ q → ⊥) → nodes_of now.nodes n ≡ nodes_of was.nodes n
  left_elsewhere n other = ap (λ (qs : List (List ℕ)). get_or qs n []) queues ∙ get_or-set_other was.nodes.queues q n (without a (nodes_of was.nodes q)) [] other

  pub left_nodes : length now.nodes.held ≡ length was.nodes.held
  left_nodes = ap length held ∙ length-set was.nodes.held a None

  one_less : length (without a (nodes_of was.nodes q)) + 1 ≡ length (nodes_of was.nodes q)
  one_less = ap (λ (xs : List ℕ). length xs + 1) (without_at a (nodes_of was.nodes q) i there once) ∙ removed_length (nodes_of was.nodes q) i (slice_get_within (nodes_of was.nodes q) i a there)

  pub left : IsNumbered (record was { nodes = now.nodes; lines = now.lines }) (Some q)
  left = record {
    few = (let a = ok.few in let n = left_nodes in omega (arith, a, many, n));
    many = (let m = ok.many in let n = left_nodes in let k : length now.nodes.queues ≡ length was.nodes.queues = ap length queues ∙ length-set was.nodes.queues q (without a (nodes_of was.nodes q)) in omega (arith, m, n, k));
    small = (let s = ok.small in let n = left_nodes in subst (λ (k : ℕ). k < 2 ^ 32) (sym n) s);
    named = λ r n e. (
      (let l = (ok.named r n e).0 in omega (arith, l, many)),
      λ empty. or_other n q (Some q ≡ Some n) (λ same. ap Some (sym same)) (λ other. absurd (none_is n ((ok.named r n e).1 (sym (left_elsewhere n other) ∙ empty)))),
    );
    noted = ok.noted;
    as_many = (let a = ok.as_many in omega (arith, a, many));
    resources_fit = (let f = ok.resources_fit in let n = left_nodes in omega (arith, f, n));
    fresh = λ n le. let m : length was.lines.items ≤ n = omega (arith, le, many) in left_elsewhere n (λ e. absurd (omega (arith, m, e, within))) ∙ ok.fresh n m;
    vacant = λ j n h. let v = ok.vacant j n h in let other : n ≡ q → ⊥ = λ e. (some_there (nodes_of was.nodes q) i a there).1 (ap (nodes_of was.nodes) (sym e) ∙ v.1) in (
      (let l = v.0 in omega (arith, l, many)),
      left_elsewhere n other ∙ v.1,
      λ e. other (sym (some_is q n e)),
    );
    apart = ok.apart;
    count = (let c = ok.count in let s = occupied_set was.nodes.queues q (without a (nodes_of was.nodes q)) near_left in let one = (some_there (nodes_of was.nodes q) i a there).0 in let sum = one_or_none (without a (nodes_of was.nodes q)) in
        let o = ap occupied queues in let g = ap none left_here in omega (arith, c, s, one, sum, o, g, many));
    room = (let c = ok.room in let s = total_set was.nodes.queues q (without a (nodes_of was.nodes q)) near_left in let one = one_less in let o = ap total queues in
        let f = given_free was.nodes.held a h live in let e = ap free_nodes held in let n = left_nodes in omega (arith, c, s, one, o, f, e, n));
    lines_fit = (let f = ok.lines_fit in let n = left_nodes in omega (arith, f, n, capacity));
    vacant_fit = (let f = ok.vacant_fit in let n = left_nodes in omega (arith, f, n));
  }
