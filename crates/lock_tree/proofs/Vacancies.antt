-- The numbers of queues, as they are taken and given back.
use Rattle.std.proofs.Common.{◌≡◌, ℕ, ◌+◌, ◌<◌, ◌≤◌, ◌^◌, ◌⊎◌, inl, inr, zero, suc, eqb, true, false, cond, List, [], ◌∷◌, ◌++◌, length, replicate, get_or, Option, None, Some, refl, sym, ◌∙◌, ap, subst, arith}
use Rattle.std.specs.Prelude.{slice_get, slice_set}
use Rattle.std.specs.Vec.{vec_capacity}
use Rattle.std.specs.Map.{lookup}
use Rattle.std.proofs.lemmas.Bool.Decides.{nat_tests}
use Rattle.std.proofs.lemmas.List.{length-set, length_push, length-replicate}
use Rattle.std.proofs.lemmas.Option.{slice_get_within}
use Rattle.footprint.specs.declared.resource.Resource.{Resource}
use Rattle.request_arena.specs.Lists.{Lists, free_nodes}
use Rattle.lock_tree.specs.declared.line.Line.{Line}
use Rattle.lock_tree.specs.Keys.{resource_eq}
use Rattle.lock_tree.specs.Lines.{Lines, line, number_of, nodes_of, numbered, requests, is_same}
use Rattle.lock_tree.specs.Numbered.{occupied, total, IsNumbered}
use Rattle.lock_tree.proofs.Positions.{some_is, none_is, get_front, get_last, get_either, get_set_same, get_set_other}
use Rattle.lock_tree.proofs.Counting.{occupied_few, none_if_empty, none_if_some}
use Rattle.lock_tree.proofs.Resources.{itself, same_or_not, noted_here, noted_elsewhere}

is_number : (a b : ℕ) → eqb a b ≡ true → a ≡ b
is_number a b h = grind (arith, nat_tests)

not_number : (a b : ℕ) → eqb a b ≡ false → a ≡ b → ⊥
not_number a b h e = let t : eqb a b ≡ true = grind (arith, nat_tests) in absurd (cc)

pub or_other : (a b : ℕ) (P : Type 0) → (a ≡ b → P) → ((a ≡ b → ⊥) → P) → P
or_other a b P same other = elim (eqb a b) as (λ v. eqb a b ≡ v → P) [
  | true ↦ λ e. same (is_number a b e)
  | false ↦ λ e. other (not_number a b e)
] refl

-- a number is one resource's
pub unique : (l : Lines) (o : Option ℕ) → IsNumbered l o → (r s : Resource) (n : ℕ) → number_of l r ≡ Some n → number_of l s ≡ Some n → r ≡ s
unique l o ok r s n e f = some_is r s (sym (ok.noted r n e) ∙ ok.noted s n f)

-- ---- a number is taken

-- what a number is taken to: the queue is empty, the number is one of a line, and the resource is noted
abbrev pub Taken : Lines → Lines → ℕ → Resource → Type 0
Taken was now q r = IsNumbered now (Some q) × (nodes_of was.nodes q ≡ []) × (q < length now.lines.items) × (slice_get now.resources.items q ≡ Some r)

pub vacant_last : (was : Lines) (q : ℕ) (rest : List ℕ) → IsNumbered was None → was.vacant.items ≡ rest ++ q ∷ [] → q < length was.resources.items
vacant_last was q rest ok is =
    let there = (ok.vacant (length rest) q (ap (λ xs. slice_get xs (length rest)) is ∙ get_last rest q)).0 in let many = ok.as_many in omega (arith, there, many)

pub taken_vacant : (was now : Lines) (q : ℕ) (r : Resource) → IsNumbered was None → was.vacant.items ≡ now.vacant.items ++ q ∷ [] → vec_capacity now.vacant ≡ vec_capacity was.vacant
    → now.resources.items ≡ slice_set was.resources.items q r → vec_capacity now.resources ≡ vec_capacity was.resources
    → Taken was (record was { vacant = now.vacant; resources = now.resources }) q r
taken_vacant was now q r ok is capacity written resources_capacity =
    let last : slice_get was.vacant.items (length now.vacant.items) ≡ Some q = ap (λ xs. slice_get xs (length now.vacant.items)) is ∙ get_last now.vacant.items q in
    let there = ok.vacant (length now.vacant.items) q last in
    let before = λ (i n : ℕ) (h : slice_get now.vacant.items i ≡ Some n). ap (λ xs. slice_get xs i) is ∙ get_front now.vacant.items (q ∷ []) i n h in (
      record {
        few = ok.few;
        many = ok.many;
        small = ok.small;
        named = λ r n e. ((ok.named r n e).0, λ empty. absurd (none_is n ((ok.named r n e).1 empty)));
        noted = λ s n e. ap (λ xs. slice_get xs n) written ∙ get_set_other was.resources.items q n r (λ same. none_is n ((ok.named s n e).1 (ap (nodes_of was.nodes) same ∙ there.1))) ∙ ok.noted s n e;
        as_many = ap length written ∙ length-set was.resources.items q r ∙ ok.as_many;
        resources_fit = (let f = ok.resources_fit in omega (arith, f, resources_capacity));
        fresh = ok.fresh;
        vacant = λ i n h. (
          (ok.vacant i n (before i n h)).0,
          (ok.vacant i n (before i n h)).1,
          λ e.
              let same : q ≡ n = some_is q n e in
              let at : i ≡ length now.vacant.items = ok.apart i (length now.vacant.items) n (before i n h) (last ∙ e) in
              let near = slice_get_within now.vacant.items i n h in
              omega (arith, at, near),
        );
        apart = λ i j n h k. ok.apart i j n (before i n h) (before j n k);
        count = (let n = ok.count in let m : length was.vacant.items ≡ length now.vacant.items + 1 = ap length is ∙ length_push now.vacant.items q in let g = none_if_empty (nodes_of was.nodes q) there.1 in omega (arith, n, m, g));
        room = ok.room;
        lines_fit = ok.lines_fit;
        vacant_fit = (let n = ok.vacant_fit in omega (arith, n, capacity));
      },
      there.1,
      there.0,
      ap (λ xs. slice_get xs q) written ∙ get_set_same was.resources.items q r (vacant_last was q now.vacant.items ok is),
    )

pub number_left : (l : Lines) → IsNumbered l None → 0 < free_nodes l.nodes.held → l.vacant.items ≡ [] → length l.lines.items < length l.nodes.held
number_left l ok free none_vacant =
    let few = occupied_few l.nodes.queues in let n = ok.count in let v = ap length none_vacant in let room = ok.room in omega (arith, few, n, v, room, free)

pub taken_fresh : (was now : Lines) (x : Line) (r : Resource) → IsNumbered was None → 0 < free_nodes was.nodes.held → was.vacant.items ≡ [] → now.vacant.items ≡ [] → vec_capacity now.vacant ≡ vec_capacity was.vacant
    → now.lines.items ≡ was.lines.items ++ x ∷ [] → vec_capacity now.lines ≡ vec_capacity was.lines
    → now.resources.items ≡ was.resources.items ++ r ∷ [] → vec_capacity now.resources ≡ vec_capacity was.resources
    → Taken was (record was { vacant = now.vacant; lines = now.lines; resources = now.resources }) (length was.lines.items) r
taken_fresh was now x r ok free none_vacant still vacant_capacity is capacity noted_last resources_capacity =
    let left = number_left was ok free none_vacant in
    let n : length now.lines.items ≡ length was.lines.items + 1 = ap length is ∙ length_push was.lines.items x in
    let empty = ok.fresh (length was.lines.items) (omega arith) in (
      record {
        few = omega (arith, left, n);
        many = ok.many;
        small = ok.small;
        named = λ r m e. (let l = (ok.named r m e).0 in omega (arith, l, n), λ none_there. absurd (none_is m ((ok.named r m e).1 none_there)));
        noted = λ s m e. ap (λ xs. slice_get xs m) noted_last ∙ get_front was.resources.items (r ∷ []) m s (ok.noted s m e);
        as_many = (let a = ok.as_many in let b : length now.resources.items ≡ length was.resources.items + 1 = ap length noted_last ∙ length_push was.resources.items r in omega (arith, a, b, n));
        resources_fit = (let f = ok.resources_fit in omega (arith, f, resources_capacity));
        fresh = λ m le. ok.fresh m (omega (arith, le, n));
        vacant = λ i m h. absurd (none_is m (sym (ap (λ xs. slice_get xs i) still) ∙ h));
        apart = λ i j m h k. absurd (none_is m (sym (ap (λ xs. slice_get xs i) still) ∙ h));
        count = (let c = ok.count in let v = ap length none_vacant in let w = ap length still in let g = none_if_empty (nodes_of was.nodes (length was.lines.items)) empty in omega (arith, c, v, w, g, n));
        room = ok.room;
        lines_fit = (let f = ok.lines_fit in omega (arith, f, capacity));
        vacant_fit = (let f = ok.vacant_fit in omega (arith, f, vacant_capacity));
      },
      empty,
      omega (arith, n),
      ap (λ xs. slice_get xs (length was.lines.items)) noted_last ∙ ap (slice_get (was.resources.items ++ r ∷ [])) (sym ok.as_many) ∙ get_last was.resources.items r,
    )

-- ---- and noted

module _ (l now : Lines) (r : Resource) (q : ℕ) (updates : (s : Resource) → number_of now s ≡ cond (is_same r s) (Some q) (number_of l s)) where
  pub number_here : number_of (record l { numbers = now.numbers }) r ≡ Some q
  number_here = noted_here (number_of l r) (number_of now r) r (Some q) (updates r)

  pub number_elsewhere : (s : Resource) → is_same r s ≡ false → number_of (record l { numbers = now.numbers }) s ≡ number_of l s
  number_elsewhere s other = noted_elsewhere (number_of l s) (number_of now s) (is_same r s) (Some q) other (updates s)

  module _ (ok : IsNumbered l (Some q)) (within : q < length l.lines.items) (empty : nodes_of l.nodes q ≡ []) (here : slice_get l.resources.items q ≡ Some r) (none_yet : number_of l r ≡ None) where
    abbrev there : Lines
    there = record l { numbers = now.numbers }

    pub opened : IsNumbered there (Some q)
    opened = record {
      few = ok.few;
      many = ok.many;
      small = ok.small;
      named = λ s n e. same_or_not r s ((n < length l.lines.items) × (nodes_of l.nodes n ≡ [] → Some q ≡ Some n))
          (λ same. let is : q ≡ n = some_is q n (sym number_here ∙ ap (number_of there) same ∙ e) in (subst (λ (k : ℕ). k < length l.lines.items) is within, λ _. ap Some is))
          (λ other. ok.named s n (sym (number_elsewhere s other) ∙ e));
      noted = λ s n e. same_or_not r s (slice_get l.resources.items n ≡ Some s)
          (λ same. let is : q ≡ n = some_is q n (sym number_here ∙ ap (number_of there) same ∙ e) in ap (slice_get l.resources.items) (sym is) ∙ here ∙ ap Some same)
          (λ other. ok.noted s n (sym (number_elsewhere s other) ∙ e));
      as_many = ok.as_many;
      resources_fit = ok.resources_fit;
      fresh = ok.fresh;
      vacant = ok.vacant;
      apart = ok.apart;
      count = ok.count;
      room = ok.room;
      lines_fit = ok.lines_fit;
      vacant_fit = ok.vacant_fit;
    }

    pub opened_kept : (s : Resource) (n : ℕ) → number_of l s ≡ Some n → number_of there s ≡ Some n
    opened_kept s n e = same_or_not r s (number_of there s ≡ Some n) (λ same. absurd (none_is n (sym none_yet ∙ ap (number_of l) same ∙ e))) (λ other. number_elsewhere s other ∙ e)

    pub opened_lines : (s : Resource) → line there s ≡ line l s
    opened_lines s = same_or_not r s (line there s ≡ line l s)
        (λ same. let e : line there r ≡ line l r = ap (numbered l.nodes) number_here ∙ ap (requests l.nodes.held) empty ∙ sym (ap (numbered l.nodes) none_yet) in
        subst (λ (t : Resource). line there t ≡ line l t) same e)
        (λ other. ap (numbered l.nodes) (number_elsewhere s other))

-- ---- a number is given back

-- the queue that was open has a node
pub closed : (l : Lines) (q : ℕ) → IsNumbered l (Some q) → (nodes_of l.nodes q ≡ [] → ⊥) → IsNumbered l None
closed l q ok filled = record {
  few = ok.few;
  many = ok.many;
  small = ok.small;
  named = λ r n e. ((ok.named r n e).0, λ empty. absurd (filled (ap (nodes_of l.nodes) (some_is q n ((ok.named r n e).1 empty)) ∙ empty)));
  noted = ok.noted;
  as_many = ok.as_many;
  resources_fit = ok.resources_fit;
  fresh = ok.fresh;
  vacant = λ i n h. ((ok.vacant i n h).0, (ok.vacant i n h).1, λ e. none_is n e);
  apart = ok.apart;
  count = (let c = ok.count in let g = none_if_some (nodes_of l.nodes q) filled in omega (arith, c, g));
  room = ok.room;
  lines_fit = ok.lines_fit;
  vacant_fit = ok.vacant_fit;
}

pub vacant_room : (l : Lines) (q : ℕ) → IsNumbered l (Some q) → nodes_of l.nodes q ≡ [] → length l.vacant.items < vec_capacity l.vacant
vacant_room l q ok empty = let c = ok.count in let g = none_if_empty (nodes_of l.nodes q) empty in let f = ok.vacant_fit in let n = ok.few in omega (arith, c, g, f, n)

module _ (l now : Lines) (r : Resource) (q : ℕ) (updates : (s : Resource) → number_of now s ≡ cond (is_same r s) None (number_of l s))
    (ok : IsNumbered l (Some q)) (named : number_of l r ≡ Some q) (empty : nodes_of l.nodes q ≡ []) (is : now.vacant.items ≡ l.vacant.items ++ q ∷ []) (capacity : vec_capacity now.vacant ≡ vec_capacity l.vacant) where
  abbrev after : Lines
  after = record l { numbers = now.numbers; vacant = now.vacant }

  pub gone_here : number_of now r ≡ None
  gone_here = noted_here (number_of l r) (number_of now r) r None (updates r)

  still_elsewhere : (s : Resource) → is_same r s ≡ false → number_of after s ≡ number_of l s
  still_elsewhere s other = noted_elsewhere (number_of l s) (number_of now s) (is_same r s) None other (updates s)

  -- a number that is noted afterwards was noted before, and is another
  noted : (s : Resource) (n : ℕ) → number_of after s ≡ Some n → (number_of l s ≡ Some n) × (q ≡ n → ⊥)
  noted s n e = same_or_not r s ((number_of l s ≡ Some n) × (q ≡ n → ⊥))
      (λ same. absurd (none_is n (sym gone_here ∙ ap (number_of after) same ∙ e)))
      (λ other.
      let was : number_of l s ≡ Some n = sym (still_elsewhere s other) ∙ e in
      (was, λ k. let t : r ≡ s = unique l (Some q) ok r s n (named ∙ ap Some k) was in not_itself r s t other))
    where
      not_itself : (r s : Resource) → r ≡ s → is_same r s ≡ false → ⊥
      not_itself r s t other = let yes : is_same r s ≡ true = sym (ap (is_same r) t) ∙ itself r in absurd (cc)

  pub forgotten : IsNumbered after None
  forgotten = record {
    few = ok.few;
    many = ok.many;
    small = ok.small;
    named = λ s n e. let was = noted s n e in ((ok.named s n was.0).0, λ none_there. absurd (was.1 (some_is q n ((ok.named s n was.0).1 none_there))));
    noted = λ s n e. ok.noted s n (noted s n e).0;
    as_many = ok.as_many;
    resources_fit = ok.resources_fit;
    fresh = ok.fresh;
    vacant = λ i n h. elim (get_either l.vacant.items q i n (sym (ap (λ xs. slice_get xs i) is) ∙ h)) [
      | inl before ↦ ((ok.vacant i n before).0, (ok.vacant i n before).1, λ e. none_is n e)
      | inr last ↦ (subst (λ (k : ℕ). k < length l.lines.items) (sym last.1) (ok.named r q named).0, ap (nodes_of l.nodes) last.1 ∙ empty, λ e. none_is n e)
    ];
    apart = λ i j n h k. two i j n (get_either l.vacant.items q i n (sym (ap (λ xs. slice_get xs i) is) ∙ h)) (get_either l.vacant.items q j n (sym (ap (λ xs. slice_get xs j) is) ∙ k));
    count = (let c = ok.count in let g = none_if_empty (nodes_of l.nodes q) empty in let n : length now.vacant.items ≡ length l.vacant.items + 1 = ap length is ∙ length_push l.vacant.items q in omega (arith, c, g, n));
    room = ok.room;
    lines_fit = ok.lines_fit;
    vacant_fit = (let f = ok.vacant_fit in omega (arith, f, capacity));
  }
    where
      two : (i j n : ℕ) → (slice_get l.vacant.items i ≡ Some n) ⊎ ((i ≡ length l.vacant.items) × (n ≡ q)) → (slice_get l.vacant.items j ≡ Some n) ⊎ ((j ≡ length l.vacant.items) × (n ≡ q)) → i ≡ j
      two i j n (inl h) (inl k) = ok.apart i j n h k
      two i j n (inl h) (inr k) = absurd ((ok.vacant i n h).2 (ap Some (sym k.1)))
      two i j n (inr h) (inl k) = absurd ((ok.vacant j n k).2 (ap Some (sym h.1)))
      two i j n (inr h) (inr k) = h.0 ∙ sym k.0

  pub forgotten_lines : (s : Resource) → line after s ≡ line l s
  forgotten_lines s = same_or_not r s (line after s ≡ line l s)
      (λ same. let e : line after r ≡ line l r = ap (numbered l.nodes) gone_here ∙ sym (ap (requests l.nodes.held) empty) ∙ sym (ap (numbered l.nodes) named) in
      subst (λ (t : Resource). line after t ≡ line l t) same e)
      (λ other. ap (numbered l.nodes) (still_elsewhere s other))

  pub forgotten_kept : (s : Resource) (n i a : ℕ) → number_of l s ≡ Some n → slice_get (nodes_of l.nodes n) i ≡ Some a → number_of after s ≡ Some n
  forgotten_kept s n i a e there = same_or_not r s (number_of after s ≡ Some n)
      (λ same. let is_q : q ≡ n = some_is q n (sym named ∙ ap (number_of l) same ∙ e) in absurd (none_is a (sym (ap (λ xs. slice_get xs i) (sym (ap (nodes_of l.nodes) is_q) ∙ empty)) ∙ there)))
      (λ other. still_elsewhere s other ∙ e)

-- ---- a queue that is open again

pub reopened : (l : Lines) (r : Resource) (q : ℕ) → IsNumbered l None → number_of l r ≡ Some q → IsNumbered l (Some q)
reopened l r q ok named =
    let filled : nodes_of l.nodes q ≡ [] → ⊥ = λ e. none_is q ((ok.named r q named).1 e) in
    record {
      few = ok.few;
      many = ok.many;
      small = ok.small;
      named = λ s n e. ((ok.named s n e).0, λ empty. absurd (none_is n ((ok.named s n e).1 empty)));
      noted = ok.noted;
      as_many = ok.as_many;
      resources_fit = ok.resources_fit;
      fresh = ok.fresh;
      vacant = λ i n h. ((ok.vacant i n h).0, (ok.vacant i n h).1, λ e. filled (ap (nodes_of l.nodes) (some_is q n e) ∙ (ok.vacant i n h).1));
      apart = ok.apart;
      count = (let c = ok.count in let g = none_if_some (nodes_of l.nodes q) filled in omega (arith, c, g));
      room = ok.room;
      lines_fit = ok.lines_fit;
      vacant_fit = ok.vacant_fit;
    }

-- ---- the same numbers of the same resources

module _ (l now : Lines) (same : (s : Resource) → number_of (record l { numbers = now.numbers }) s ≡ number_of l s) where
  pub renumbered : IsNumbered l None → IsNumbered (record l { numbers = now.numbers }) None
  renumbered ok = record {
    few = ok.few;
    many = ok.many;
    small = ok.small;
    named = λ r n e. ok.named r n (sym (same r) ∙ e);
    noted = λ r n e. ok.noted r n (sym (same r) ∙ e);
    as_many = ok.as_many;
    resources_fit = ok.resources_fit;
    fresh = ok.fresh;
    vacant = ok.vacant;
    apart = ok.apart;
    count = ok.count;
    room = ok.room;
    lines_fit = ok.lines_fit;
    vacant_fit = ok.vacant_fit;
  }

-- ---- no request yet

free_all : (n : ℕ) → free_nodes (replicate n None) ≡ n
free_all zero = refl
free_all (suc n) = ap suc (free_all n)

occupied_none : (n : ℕ) → occupied (replicate n []) ≡ 0
occupied_none zero = refl
occupied_none (suc n) = let h = occupied_none n in omega (arith, h)

total_none : (n : ℕ) → total (replicate n []) ≡ 0
total_none zero = refl
total_none (suc n) = let h = total_none n in omega (arith, h)

empty_at : (n q : ℕ) → get_or {A = List ℕ} (replicate n []) q [] ≡ []
empty_at zero q = refl
empty_at (suc n) zero = refl
empty_at (suc n) (suc q) = empty_at n q

abbrev pub blank : ℕ → Lists
blank n = record { queues = replicate n []; held = replicate n None }

pub all_free : (lists : Lists) (n : ℕ) → lists ≡ blank n → free_nodes lists.held ≡ n
all_free lists n is = ap (λ (x : Lists). free_nodes x.held) is ∙ free_all n

pub none_numbered : (l : Lines) (n : ℕ) → length l.nodes.held < 2 ^ 32 → l.nodes ≡ blank n → l.numbers.entries ≡ [] → l.lines.items ≡ [] → l.vacant.items ≡ [] → l.resources.items ≡ [] → n ≤ vec_capacity l.lines → n ≤ vec_capacity l.vacant → n ≤ vec_capacity l.resources → IsNumbered l None
none_numbered l n small is no_number no_line no_vacant no_resource lines_fit vacant_fit resources_fit =
    let held : length l.nodes.held ≡ n = ap (λ (x : Lists). length x.held) is ∙ length-replicate n None in
    let queues : length l.nodes.queues ≡ n = ap (λ (x : Lists). length x.queues) is ∙ length-replicate n [] in
    let unnamed : (r : Resource) (q : ℕ) → number_of l r ≡ Some q → ⊥ = λ r q e. none_is q (sym (ap (lookup (resource_eq r)) no_number) ∙ e) in
    let lines : length l.lines.items ≡ 0 = ap length no_line in let vacant : length l.vacant.items ≡ 0 = ap length no_vacant in let resources : length l.resources.items ≡ 0 = ap length no_resource in
    record {
      few = omega (arith, held, lines);
      many = omega (arith, held, queues);
      small = small;
      named = λ r q e. absurd (unnamed r q e);
      noted = λ r q e. absurd (unnamed r q e);
      as_many = omega (arith, lines, resources);
      resources_fit = omega (arith, held, resources_fit);
      fresh = λ q le. ap (λ (x : Lists). get_or x.queues q []) is ∙ empty_at n q;
      vacant = λ i q h. absurd (none_is q (sym (ap (λ xs. slice_get xs i) no_vacant) ∙ h));
      apart = λ i j q h k. absurd (none_is q (sym (ap (λ xs. slice_get xs i) no_vacant) ∙ h));
      count = (let o : occupied l.nodes.queues ≡ 0 = ap (λ (x : Lists). occupied x.queues) is ∙ occupied_none n in omega (arith, o, lines, vacant));
      room = (let t : total l.nodes.queues ≡ 0 = ap (λ (x : Lists). total x.queues) is ∙ total_none n in let f = all_free l.nodes n is in omega (arith, t, f, held));
      lines_fit = omega (arith, held, lines_fit);
      vacant_fit = omega (arith, held, vacant_fit);
    }
