use Rattle.std.proofs.Common.{◌≡◌, ◌<◌, ℕ, List, [], ◌∷◌, Option, Some, None, is_some, length, get_or, true, false, refl, sym, ap, ◌∙◌, subst, arith}
use Rattle.std.proofs.lemmas.Option.{slice_get_read, slice_get_within}
use Rattle.footprint.specs.declared.resource.Resource.{Resource}
use Rattle.lock_tree.specs.Numbered.{IsNumbered}
use Rattle.lock_tree.proofs.Positions.{some_is}
use Rattle.std.specs.Prelude.{slice_get}
use Rattle.lock_tree.specs.Lines.{Lines, nodes_of, number_of}
use Rattle.lock_tree.proofs.Resources.{changed_as}
use Rattle.lock_tree.proofs.Vacancies.{closed, vacant_room, gone_here, forgotten, forgotten_lines, forgotten_kept}
use Rattle.lock_tree.proofs.numbering.forget_empty.Goals as goal

no_first : (xs : List ℕ) (o : Option ℕ) → o ≡ slice_get xs 0 → is_some o ≡ false → xs ≡ []
no_first [] o is none = refl
no_first (x ∷ xs) o is none = absurd (let e : is_some o ≡ true = ap is_some is in cc)

some_first : (xs : List ℕ) (o : Option ℕ) → o ≡ slice_get xs 0 → is_some o ≡ true → xs ≡ [] → ⊥
some_first [] o is some e = absurd (let n : is_some o ≡ false = ap is_some is in cc)
some_first (x ∷ xs) o is some e = absurd (cc)

-- a resource stands where its number notes it
noted_near : (l : Lines) (q : ℕ) (r : Resource) → IsNumbered l (Some q) → number_of l r ≡ Some q → q < length l.resources.items
noted_near l q r ok named = slice_get_within l.resources.items q r (ok.noted r q named)

noted_by : (l : Lines) (q : ℕ) (r x : Resource) → IsNumbered l (Some q) → number_of l r ≡ Some q → x ≡ get_or l.resources.items q x → r ≡ x
noted_by l q r x ok named read =
    some_is r x (sym (ok.noted r q named) ∙ slice_get_read l.resources.items (length l.resources.items) q x refl (noted_near l q r ok named) read)

pub index-requires : goal.index-requires
index-requires c =
    let l = c.args.lines.now in let near = noted_near l c.args.number c.args.resource.now.value c.requires.numbered c.requires.named in let n = l.resources.ok.0 in omega (arith, near, n)

pub push_reserved-requires : goal.push_reserved-requires
push_reserved-requires c =
    let l = c.args.lines.now in
    let empty = no_first (nodes_of l.nodes c.args.number) c.first.result c.first.ensures.node c.if-is_none.ensures in
    let room = vacant_room l c.args.number c.requires.numbered empty in let n = l.vacant.ok.0 in omega (arith, room, n)

pub first-requires : goal.first-requires
first-requires c =
    let l = (c.requires.numbered.named c.args.resource.now.value c.args.number c.requires.named).0 in let few = c.requires.numbered.few in let many = c.requires.numbered.many in omega (arith, l, few, many)

pub returns-then-is_none : goal.returns-then-is_none
returns-then-is_none c =
    let l = c.args.lines.now in let q = c.args.number in let x = c.index.result.now in
    let is = noted_by l q c.args.resource.now.value x c.requires.numbered c.requires.named c.index.ensures in
    let named = subst (λ (s : Resource). number_of l s ≡ Some q) is c.requires.named in
    let now : Lines = record l { numbers = c.remove.new.self; vacant = c.push_reserved.new.self } in
    let empty = no_first (nodes_of l.nodes q) c.first.result c.first.ensures.node c.if-is_none.ensures in
    let updates = changed_as (number_of l) (number_of now) x None c.remove.ensures.updates.0 in let items = c.push_reserved.ensures.items in let capacity = c.push_reserved.ensures.capacity in
    record {
      numbered = forgotten l now x q updates c.requires.numbered named empty items capacity;
      granted = c.requires.granted;
      lines = refl;
      nodes = refl;
      gone = λ _. subst (λ (s : Resource). number_of now s ≡ None) (sym is) (gone_here l now x q updates c.requires.numbered named empty items capacity);
      kept = λ s n i a e there. forgotten_kept l now x q updates c.requires.numbered named empty items capacity s n i a e there;
      same = λ s. forgotten_lines l now x q updates c.requires.numbered named empty items capacity s;
    }

pub returns-else-is_none : goal.returns-else-is_none
returns-else-is_none c =
    let l = c.args.lines.now in let q = c.args.number in
    let filled = some_first (nodes_of l.nodes q) c.first.result c.first.ensures.node c.if-is_none.ensures in
    record {
      numbered = closed l q c.requires.numbered filled;
      granted = c.requires.granted;
      lines = refl;
      nodes = refl;
      gone = λ e. absurd (filled e);
      kept = λ s n i a e there. e;
      same = λ s. refl;
    }
