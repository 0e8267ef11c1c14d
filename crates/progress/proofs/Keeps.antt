-- Each step keeps the rule of the published list.
use Rattle.std.proofs.Common.{◌≡◌, ◌≢◌, ◌⊎◌, ℕ, zero, suc, List, [], ◌∷◌, ◌++◌, length, set, Bool, true, false, true≢false, refl, sym, ap, ◌∙◌, subst, inl, inr, ⊎_elim, le_refl, le_trans, zero-le, arith, append_assoc}
use Rattle.std.specs.Prelude.{All}
use Rattle.std.proofs.lemmas.List.{append-nil}
use Rattle.std.proofs.lemmas.List.Elements.{All-append}
use mathlib.Core.Option.{some, some-ne-none, some-injective}
use lib.ListN.{get_elem?}
use Rattle.crossbeam_utils.specs.Register.{Turns, Forks, Merges}
use Rattle.atomic_table.proofs.Lists.{at_set}
use Rattle.progress.specs.declared.tally.Tally.{Tally}
use Rattle.progress.specs.declared.view.View.{View}
use Rattle.progress.specs.Tallies.{zero_tally, AddsUp, NoneBelow, latest, StartsWith}
use Rattle.progress.specs.Rule.{view, first_view, watching, handed, taken, FitsList, Kept, Gained, Read}

-- lists of tallies

pub none_below_self : (t : Tally) → NoneBelow t t
none_below_self t = (le_refl _, le_refl _, le_refl _, le_refl _)

none_below_trans : (s t u : Tally) → NoneBelow s t → NoneBelow t u → NoneBelow s u
none_below_trans s t u a b = (le_trans a.0 b.0, le_trans a.1 b.1, le_trans a.2 b.2, le_trans a.3 b.3)

pub latest_push : (ts : List Tally) (t : Tally) → latest (ts ++ t ∷ []) ≡ t
latest_push [] t = refl
latest_push (u ∷ []) t = refl
latest_push (u ∷ v ∷ ts) t = latest_push (v ∷ ts) t

whole_starts : (ts : List Tally) → StartsWith ts ts
whole_starts ts = ([], sym (append-nil ts))

longer_starts : (ts first more : List Tally) → StartsWith ts first → StartsWith (ts ++ more) first
longer_starts ts first more s = (s.0 ++ more, ap (λ l. l ++ more) s.1 ∙ append_assoc first s.0 more)

none_starts : (ts : List Tally) → StartsWith ts []
none_starts ts = (ts, refl)

all_mono : (P Q : Tally → Type 0) (ts : List Tally) → ((t : Tally) → P t → Q t) → All P ts → All Q ts
all_mono P Q ts f h k d lt = f _ (h k d lt)

all_one : (P : Tally → Type 0) (t : Tally) → P t → All P (t ∷ [])
all_one P t h zero d lt = h
all_one P t h (suc k) d lt = absurd (omega arith)

-- what holds of four zeros and of each tally of a list holds of the last one of each beginning
of_latest : (P : Tally → Type 0) (first rest : List Tally) → P zero_tally → All P (first ++ rest) → P (latest first)
of_latest P [] rest zeros h = zeros
of_latest P (t ∷ []) rest zeros h = h 0 t (omega arith)
of_latest P (t ∷ u ∷ ts) rest zeros h = of_latest P (u ∷ ts) rest zeros (λ k d lt. h (suc k) d (omega arith))

of_start : (P : Tally → Type 0) (ts first : List Tally) → StartsWith ts first → P zero_tally → All P ts → P (latest first)
of_start P ts first s zeros h = of_latest P first s.0 zeros (subst (λ (l : List Tally). All P l) s.1 h)

-- lists of views

at_push : (l : List View) (a b : View) (j : ℕ) → get_elem? (l ++ a ∷ []) j ≡ some b → (get_elem? l j ≡ some b) ⊎ ((j ≡ length l) × (a ≡ b))
at_push [] a b zero e = inr (refl, some-injective a b e)
at_push [] a b (suc j) e = absurd (some-ne-none b (sym e))
at_push (x ∷ xs) a b zero e = inl e
at_push (x ∷ xs) a b (suc j) e = ⊎_elim (λ t. inl t) (λ (t : (j ≡ length xs) × (a ≡ b)). inr (ap suc t.0, t.1)) (at_push xs a b j e)

off : false ≡ true → ⊥
off e = true≢false (sym e)

set_each : (P : ℕ → View → Type 0) (views : List View) (by : ℕ) (w : View) → P by w → ((j : ℕ) (u : View) → j ≢ by → get_elem? views j ≡ some u → P j u) → (j : ℕ) (u : View)
    → get_elem? (set views by w) j ≡ some u → P j u
set_each P views by w here there j u e =
    ⊎_elim
    (λ (t : (j ≡ by) × (w ≡ u)). subst (λ (x : View). P j x) t.1 (subst (λ (k : ℕ). P k w) (sym t.0) here))
    (λ (t : (j ≢ by) × (get_elem? views j ≡ some u)). there j u t.0 t.1)
    (at_set views by j w u e)

push_each : (P : ℕ → View → Type 0) (views : List View) (w : View) → P (length views) w → ((j : ℕ) (u : View) → get_elem? views j ≡ some u → P j u) → (j : ℕ) (u : View)
    → get_elem? (views ++ w ∷ []) j ≡ some u → P j u
push_each P views w here there j u e =
    ⊎_elim
    (λ was. there j u was)
    (λ (t : (j ≡ length views) × (w ≡ u)). subst (λ (x : View). P j x) t.1 (subst (λ (k : ℕ). P k w) (sym t.0) here))
    (at_push views w u j e)

-- the steps

pub begins : Kept zero_tally (first_view ∷ [])
begins = record {
  writer = 0;
  list = zero_tally ∷ [];
  last = refl;
  add_up = all_one AddsUp zero_tally refl;
  rise = all_one (λ t. NoneBelow t zero_tally) zero_tally (none_below_self zero_tally);
  each = push_each
      (FitsList 0 (zero_tally ∷ []))
      []
      first_view
      (record { alone = λ _. refl; whole = λ _. refl; seen = whole_starts (zero_tally ∷ []); also = none_starts (zero_tally ∷ []) })
      (λ j u e. absurd (some-ne-none u (sym e)));
}

pub gains : (by : ℕ) (v : View) (tally : Tally) → v.writes ≡ true → AddsUp tally → NoneBelow (latest v.seen) tally → Turns Kept by v (λ _. tally) Gained
gains by v tally writes adds_up rises x views h at =
    let mine = h.each by v at in
    let list = h.list ++ tally ∷ [] in
    let w = view v.writes (v.seen ++ tally ∷ []) v.also in
    let same : v.seen ≡ h.list = mine.whole writes in
    let pushed : v.seen ++ tally ∷ [] ≡ list = ap (λ (l : List Tally). l ++ tally ∷ []) same in
    let above : NoneBelow x tally = subst (λ (t : Tally). NoneBelow t tally) (ap latest same ∙ h.last) rises in (
      w,
      record {
        writer = h.writer;
        list = list;
        last = latest_push h.list tally;
        add_up = All-append AddsUp h.list (tally ∷ []) h.add_up (all_one AddsUp tally adds_up);
        rise = All-append
            (λ t. NoneBelow t tally)
            h.list
            (tally ∷ [])
            (all_mono (λ t. NoneBelow t x) (λ t. NoneBelow t tally) h.list (λ t b. none_below_trans t x tally b above) h.rise)
            (all_one (λ t. NoneBelow t tally) tally (none_below_self tally));
        each = set_each
            (FitsList h.writer list)
            views
            by
            w
            (record { alone = mine.alone; whole = λ _. pushed; seen = ([], sym pushed ∙ sym (append-nil (v.seen ++ tally ∷ []))); also = longer_starts h.list v.also (tally ∷ []) mine.also })
            (λ j u apart e. let old = h.each j u e in record {
              alone = old.alone;
              whole = λ k. absurd (apart (old.alone k ∙ sym (mine.alone writes)));
              seen = longer_starts h.list u.seen (tally ∷ []) old.seen;
              also = longer_starts h.list u.also (tally ∷ []) old.also;
            });
      },
      refl,
    )

pub reads : (by : ℕ) (v : View) → Turns Kept by v (λ x. x) Read
reads by v x views h at =
    let mine = h.each by v at in
    let w = view v.writes h.list [] in (
      w,
      record {
        writer = h.writer;
        list = h.list;
        last = h.last;
        add_up = h.add_up;
        rise = h.rise;
        each = set_each
            (FitsList h.writer h.list)
            views
            by
            w
            (record { alone = mine.alone; whole = λ _. refl; seen = whole_starts h.list; also = none_starts h.list })
            (λ j u _ e. h.each j u e);
      },
      record {
        writes = refl;
        onward = mine.seen;
        also = mine.also;
        whole = λ k. sym (mine.whole k);
        last = h.last;
        adds_up = subst AddsUp h.last (of_start AddsUp h.list h.list (whole_starts h.list) refl h.add_up);
        rises = of_start (λ t. NoneBelow t x) h.list v.seen mine.seen (zero-le, zero-le, zero-le, zero-le) h.rise;
      },
    )

-- the right to write goes to the new pass, if there it was; no pass but the first had it
pub hands : (by : ℕ) (v : View) → Forks Kept by v (watching v.seen) (handed v)
hands by v x views h at = go v.writes refl
  where
    left : View
    left = watching v.seen

    mine : FitsList h.writer h.list by v
    mine = h.each by v at

    to : (writer : ℕ) → (v.writes ≡ true → length (set views by left) ≡ writer) → ((j : ℕ) (u : View) → j ≢ by → get_elem? views j ≡ some u → u.writes ≡ true → j ≡ writer) → Kept x (set views by left ++ handed v ∷ [])
    to writer new others = record {
      writer = writer;
      list = h.list;
      last = h.last;
      add_up = h.add_up;
      rise = h.rise;
      each = push_each
          (FitsList writer h.list)
          (set views by left)
          (handed v)
          (record { alone = new; whole = mine.whole; seen = mine.seen; also = none_starts h.list })
          (set_each
          (FitsList writer h.list)
          views
          by
          left
          (record { alone = λ k. absurd (off k); whole = λ k. absurd (off k); seen = mine.seen; also = none_starts h.list })
          (λ j u apart e. let old = h.each j u e in record { alone = others j u apart e; whole = old.whole; seen = old.seen; also = old.also }));
    }

    go : (b : Bool) → v.writes ≡ b → Kept x (set views by left ++ handed v ∷ [])
    go true is = to (length (set views by left)) (λ _. refl) (λ j u apart e k. absurd (apart ((h.each j u e).alone k ∙ sym (mine.alone is))))
    go false is = to h.writer (λ k. absurd (off (sym is ∙ k))) (λ j u apart e k. (h.each j u e).alone k)

pub takes : (by : ℕ) (v : View) (other : ℕ) (u : View) → Merges Kept by v other u (taken v u) (watching [])
takes by v other u x views h at apart there = go u.writes refl
  where
    both : View
    both = taken v u

    mine : FitsList h.writer h.list by v
    mine = h.each by v at

    theirs : FitsList h.writer h.list other u
    theirs = ⊎_elim (λ (t : (other ≡ by) × (both ≡ u)). absurd (apart t.0)) (λ (t : (other ≢ by) × (get_elem? views other ≡ some u)). h.each other u t.1) (at_set views by other both u there)

    to : (writer : ℕ) → (u.writes ≡ true → by ≡ writer) → ((j : ℕ) (y : View) → j ≢ other → get_elem? views j ≡ some y → y.writes ≡ true → j ≡ writer) → Kept x (set (set views by both) other (watching []))
    to writer new others = record {
      writer = writer;
      list = h.list;
      last = h.last;
      add_up = h.add_up;
      rise = h.rise;
      each = set_each
          (FitsList writer h.list)
          (set views by both)
          other
          (watching [])
          (record { alone = λ k. absurd (off k); whole = λ k. absurd (off k); seen = none_starts h.list; also = none_starts h.list })
          (λ j y away e. set_each
          (λ i z. i ≢ other → FitsList writer h.list i z)
          views
          by
          both
          (λ _. record { alone = new; whole = theirs.whole; seen = theirs.seen; also = mine.seen })
          (λ i z _ e' away'. let old = h.each i z e' in record { alone = others i z away' e'; whole = old.whole; seen = old.seen; also = old.also })
          j
          y
          e
          away);
    }

    go : (b : Bool) → u.writes ≡ b → Kept x (set (set views by both) other (watching []))
    go true is = to by (λ _. refl) (λ j y away e k. absurd (away ((h.each j y e).alone k ∙ sym (theirs.alone is))))
    go false is = to h.writer (λ k. absurd (off (sym is ∙ k))) (λ j y away e k. (h.each j y e).alone k)
