use Rattle.std.proofs.Common.{◌≡◌, false, List, [], ◌∷◌, length, refl, sym, subst, ◌∙◌, rules}
use Rattle.std.specs.List.{Contains, list_any}
use Rattle.footprint.specs.declared.resource.Resource.{Resource}
use Rattle.shelves.specs.Shelving.{shelf_of}
use Rattle.coarsen.specs.Subtrees.{Requests}
use Rattle.row_store.specs.Held.{AreRowsReady}
use Rattle.shelves.specs.Places.{among}
use Rattle.row_store.specs.Locked.{is_an_end}
use Rattle.row_store.proofs.LockedEnds.{no_end}
use Rattle.row_store.proofs.lending.hold.Goals as goal

pub locked_shelves-requires : goal.locked_shelves-requires
locked_shelves-requires c = λ e h. c.requires.over e (subst (λ (rs : Requests). Contains rs e) c.requests-requests.ensures.same h)

pub hold_rows-requires-clause-over : goal.hold_rows-requires-clause-over
hold_rows-requires-clause-over c = λ e h. c.requires.over e (subst (λ (rs : Requests). Contains rs e) c.requests-requests.ensures.same h)

nothing_among : (shelves : List Resource) (at : Resource) → length shelves ≡ 0 → among shelves at ≡ false
nothing_among [] at none = refl
nothing_among (r ∷ rs) at none = absurd (cc)

pub returns-then-not-locks_an_end-clause-ready : goal.returns-then-not-locks_an_end-clause-ready
returns-then-not-locks_an_end-clause-ready c =
    let same = c.requests-requests.ensures.same in
    let none : list_any (λ e. is_an_end c.args.catalogue.now e.0) c.requests-requests.result.now ≡ false = sym c.locks_an_end.ensures ∙ c.if-not-locks_an_end.true in
    subst (λ (rs : Requests). AreRowsReady c.args.catalogue.now rs c.args.shelves.now c.hold_rows.new.shelves c.in_ok-rows.rows) same (record {
      no_shelf = λ q. sym (c.in_ok-read_shelves.ensures q) ∙ nothing_among c.in_ok-read_shelves.read_shelves.items (shelf_of c.args.catalogue.now q) (search rules);
      no_end = no_end c.args.catalogue.now c.requests-requests.result.now none;
      written = c.in_ok-rows.ensures.written;
      read = c.in_ok-rows.ensures.read;
      with_place = c.in_ok-rows.ensures.there;
      distinct = c.in_ok-rows.ensures.distinct;
    })
