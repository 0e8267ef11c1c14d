use Rattle.std.proofs.Common.{inl, inr, refl, option_map, string_bytes}
use Rattle.calvin.proofs.ListedRows.{not_there, place_within}
use Rattle.calvin.proofs.listing.rows.Goals as goal

pub list-requires-clause-place : goal.list-requires-clause-place
list-requires-clause-place g c = λ κs bounds. place_within c.in-Ok.document.setup.catalogue _ c.in-Ok-place_of.place c.in-Ok-place_of.ensures.place

pub returns-in-Err-place_of : goal.returns-in-Err-place_of
returns-in-Err-place_of g c =
    let none = not_there c.in-Ok.document.setup.catalogue (option_map string_bytes c.args.listing.now.table) c.in-Err-place_of.ensures.status.1 in
    inr (c.in-Ok.document, c.in-Ok.ensures.setup, inl ((c.in-Err-place_of.ensures.status.0, none.0, none.1, none.2), refl, refl))

pub returns : goal.returns
returns g c = inr (c.in-Ok.document, c.in-Ok.ensures.setup, inr (c.list.ensures (option_map string_bytes c.args.listing.now.table) c.in-Ok-place_of.ensures.place))
