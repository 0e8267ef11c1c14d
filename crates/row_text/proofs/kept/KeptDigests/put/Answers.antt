use Rattle.std.proofs.Common.{◌≡◌, ◌<◌, refl, sym, subst, length, Some}
use Rattle.std.proofs.lemmas.Option.{slice_get_read}
use Rattle.row_text.proofs.KeptOnes.{kept_put}
use Rattle.row_text.proofs.kept.KeptDigests.put.Goals as goal

pub returns-clause-kept : goal.returns-clause-kept
returns-clause-kept c =
    let is : c.place.result ≡ c.args.table = c.place.ensures in
    let within : c.place.result < length c.args.self.now.tables.items = subst (λ n. n < length c.args.self.now.tables.items) (sym is) c.requires in
    rw (sym is) (kept_put c.args.self.now.tables.items c.place.result c.args.part c.index_mut.result.now c.insert.new.self (Some c.args.hash)
    (slice_get_read c.args.self.now.tables.items (length c.args.self.now.tables.items) c.place.result c.index_mut.result.now refl within c.index_mut.ensures.value)
    c.in_ok-insert.ensures.updates.0)
