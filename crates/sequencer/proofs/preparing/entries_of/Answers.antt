use Rattle.std.proofs.Common.{◌≡◌, ap, sym, ◌∙◌}
use Rattle.std.proofs.lemmas.Option.{slice_get_within, get_or_from_slice_get}
use Rattle.interp.specs.Entries.{entry_shape}
use Rattle.interp.specs.Over.{IsEntryOver}
use Rattle.meaning.specs.Entries.{EntryShape}
use Rattle.requests.specs.Requests.{Call}
use Rattle.sequencer.specs.Attempts.{requests_of}
use Rattle.sequencer.specs.Entries.{prepared}
use Rattle.sequencer.proofs.Mapped.{mapped_next, all_next, all_at}
use Rattle.sequencer.proofs.preparing.entries_of.Goals as goal

pub loop-place-preserved : goal.loop-place-preserved
loop-place-preserved g c =
    let requests = requests_of c.args.carried.now c.args.items.now in
    let call = c.request_at-request.result.now in
    let less = slice_get_within requests c.loop-place.place call c.request_at-request.ensures in
    let is = sym (get_or_from_slice_get requests c.loop-place.place call call c.request_at-request.ensures) in
    let shape = c.in_ok-entry_of.ensures.shape in
    let pushed = c.in_ok-push.ensures.items in
    record {
      exact = mapped_next (prepared (g.V.RowView.rows c.args.view.now)) entry_shape requests c.loop-place.place call c.loop-place.entries.items c.push.new.self.items c.in_ok-entry_of.field-0 less is pushed c.loop-place.invariant.exact shape;
      tables =
          all_next (λ entry. entry.request.proc.tables ≡ c.args.catalogue.now) c.loop-place.entries.items c.push.new.self.items c.in_ok-entry_of.field-0 pushed c.loop-place.invariant.tables
          (ap (λ (s : EntryShape). s.tables) shape ∙ all_at (λ (request : Call). request.proc.tables ≡ c.args.catalogue.now) requests c.loop-place.place call less is c.requires.over);
      of_catalogue = all_next (IsEntryOver c.args.catalogue.now) c.loop-place.entries.items c.push.new.self.items c.in_ok-entry_of.field-0 pushed c.loop-place.invariant.of_catalogue c.in_ok-entry_of.ensures.of_catalogue;
    }
