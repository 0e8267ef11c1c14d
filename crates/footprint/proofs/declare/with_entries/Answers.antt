use Rattle.std.proofs.Common.{◌≡◌, ◌+◌, ℕ, pos, arith, map, drop, length, List, ◌∷◌, sym, ap, ◌∙◌}
use Rattle.std.proofs.lemmas.Grind.{common_steps}
use Rattle.proclang_types.specs.Syntax.{EntrySyntax}
use Rattle.proclang_types.specs.Views.{entry_view}
use Rattle.footprint.specs.Declaration.{with_entries}
use Rattle.footprint.specs.Grants.{granted}
use Rattle.footprint.specs.Rights.{FootprintOf, with_rights}
use Rattle.footprint.proofs.Ranges.{size_granted}
use Rattle.footprint.proofs.Entries.{one_entry, one_too_many}
use Rattle.footprint.proofs.declare.with_entries.Goals as goal

pub returns-then-count-gt65536-clause-exact : goal.returns-then-count-gt65536-clause-exact
returns-then-count-gt65536-clause-exact c =
    let rest : map entry_view (drop c.loop-entry.entry-index c.args.entries.now.items) ≡ entry_view c.entry-item.result ∷ map entry_view (drop (c.loop-entry.entry-index + 1) c.args.entries.now.items) = grind (arith, common_steps) in
    let size : c.size-count.result ≡ length (granted c.args.catalogue.now c.in_ok-grant.grant) = c.size-count.ensures ∙ sym (size_granted c.args.catalogue.now c.in_ok-grant.grant) in
    sym c.loop-entry.invariant.meant
    ∙ ap (λ (es : List EntrySyntax). with_entries (pos 0) c.args.catalogue.now c.args.arguments.now c.loop-entry.count c.loop-entry.footprint es) rest
    ∙ one_too_many c.args.catalogue.now c.args.arguments.now c.loop-entry.count c.loop-entry.footprint (entry_view c.entry-item.result) (map entry_view (drop (c.loop-entry.entry-index + 1) c.args.entries.now.items)) (granted c.args.catalogue.now c.in_ok-grant.grant) c.in_ok-grant.ensures.exact
    (let more = c.if-count-gt65536.true in omega (arith, more, size))

pub loop-entry-preserved : goal.loop-entry-preserved
loop-entry-preserved c = record {
  meant =
      let rest : map entry_view (drop c.loop-entry.entry-index c.args.entries.now.items) ≡ entry_view c.entry-item.result ∷ map entry_view (drop (c.loop-entry.entry-index + 1) c.args.entries.now.items) = grind (arith, common_steps) in
      let size : c.size-count.result ≡ length (granted c.args.catalogue.now c.in_ok-grant.grant) = c.size-count.ensures ∙ sym (size_granted c.args.catalogue.now c.in_ok-grant.grant) in
      let left = map entry_view (drop (c.loop-entry.entry-index + 1) c.args.entries.now.items) in
      ap (λ (f : FootprintOf). with_entries (pos 0) c.args.catalogue.now c.args.arguments.now (c.loop-entry.count + c.size-count.result) f left) c.in_ok-add_to.ensures.added
      ∙ ap (λ (n : ℕ). with_entries (pos 0) c.args.catalogue.now c.args.arguments.now (c.loop-entry.count + n) (with_rights c.loop-entry.footprint (granted c.args.catalogue.now c.in_ok-grant.grant)) left) size
      ∙ sym (one_entry c.args.catalogue.now c.args.arguments.now c.loop-entry.count c.loop-entry.footprint (entry_view c.entry-item.result) (map entry_view (drop (c.loop-entry.entry-index + 1) c.args.entries.now.items)) (granted c.args.catalogue.now c.in_ok-grant.grant) c.in_ok-grant.ensures.exact
      (let few = c.if-count-gt65536.false in omega (arith, few, size)))
      ∙ sym (ap (λ (es : List EntrySyntax). with_entries (pos 0) c.args.catalogue.now c.args.arguments.now c.loop-entry.count c.loop-entry.footprint es) rest)
      ∙ c.loop-entry.invariant.meant;
  tables = grind (arith, common_steps);
  few = let few = c.if-count-gt65536.false in omega (arith, few);
  of_catalogue = c.in_ok-add_to.ensures.of_catalogue c.loop-entry.invariant.of_catalogue;
}
