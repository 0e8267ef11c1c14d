use Rattle.std.proofs.Common.{ap, ◌∙◌}
use Rattle.progress.specs.Passes.{published}
use Rattle.progress.specs.Tallies.{latest}
use Rattle.progress.proofs.Pushed.{latest_push}
use Rattle.progress.proofs.publisher.Publisher.publish.Goals as goal

pub invariant_of-self : goal.invariant_of-self
invariant_of-self g c =
    let was = c.self.invariant in (
      c.publish.ensures.own ∙ was.0,
      was.1,
      ap latest c.publish.ensures.gained ∙ latest_push (published c.self.inside.writer) c.args.tally,
      c.requires.adds_up,
    )
