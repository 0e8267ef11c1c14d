use Rattle.std.proofs.Common.{refl, sym, arith}
use Rattle.lock_tree.proofs.Vacancies.{reopened}
use Rattle.lock_tree.proofs.numbering.number_for.Goals as goal

pub returns-in-Some : goal.returns-in-Some
returns-in-Some c =
    let l = c.args.lines.now in let named = sym c.in-Some.ensures in
    record {
      numbered = reopened l c.args.resource.now c.in-Some.number c.requires.numbered named;
      granted = c.requires.granted;
      within = (c.requires.numbered.named c.args.resource.now c.in-Some.number named).0;
      nodes = refl;
      named = named;
      kept = λ s n e. e;
      same = λ s. refl;
      room = λ count h. omega (arith, h);
    }
