use Rattle.std.proofs.Common.{rules, ◌≡◌, Some, option_map, map, leb, length, true, false, arith, refl, ◌∙◌}
use Rattle.std.proofs.lemmas.Bool.{le-leb, lt-leb}
use Rattle.std.proofs.lemmas.List.{length-map}
use Rattle.serde_json.specs.View.{view}
use Rattle.catalogue.specs.Reading.{bounded, integers}
use Rattle.catalogue.proofs.Steps.{too_many, few_enough}
use Rattle.catalogue.proofs.reading.read_split.Goals as goal

pub returns-then-documents-gt1023-clause-exact : goal.returns-then-documents-gt1023-clause-exact
returns-then-documents-gt1023-clause-exact c = λ said says _.
    let e : option_map bounded (integers (map view c.in-Bounded.documents.now)) ≡ Some said = rw c.in-Bounded.is at says in
    let many : leb (length (map view c.in-Bounded.documents.now)) 1023 ≡ false = rw length-map (lt-leb _ _ c.if-documents-gt1023.true) in
    too_many _ said e many

pub returns-in_err-read_bounds-in-Bounded-clause-exact : goal.returns-in_err-read_bounds-in-Bounded-clause-exact
returns-in_err-read_bounds-in-Bounded-clause-exact c = λ said says.
    let e : option_map bounded (integers (map view c.in-Bounded.documents.now)) ≡ Some said = rw c.in-Bounded.is at says in
    let few : leb (length (map view c.in-Bounded.documents.now)) 1023 ≡ true = le-leb _ _ (rw length-map (omega arith)) in
    rw (few_enough _ said e few) (search rules)

pub returns-in_ok-read_bounds-in-Bounded-clause-exact : goal.returns-in_ok-read_bounds-in-Bounded-clause-exact
returns-in_ok-read_bounds-in-Bounded-clause-exact c = λ said says.
    let e : option_map bounded (integers (map view c.in-Bounded.documents.now)) ≡ Some said = rw c.in-Bounded.is at says in
    let few : leb (length (map view c.in-Bounded.documents.now)) 1023 ≡ true = le-leb _ _ (rw length-map (omega arith)) in
    few_enough _ said e few ∙ rw c.in_ok-read_bounds-in-Bounded.ensures.exact refl
