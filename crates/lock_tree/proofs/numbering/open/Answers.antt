use Rattle.std.proofs.Common.{◌≡◌, ◌<◌, [], ◌∙◌, Some, Result, Ok, Err, IsOk, sym, ap, arith}
use Rattle.std.specs.Result.{OnOk}
use Rattle.std.specs.HashMap.{get, spare}
use Rattle.footprint.specs.declared.resource.Resource.{Resource}
use Rattle.lock_tree.specs.Keys.{resource_eq}
use Rattle.lock_tree.specs.Lines.{Lines, number_of, nodes_of, numbered}
use Rattle.lock_tree.proofs.Resources.{changed_as}
use Rattle.lock_tree.proofs.Vacancies.{number_here, opened, opened_kept, opened_lines}
use Rattle.lock_tree.proofs.numbering.open.Goals as goal

-- where nothing can fail it is done
done : {X Y : Type 0} (r : Result X Y) (what : Type 0) → OnOk r what → IsOk r → what
done (Ok x) what is ok = is
done (Err y) what is ok = absurd (cc)

pub returns : goal.returns
returns c =
    let l = c.args.lines.now in let t = c.take-number.new.lines in let q = c.take-number.result in let r = c.args.resource.now in let taken = c.take-number.ensures in
    let now : Lines = record t { numbers = c.insert.new.self } in
    let room : spare t.numbers ≡ spare l.numbers = ap spare taken.numbers in
    let spare_one : 0 < spare t.numbers = (let h = c.requires.room in omega (arith, room, h)) in
    let updates = changed_as (number_of t) (number_of now) r (Some q) (done c.insert.result _ c.insert.ensures.updates (c.insert.ensures.succeeds spare_one)).0 in
    let same : (s : Resource) → number_of t s ≡ number_of l s = λ s. ap (λ m. get resource_eq m s) taken.numbers in
    let empty : nodes_of l.nodes q ≡ [] = sym (ap (λ n. nodes_of n q) taken.nodes) ∙ taken.empty in
    let none_yet = same r ∙ c.requires.none in
    record {
      numbered = opened t now r q updates taken.numbered taken.within taken.empty taken.noted none_yet;
      granted = taken.granted;
      within = taken.within;
      nodes = taken.nodes;
      named = number_here t now r q updates;
      kept = λ s n e. opened_kept t now r q updates taken.numbered taken.within taken.empty taken.noted none_yet s n (same s ∙ e);
      same = λ s. opened_lines t now r q updates taken.numbered taken.within taken.empty taken.noted none_yet s ∙ (λ i. numbered (taken.nodes i) (same s i));
      room = λ count h. (let used = c.insert.ensures.spare in omega (arith, used, room, h));
    }
