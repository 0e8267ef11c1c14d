use Rattle.std.proofs.Common.{◌≡◌, ◌++◌, List, ℕ, OnOk, rules, subst}
use Rattle.std.proofs.lemmas.List.{drop_all}
use Rattle.row_text.proofs.Written.{line_written}
use Rattle.row_text.proofs.scratch.Scratch.push_line.Goals as goal

pub returns-in-Some : goal.returns-in-Some
returns-in-Some c =
    subst (λ (l : List ℕ). OnOk c.push_end.result (c.push_end.new.text.items ≡ c.args.text.now.items ++ l))
    (line_written c.args.catalogue.now c.args.name.now c.args.row.now c.table_name-table.result.now _ _
    c.table_name-table.ensures (drop_all 2048 c.args.self.now.room (search rules)) c.in-Some.ensures.1) c.push_end.ensures
