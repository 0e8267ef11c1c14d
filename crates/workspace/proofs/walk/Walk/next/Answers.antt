use Rattle.std.proofs.Common.{◌≡◌, ℕ, ◌∙◌, sym, subst, Option, Some}
use Rattle.workspace.specs.declared.walk.Walk.{Walk}
use Rattle.workspace.specs.Overlay.{applied}
use Rattle.workspace.specs.Walks.{IsNextKey, IsWalk, lesser}
use Rattle.workspace.proofs.Merged.{merged, own_passed, theirs_passed}
use Rattle.workspace.proofs.walk.Walk.next.Goals as goal
use Rattle.workspace.proofs.walk.Walk.next.Goals.{then-is_second, else-is_second}

pub returns-in_err-key-clause-next : goal.returns-in_err-key-clause-next
returns-in_err-key-clause-next g c =
    let tables = c.args.shown.now.permit.catalogue.now in
    let ws = c.args.space.now.writes.entries in
    let e : lesser c.args.self.now.theirs c.args.self.now.own ≡ c.from_residual.result = sym c.lesser.ensures ∙ c.in_err-key.was ∙ sym c.from_residual.ensures in
    subst (λ (o : Option ℕ). IsNextKey tables (applied ws (g.V.RowView.rows c.args.shown.now.view.now)) c.args.table c.args.part c.args.self.now.after o) e
    (merged tables ws (g.V.RowView.rows c.args.shown.now.view.now) c.args.table c.args.part c.args.self.now.after c.args.self.now.theirs c.args.self.now.own c.requires.walk.theirs c.requires.walk.own)

pub returns-clause-next : goal.returns-clause-next
returns-clause-next g c =
    let tables = c.args.shown.now.permit.catalogue.now in
    let ws = c.args.space.now.writes.entries in
    let e : lesser c.args.self.now.theirs c.args.self.now.own ≡ Some c.in_ok-key.key = sym c.lesser.ensures ∙ c.in_ok-key.was in
    subst (λ (o : Option ℕ). IsNextKey tables (applied ws (g.V.RowView.rows c.args.shown.now.view.now)) c.args.table c.args.part c.args.self.now.after o) e
    (merged tables ws (g.V.RowView.rows c.args.shown.now.view.now) c.args.table c.args.part c.args.self.now.after c.args.self.now.theirs c.args.self.now.own c.requires.walk.theirs c.requires.walk.own)

pub returns-clause-walk : goal.returns-clause-walk
returns-clause-walk g c =
    let tables = c.args.shown.now.permit.catalogue.now in
    let ws = c.args.space.now.writes.entries in
    let e : lesser c.args.self.now.theirs c.args.self.now.own ≡ Some c.in_ok-key.key = sym c.lesser.ensures ∙ c.in_ok-key.was in
    let after : Walk → Type 0 = λ (walk : Walk). IsWalk tables ws (g.V.RowView.rows c.args.shown.now.view.now) c.args.table c.args.part (record { after = Some c.in_ok-key.key; theirs = walk.theirs; own = walk.own }) in
    elim c.if-is_second.branch [
      | then-is_second w ↦ subst after (sym w.self-is)
          (own_passed tables ws (g.V.RowView.rows c.args.shown.now.view.now) c.args.table c.args.part c.args.self.now.after c.args.self.now.theirs c.args.self.now.own w.next_own-self.result c.in_ok-key.key c.requires.walk e (sym w.if-is_second.ensures) w.next_own-self.ensures)
      | else-is_second w ↦ subst after (sym w.self-is)
          (theirs_passed tables ws (g.V.RowView.rows c.args.shown.now.view.now) c.args.table c.args.part c.args.self.now.after c.args.self.now.theirs c.args.self.now.own w.next_untouched-self.result c.in_ok-key.key c.requires.walk e (sym w.if-is_second.ensures) w.next_untouched-self.ensures)
    ]
