use Rattle.std.proofs.Common.{◌≡◌, ◌∙◌, refl, sym, subst, ℕ, ℤ, List, rules, to_z, of_z, w64}
use Rattle.std.proofs.lemmas.List.{with_items_is}
use Rattle.std.specs.Vec.{with_items}
use Rattle.edit_script.specs.Commands.{plain_command}
use Rattle.board_edits.specs.declared.operation.Operation.{Operation}
use Rattle.board_edits.specs.Fitting.{plain_operation}
use Rattle.board_write.specs.declared.marks.Mark.{Mark}
use Rattle.board_write.specs.Marks.{IsMarkedOn, IsHeld}
use Rattle.board_write.specs.EditState.{IsNoted}
use Rattle.board_write.proofs.edit_state.note.Goals as goal

-- the same of the lists that were lent
marked_in : (unit : ℕ) (dx dy : ℤ) (lent now before after : List Mark) → lent ≡ before → after ≡ now → IsMarkedOn dx dy unit lent now → IsMarkedOn dx dy unit before after
marked_in unit dx dy lent now before after e f m = subst (λ (l : List Mark). IsMarkedOn dx dy unit l after) e (subst (λ (l : List Mark). IsMarkedOn dx dy unit lent l) (sym f) m)

-- and of distances that were passed on
marked_by : (unit : ℕ) (dx dy x y : ℤ) (lent now : List Mark) → x ≡ dx → y ≡ dy → IsMarkedOn x y unit lent now → IsMarkedOn dx dy unit lent now
marked_by unit dx dy x y lent now e f m = subst (λ (z : ℤ). IsMarkedOn z dy unit lent now) e (subst (λ (z : ℤ). IsMarkedOn x z unit lent now) f m)

pub returns-in-Shift-clause-noted : goal.returns-in-Shift-clause-noted
returns-in-Shift-clause-noted c =
    let old = c.args.edit_state.now in
    let unit = c.in-Shift.unit in
    let dx = c.in-Shift.dx in
    let dy = c.in-Shift.dy in
    let x : to_z w64 (of_z w64 c.in-Shift.dx) ≡ c.in-Shift.dx = search rules in
    let y : to_z w64 (of_z w64 c.in-Shift.dy) ≡ c.in-Shift.dy = search rules in
    let lent = c.deref_mut-in-Shift.result.now in
    let now = c.note_move.new.marks in
    let known = c.note_move.ensures in
    let marked = marked_by unit dx dy _ _ lent now x y known.marked in
    let is = with_items_is old.marks now (c.note_move.auto.marks ∙ c.deref_mut-in-Shift.ensures.len) in
    subst (λ (d : Operation). IsNoted (plain_command c.args.command.now) (plain_operation d) old (record { board = old.board; marks = with_items old.marks now; added = old.added; refused = old.refused })) (sym c.in-Shift.is)
    (marked_in unit dx dy lent now old.marks.items _ c.deref_mut-in-Shift.ensures.value is marked, refl, subst IsHeld x known.held.0, subst IsHeld y known.held.1)
