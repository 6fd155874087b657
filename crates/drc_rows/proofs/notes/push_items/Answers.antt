use Rattle.std.proofs.Common.{sym, arith, ap, ◌∙◌, ◌≤◌, length}
use Rattle.std.specs.List.{flat_map}
use Rattle.std.proofs.lemmas.List.{take_all}
use Rattle.std.proofs.lemmas.Result.{err_from_is_err_and}
use Rattle.drc_rows.specs.NoteLines.{note_line, item_lines}
use Rattle.drc_rows.proofs.Lines.{flat_more, flat_rest, Puts-then, Puts-cut, Puts-text}
use Rattle.drc_rows.proofs.notes.push_items.Goals as goal

pub returns-in_err-push_note_at : goal.returns-in_err-push_note_at
unfolding item_lines
returns-in_err-push_note_at g c =
    let p = err_from_is_err_and c.from_residual.result c.from_residual.ensures.1 in
    let line = note_line c.args.board.now in
    let all = ap (flat_map line) (sym c.notes-notes.ensures) in
    Puts-cut _ _ _ _ _ _ _ _ _ _ _ _ _ p.1 (all ∙ flat_rest line c.notes-notes.result.now c.loop-note.note-index 0 (omega arith))
    (Puts-then _ _ _ _ _ _ _ _ _ _ _ _ _ c.loop-note.invariant c.in_err-push_note_at.ensures)

pub loop-note-preserved : goal.loop-note-preserved
loop-note-preserved g c =
    Puts-text _ _ _ _ _ _ _ _ _ (sym (flat_more (note_line c.args.board.now) c.notes-notes.result.now c.loop-note.note-index 0 (omega arith)))
    (Puts-then _ _ _ _ _ _ _ _ _ _ _ _ _ c.loop-note.invariant c.in_ok-push_note_at.ensures)

pub returns : goal.returns
unfolding item_lines
returns g c =
    let line = note_line c.args.board.now in
    let notes = c.notes-notes.result.now in
    let past : length notes ≤ c.loop-note.note-index = omega (arith, c.loop-note-test.false) in
    let whole = ap (flat_map line) (take_all c.loop-note.note-index notes past ∙ c.notes-notes.ensures) in
    Puts-text _ _ _ _ _ _ _ _ _ whole c.loop-note.invariant
