use Rattle.std.proofs.Common.{sym, arith, ap, ◌∙◌, ◌≤◌, length}
use Rattle.std.specs.List.{flat_map}
use Rattle.std.proofs.lemmas.List.{take_all}
use Rattle.std.proofs.lemmas.Result.{err_from_is_err_and}
use Rattle.drc_rows.proofs.Lines.{flat_more_at, flat_rest_at, Puts-then, Puts-cut, Puts-text}
use Rattle.drc_rows.proofs.NoteLists.{line_of, lines_are}
use Rattle.drc_rows.proofs.notes.push_constraints.Goals as goal

pub returns-in_err-push_constraint : goal.returns-in_err-push_constraint
returns-in_err-push_constraint g c =
    let p = err_from_is_err_and c.from_residual.result c.from_residual.ensures.1 in
    let line = line_of c.args.rules.now in
    let all = lines_are c.args.rules.now ∙ ap (flat_map line) (sym c.as_slice-notes.ensures) in
    Puts-cut _ _ _ _ _ _ _ _ _ _ _ _ _ p.1 (all ∙ flat_rest_at line c.as_slice-notes.result.now c.loop-note.note-index c.note-item.result (omega arith) c.note-item.is)
    (Puts-then _ _ _ _ _ _ _ _ _ _ _ _ _ c.loop-note.invariant c.in_err-push_constraint.ensures)

pub loop-note-preserved : goal.loop-note-preserved
loop-note-preserved g c =
    Puts-text _ _ _ _ _ _ _ _ _ (sym (flat_more_at (line_of c.args.rules.now) c.as_slice-notes.result.now c.loop-note.note-index c.note-item.result (omega arith) c.note-item.is))
    (Puts-then _ _ _ _ _ _ _ _ _ _ _ _ _ c.loop-note.invariant c.in_ok-push_constraint.ensures)

pub returns : goal.returns
returns g c =
    let line = line_of c.args.rules.now in
    let notes = c.as_slice-notes.result.now in
    let past : length notes ≤ c.loop-note.note-index = omega (arith, c.loop-note-test.false) in
    let whole = ap (flat_map line) (take_all c.loop-note.note-index notes past ∙ c.as_slice-notes.ensures) ∙ sym (lines_are c.args.rules.now) in
    Puts-text _ _ _ _ _ _ _ _ _ whole c.loop-note.invariant
