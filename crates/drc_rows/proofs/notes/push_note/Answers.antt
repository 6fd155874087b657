use Rattle.std.proofs.Common.{refl, ◌++◌, append_assoc, codes}
use Rattle.std.proofs.lemmas.Result.{err_from_is_err_and}
use Rattle.drc_rows.specs.NoteLines.{about_text}
use Rattle.drc_rows.proofs.Lines.{Puts-then, Puts-cut}
use Rattle.drc_rows.proofs.notes.push_note.Goals as goal

pub returns-in_err-push : goal.returns-in_err-push
returns-in_err-push g c =
    let p = err_from_is_err_and c.from_residual.result c.from_residual.ensures.1 in
    let told = c.args.told in
    let about = about_text told.about told.layer.now told.name.now told.reference.now in
    Puts-cut _ _ _ _ _ (codes "not checked: ") (about ++ codes "\n") _ _ _ _ _ _ p.1 (append_assoc (codes "not checked: ") about (codes "\n")) c.in_err-push.ensures

pub returns-in_err-push_about : goal.returns-in_err-push_about
returns-in_err-push_about g c =
    let p = err_from_is_err_and c.from_residual-in_err-push_about.result c.from_residual-in_err-push_about.ensures.1 in
    let told = c.args.told in
    let about = about_text told.about told.layer.now told.name.now told.reference.now in
    Puts-cut _ _ _ _ _ (codes "not checked: " ++ about) (codes "\n") _ _ _ _ _ _ p.1 refl
    (Puts-then _ _ _ _ _ _ _ _ _ _ _ _ _ c.in_ok-push.ensures c.in_err-push_about.ensures)

pub returns : goal.returns
returns g c = Puts-then _ _ _ _ _ _ _ _ _ _ _ _ _ (Puts-then _ _ _ _ _ _ _ _ _ _ _ _ _ c.in_ok-push.ensures c.in_ok-push_about.ensures) c.push-2.ensures
