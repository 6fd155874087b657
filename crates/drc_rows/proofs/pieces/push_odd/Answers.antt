use Rattle.std.proofs.Common.{refl, ◌++◌, append_assoc, codes}
use Rattle.std.proofs.lemmas.Result.{err_from_is_err_and}
use Rattle.drc_rows.specs.Buffer.{escaped}
use Rattle.drc_rows.proofs.Lines.{Puts-then, Puts-cut}
use Rattle.drc_rows.proofs.pieces.push_odd.Goals as goal

pub returns-in_err-push_all : goal.returns-in_err-push_all
returns-in_err-push_all g c =
    let p = err_from_is_err_and c.from_residual.result c.from_residual.ensures.1 in
    let word = c.args.word.now in
    let name = c.args.name.now in
    Puts-cut _ _ _ _ _ (word ++ codes " \"") (escaped name ++ codes "\"") _ _ _ _ _ _ p.1 (append_assoc (word ++ codes " \"") (escaped name) (codes "\""))
    c.in_err-push_all.ensures

pub returns-in_err-push_bytes : goal.returns-in_err-push_bytes
returns-in_err-push_bytes g c =
    let p = err_from_is_err_and c.from_residual-in_err-push_bytes.result c.from_residual-in_err-push_bytes.ensures.1 in
    let word = c.args.word.now in
    let name = c.args.name.now in
    Puts-cut _ _ _ _ _ (word ++ codes " \"" ++ escaped name) (codes "\"") _ _ _ _ _ _ p.1 refl
    (Puts-then _ _ _ _ _ _ _ _ _ _ _ _ _ c.in_ok-push_all.ensures c.in_err-push_bytes.ensures)

pub returns : goal.returns
returns g c =
    Puts-then _ _ _ _ _ _ _ _ _ _ _ _ _ (Puts-then _ _ _ _ _ _ _ _ _ _ _ _ _ c.in_ok-push_all.ensures c.in_ok-push_bytes.ensures) c.push.ensures
