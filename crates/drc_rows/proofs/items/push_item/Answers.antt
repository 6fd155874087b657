use Rattle.std.proofs.Common.{◌++◌, refl, arith, codes}
use Rattle.std.proofs.lemmas.Result.{err_from_is_err_and}
use Rattle.exact_dec.specs.MillimetreText.{mm_text}
use Rattle.drc_rows.specs.Report.{title_of}
use Rattle.int_algebra.proofs.Scalars.{passed_is}
use Rattle.drc_rows.proofs.Scalars.{x_near, y_near, both_as}
use Rattle.drc_rows.proofs.Lines.{Puts-then, Puts-cut, Puts-text}
use Rattle.drc_rows.proofs.items.push_item.Goals as goal

pub returns-in_err-push_title : goal.returns-in_err-push_title
returns-in_err-push_title g c =
    let p = err_from_is_err_and c.from_residual.result c.from_residual.ensures.1 in
    let item = c.args.item.now in
    Puts-cut _ _ _ _ _ (title_of item.name item.what) (codes " at " ++ mm_text item.x ++ codes " " ++ mm_text item.y) _ _ _ _ _ _ p.1 refl c.in_err-push_title.ensures

pub returns : goal.returns
returns g c =
    let item = c.args.item.now in
    let x = passed_is item.x (omega (arith, x_near item c.requires)) in
    let y = passed_is item.y (omega (arith, y_near item c.requires)) in
    Puts-then _ _ _ _ _ _ _ _ _ _ _ _ _ c.in_ok-push_title.ensures
    (Puts-text _ _ _ _ _ _ _ _ _ (both_as (codes " at ") (codes " ") _ _ item.x item.y x y) c.push_lengths.ensures)
