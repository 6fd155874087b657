use Rattle.std.proofs.Common.{◌++◌, refl, codes}
use Rattle.std.proofs.lemmas.Result.{err_from_is_err_and}
use Rattle.exact_dec.specs.MillimetreText.{mm_text}
use Rattle.drc_rows.specs.Report.{title_of}
use Rattle.drc_rows.proofs.Lines.{Puts-then, Puts-cut, Puts-text}
use Rattle.drc_rows.proofs.Reach.{reach_far, reach_fits}
use Rattle.drc_rows.proofs.Scalars.{both_as}
use Rattle.drc_rows.proofs.net.push_item_at.Goals as goal

pub push_lengths-requires-clause-first : goal.push_lengths-requires-clause-first
push_lengths-requires-clause-first g c = reach_far c.args.anchor.x c.args.anchor.x_in_range

pub push_lengths-requires-clause-second : goal.push_lengths-requires-clause-second
push_lengths-requires-clause-second g c = reach_far c.args.anchor.y c.args.anchor.y_in_range

pub returns-in_err-push_title : goal.returns-in_err-push_title
returns-in_err-push_title g c =
    let p = err_from_is_err_and c.from_residual.result c.from_residual.ensures.1 in
    let item = c.args.item.now in
    let anchor = c.args.anchor in
    Puts-cut _ _ _ _ _ (title_of item.name item.what) (codes " at " ++ mm_text anchor.x ++ codes " " ++ mm_text anchor.y) _ _ _ _ _ _ p.1 refl c.in_err-push_title.ensures

pub returns : goal.returns
returns g c =
    let anchor = c.args.anchor in
    let place = both_as (codes " at ") (codes " ") _ _ anchor.x anchor.y (reach_fits anchor.x anchor.x_in_range) (reach_fits anchor.y anchor.y_in_range) in
    Puts-then _ _ _ _ _ _ _ _ _ _ _ _ _ c.in_ok-push_title.ensures (Puts-text _ _ _ _ _ _ _ _ _ place c.push_lengths.ensures)
